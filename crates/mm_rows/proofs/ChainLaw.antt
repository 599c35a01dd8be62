-- Chains of citations, one citation at a time.
use Rattle.std.proofs.Common.{◌≡◌, ℕ, true, false, ◌||◌, List, ◌⊎◌, inl, inr, ⊎_elim, ◌<◌, ◌≤◌, ◌+◌}
use Rattle.std.proofs.Common.{length, subst, sym, refl, arith, get_or, bit_or, slice_range, eqb}
use Rattle.std.proofs.Common.{◌++◌, ◌*◌, ◌∙◌}
use Rattle.std.proofs.lemmas.Bool.Decides.{Decides-at, Decides-or, nat_tests}
use Rattle.std.specs.Prelude.{Decides}
use Rattle.mm_rows.specs.Bits.{EndsAt, is_bit, words_for}
use Rattle.mm_rows.proofs.BitLaw.{or_bits}
use Rattle.std.proofs.lemmas.Grind.{common_steps}
use Rattle.mm_cites.specs.Citing.{Citing, HasCitation, IsStatementList, IsFileOrder, theorem_at}
use Rattle.mm_cites.specs.Citing.{list_at}
use Rattle.mm_spec.specs.Chains.{RestsOn}
use Rattle.mm_spec.proofs.ChainsLaw.{rests_by_one_step}
use Rattle.mm_spec.proofs.BoolLaw.{or_with_false}
use Rattle.mm_rows.specs.BitRows.{IsBitRow, AreBitRows, AreEnds, row_at}

-- a rising list has a number once
pub index_is_unique : (xs : List ℕ) (i j : ℕ) → IsStatementList xs → i < length xs → j < length xs
    → get_or xs i 0 ≡ get_or xs j 0 → i ≡ j
index_is_unique xs i j is_statement_list i_lt_length j_lt_length elements_equal = grind arith

-- in file order a cited theorem has an earlier row
pub earlier_row : (c : Citing) (i r k : ℕ) → IsFileOrder c → i < length c.theorems
    → k < length (list_at c i) → r < length c.theorems → theorem_at c r ≡ get_or (list_at c i) k 0
    → r < i
earlier_row c i r k is_file_order i_lt_theorems is_listed r_lt_theorems theorem_is_cited =
    grind (arith, nat_tests)

-- what is listed for a theorem is cited by it
pub listed_is_cited : (c : Citing) (i m : ℕ) → i < length c.theorems → m < length (list_at c i)
    → HasCitation c (theorem_at c i) (get_or (list_at c i) m 0)
listed_is_cited c i m i_lt_theorems m_lt_length = grind arith

-- and the other way round
pub cited_is_listed : (c : Citing) (i b : ℕ) → IsFileOrder c → i < length c.theorems
    → HasCitation c (theorem_at c i) b
    → (m : ℕ) × (m < length (list_at c i)) × (get_or (list_at c i) m 0 ≡ b)
cited_is_listed c i b is_file_order i_lt_theorems has_citation = grind (arith, nat_tests)

-- a place of a list below n whose statement is a, or rests on it
abbrev pub IsVia : Citing → List ℕ → ℕ → ℕ → Type 0
IsVia c cited n a =
    (m : ℕ) × (m < n) × ((get_or cited m 0 ≡ a) ⊎ RestsOn (HasCitation c) (get_or cited m 0) a)

-- the bits of a row that is filled from the first n citations
pub record FilledFrom (c : Citing) (axioms cited : List ℕ) (n : ℕ) (row : List ℕ) : Type 0 where
  pub has_words : length row ≡ words_for (length axioms)
  pub marks_decide : (j : ℕ) → j < length axioms
      → Decides (is_bit row j) (IsVia c cited n (get_or axioms j 0))
  pub none_past_columns : (j : ℕ) → length axioms ≤ j → is_bit row j ≡ false

pub filled_with_one_more : (c : Citing) (axioms cited : List ℕ) (n : ℕ)
    (row marked filled : List ℕ)
    → FilledFrom c axioms cited n row
    → length filled ≡ length row
    → ((j : ℕ) → j < length axioms
    → Decides (is_bit marked j) ((is_bit row j ≡ true) ⊎ (get_or cited n 0 ≡ get_or axioms j 0)))
    → ((j : ℕ) → length axioms ≤ j → is_bit marked j ≡ is_bit row j)
    → ((j : ℕ) → j < length axioms
    → Decides (is_bit filled j)
    ((is_bit marked j ≡ true) ⊎ RestsOn (HasCitation c) (get_or cited n 0) (get_or axioms j 0)))
    → ((j : ℕ) → length axioms ≤ j → is_bit filled j ≡ is_bit marked j)
    → FilledFrom c axioms cited (n + 1) filled
filled_with_one_more c axioms cited n row marked filled filled_before lengths_equal mid_decides
    mid_past_columns new_decides new_past_columns = grind (arith, nat_tests)

-- after all citations of a theorem, its row is right
pub filled_row_is_bit_row : (c : Citing) (axioms : List ℕ) (i : ℕ) (row : List ℕ) → IsFileOrder c
    → i < length c.theorems → FilledFrom c axioms (list_at c i) (length (list_at c i)) row
    → IsBitRow c axioms (theorem_at c i) row
filled_row_is_bit_row c axioms i row is_file_order i_lt_theorems filled = record {
  has_words = filled.has_words;
  marks_decide =
      λ j j_lt_columns. (
        λ is_marked. via_gives_rests (get_or axioms j 0)
            ((filled.marks_decide j j_lt_columns).0 is_marked),
        λ rests. (filled.marks_decide j j_lt_columns).1
            (rests_gives_via (get_or axioms j 0) rests),
      );
  none_past_columns = filled.none_past_columns;
}
  where
    via_gives_rests : (a : ℕ) → IsVia c (list_at c i) (length (list_at c i)) a
        → RestsOn (HasCitation c) (theorem_at c i) a
    via_gives_rests a is_via =
        let rests_if_step = (rests_by_one_step (HasCitation c) (theorem_at c i) a).1 in
        let cites = listed_is_cited c i is_via.0 i_lt_theorems is_via.1 in
        elim is_via.2 [
          | inl is_a ↦ rests_if_step (inl (subst (HasCitation c (theorem_at c i)) is_a cites))
          | inr cited_rests ↦ rests_if_step
              (inr (get_or (list_at c i) is_via.0 0, cites, cited_rests))
        ]

    via_of_citation : (b a : ℕ) → HasCitation c (theorem_at c i) b
        → (b ≡ a) ⊎ RestsOn (HasCitation c) b a
        → IsVia c (list_at c i) (length (list_at c i)) a
    via_of_citation b a has_citation is_or_rests =
        let listed = cited_is_listed c i b is_file_order i_lt_theorems has_citation in (
          listed.0,
          listed.1,
          subst (λ x. (x ≡ a) ⊎ RestsOn (HasCitation c) x a) (sym listed.2) is_or_rests,
        )

    rests_gives_via : (a : ℕ) → RestsOn (HasCitation c) (theorem_at c i) a
        → IsVia c (list_at c i) (length (list_at c i)) a
    rests_gives_via a rests_on =
        elim ((rests_by_one_step (HasCitation c) (theorem_at c i) a).0 rests_on) [
          | inl cites_a ↦ via_of_citation a a cites_a (inl refl)
          | inr via_cited ↦ via_of_citation via_cited.0 a via_cited.1 (inr via_cited.2)
        ]

-- what rests on nothing
pub rests_on_nothing : (c : Citing) (t a : ℕ)
    → ((i : ℕ) → i < length c.theorems → get_or c.theorems i 0 ≡ t → ⊥)
    → RestsOn (HasCitation c) t a → ⊥
rests_on_nothing c t a no_row rests_on =
    ⊎_elim (λ cites. no_row cites.row cites.row_lt_count cites.theorem_is)
    (λ via_cited. no_row via_cited.1.row via_cited.1.row_lt_count via_cited.1.theorem_is)
    ((rests_by_one_step (HasCitation c) t a).0 rests_on)

-- a finished row is or-ed into another
pub marks_of_or : (c : Citing) (axioms : List ℕ) (t : ℕ) (old from ored : List ℕ)
    → IsBitRow c axioms t from → length ored ≡ length old → length old ≡ words_for (length axioms)
    → ((k : ℕ) → k < length old → get_or ored k 0 ≡ bit_or (get_or old k 0) (get_or from k 0))
    → ((j : ℕ) → j < length axioms
    → Decides (is_bit ored j) ((is_bit old j ≡ true)
    ⊎ RestsOn (HasCitation c) t (get_or axioms j 0)))
    × ((j : ℕ) → length axioms ≤ j → is_bit ored j ≡ is_bit old j)
marks_of_or c axioms t old from ored is_bit_row lengths_equal old_has_words words_are_ored =
    let bits_are_ored =
    or_bits ored old from lengths_equal (old_has_words ∙ sym is_bit_row.has_words) words_are_ored
    in (
      (λ j j_lt_columns. Decides-at (is_bit ored j) (is_bit old j || is_bit from j)
          (bits_are_ored j)
          (Decides-or (is_bit old j) (is_bit from j) ((λ is_set. is_set), λ is_set. is_set)
          (is_bit_row.marks_decide j j_lt_columns))),
      λ j columns_le_j. bits_are_ored j
          ∙ or_with_false (is_bit old j) (is_bit from j)
          (is_bit_row.none_past_columns j columns_le_j),
    )

-- what is ready for one citation
pub cited_row_is_ready : (c : Citing) (axioms bits : List ℕ) (i k : ℕ) (cited row : List ℕ)
    → IsFileOrder c → i < length c.theorems → cited ≡ list_at c i → k < length cited
    → length row ≡ words_for (length axioms) → AreBitRows c axioms i bits
    → (r : ℕ) → r < length c.theorems → theorem_at c r ≡ get_or cited k 0
    → IsBitRow c axioms (get_or cited k 0) (row_at bits (length row) r)
cited_row_is_ready c axioms bits i k cited row is_file_order i_lt_theorems cited_is k_lt_length
    row_has_words are_bit_rows r r_lt_theorems theorem_is = grind (arith, nat_tests)

-- and where its row ends
pub cited_end_is_ready : (c : Citing) (axioms bits ends : List ℕ) (i k : ℕ) (cited row : List ℕ)
    → IsFileOrder c → i < length c.theorems → cited ≡ list_at c i → k < length cited
    → length row ≡ words_for (length axioms) → AreEnds bits (words_for (length axioms)) i ends
    → (r : ℕ) → r < length c.theorems → theorem_at c r ≡ get_or cited k 0
    → (r < length ends) × EndsAt (row_at bits (length row) r) (get_or ends r 0)
cited_end_is_ready c axioms bits ends i k cited row is_file_order i_lt_theorems cited_is k_lt_length
    row_has_words are_ends r r_lt_theorems theorem_is =
    let r_lt_i =
    earlier_row c i r k is_file_order i_lt_theorems
    (subst (λ list. k < length list) cited_is k_lt_length) r_lt_theorems
    (subst (λ list. theorem_at c r ≡ get_or list k 0) cited_is theorem_is) in (
      omega (arith, r_lt_i, are_ends.count_is),
      subst (λ width. EndsAt (row_at bits width r) (get_or ends r 0)) (sym row_has_words)
          (are_ends.each_ends r r_lt_i),
    )

-- a row as a part of longer words
pub row_of_longer_is_kept : (bits later : List ℕ) (width r : ℕ) → r * width + width ≤ length bits
    → row_at (bits ++ later) width r ≡ row_at bits width r
row_of_longer_is_kept bits later width r row_end_le_length = grind (arith, common_steps)

-- the row of a theorem that is ready
pub found_row_is_known : (c : Citing) (axioms theorems bits : List ℕ) (t w r : ℕ)
    → theorems ≡ c.theorems
    → (r < length theorems) × (get_or theorems r 0 ≡ t)
    → ((q : ℕ) → q < length c.theorems → theorem_at c q ≡ t
    → IsBitRow c axioms t (slice_range bits (q * w) (q * w + w)))
    → IsBitRow c axioms t (slice_range bits (r * w) (r * w + w))
found_row_is_known c axioms theorems bits t w r theorems_are row_is_found rows_are_known =
    grind arith

pub found_row_end_le_words : (c : Citing) (axioms theorems bits : List ℕ) (t w r : ℕ)
    → theorems ≡ c.theorems
    → (r < length theorems) × (get_or theorems r 0 ≡ t)
    → ((q : ℕ) → q < length c.theorems → theorem_at c q ≡ t
    → IsBitRow c axioms t (slice_range bits (q * w) (q * w + w)))
    → w ≡ words_for (length axioms) → r * w + w ≤ length bits
found_row_end_le_words c axioms theorems bits t w r theorems_are row_is_found rows_are_known
    width_is = grind (arith, common_steps)

-- the bit of the statement's column is set
pub found_column_is_marked : (axioms row marked : List ℕ) (j s : ℕ) → IsStatementList axioms
    → (j < length axioms) × (get_or axioms j 0 ≡ s)
    → ((k : ℕ) → is_bit marked k ≡ (eqb k j || is_bit row k))
    → (k : ℕ) → k < length axioms
    → Decides (is_bit marked k) ((is_bit row k ≡ true) ⊎ (s ≡ get_or axioms k 0))
found_column_is_marked axioms row marked j s is_statement_list column_is_found bits_are_set k
    k_lt_columns = grind (arith, nat_tests)

pub past_columns_are_kept : (axioms row marked : List ℕ) (j s : ℕ)
    → (j < length axioms) × (get_or axioms j 0 ≡ s)
    → ((k : ℕ) → is_bit marked k ≡ (eqb k j || is_bit row k))
    → (k : ℕ) → length axioms ≤ k → is_bit marked k ≡ is_bit row k
past_columns_are_kept axioms row marked j s column_is_found bits_are_set k columns_le_k =
    grind arith

pub no_column_is_marked : (axioms row : List ℕ) (s : ℕ)
    → ((i : ℕ) → i < length axioms → get_or axioms i 0 ≡ s → ⊥) → (k : ℕ) → k < length axioms
    → Decides (is_bit row k) ((is_bit row k ≡ true) ⊎ (s ≡ get_or axioms k 0))
no_column_is_marked axioms row s no_column k k_lt_columns = grind arith
