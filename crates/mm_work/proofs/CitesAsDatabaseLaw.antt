-- The citations of valid theorems are the database's.
use Rattle.std.proofs.Common.{◌≡◌, ℕ, zero, suc, ◌+◌, ◌==◌, ◌<◌, ◌≤◌, ◌^◌, Bool, true, ◌⊎◌, inl}
use Rattle.std.proofs.Common.{inr, List, [], ◌∷◌, length, get_or, sym, ap, subst, arith, true≢false}
use Rattle.std.proofs.Common.{eqb-true}
use Rattle.std.specs.List.{list_any, range_with_len}
use Rattle.std.proofs.lemmas.Bool.{or_cases, or_left, or_right, cases_lt, eq-eqb}
use Rattle.mm_spec.specs.Statement.{Statement}
use Rattle.mm_spec.specs.Scope.{statement_at}
use Rattle.mm_spec.specs.Derivation.{is_member}
use Rattle.mm_spec.specs.Citation.{is_theorem, IsValid}
use Rattle.mm_spec.specs.Citation as proof
use Rattle.mm_spec.specs.Laws.Complete.{AreComplete}
use Rattle.mm_spec.specs.Output.{theorems, is_theorem_at, AreValid}
use Rattle.mm_spec.proofs.FindsLaw.{filter_member, passing_statement, got_lt_length}
use Rattle.mm_spec.proofs.CitedLaw.{cited_lt_theorem, proved_is_theorem}
use Rattle.mm_spec.proofs.ListLaw.{element_is_member}
use Rattle.mm_cites.specs.Citing.{Citing, citing, HasCitation, IsStatementList, IsFileOrder}
use Rattle.mm_cites.proofs.RisingLaw.{filtered_range_is_statement_list}
use Rattle.mm_work.specs.Judged.{HasCitations, HaveCitationsUpTo, CitesAsDatabase}

-- a member of a list is its element at some index
index_of_member : (xs : List ℕ) (x : ℕ) → is_member xs x ≡ true
    → (i : ℕ) × (i < length xs) × (get_or xs i 0 ≡ x)
index_of_member [] x x_is_member = absurd (true≢false (sym x_is_member))
index_of_member (y ∷ xs) x x_is_member = index_of_x (or_cases (x == y) (is_member xs x) x_is_member)
    (index_of_member xs x)
  where
    index_of_x : ((x == y) ≡ true) ⊎ (is_member xs x ≡ true)
        → (is_member xs x ≡ true → (i : ℕ) × (i < length xs) × (get_or xs i 0 ≡ x))
        → (i : ℕ) × (i < suc (length xs)) × (get_or (y ∷ xs) i 0 ≡ x)
    index_of_x (inl x_is_y) index_in_tail = (0, omega arith, sym (eqb-true x y x_is_y))
    index_of_x (inr x_in_tail) index_in_tail = let in_tail = index_in_tail x_in_tail in
        (suc in_tail.0, (omega (arith, in_tail.1)), in_tail.2)

member_of_range : (n a x : ℕ) → a ≤ x → x < a + n → is_member (range_with_len a n) x ≡ true
member_of_range zero a x a_le_x x_lt_end = absurd (omega arith)
member_of_range (suc n) a x a_le_x x_lt_end =
    x_is_member (cases_lt a x) (λ a_lt_x. member_of_range n (a + 1) x (omega (arith, a_lt_x)) (omega
    arith))
  where
    x_is_member : (a < x) ⊎ (x ≤ a) → (a < x → is_member (range_with_len (a + 1) n) x ≡ true)
        → is_member (range_with_len a (suc n)) x ≡ true
    x_is_member (inl a_lt_x) in_rest = or_right (x == a) (is_member (range_with_len (a + 1) n) x)
        (in_rest a_lt_x)
    x_is_member (inr x_le_a) in_rest =
        or_left (x == a) (is_member (range_with_len (a + 1) n) x) (eq-eqb x a (omega arith))

-- a theorem has an index in the list of theorems
index_of_theorem : (db : List Statement) (t : ℕ) → is_theorem_at db t ≡ true
    → (i : ℕ) × (i < length (theorems db)) × (get_or (theorems db) i 0 ≡ t)
index_of_theorem db t t_is_theorem =
    let passing = passing_statement db is_theorem t t_is_theorem in
    index_of_member (theorems db) t (filter_member (λ j. list_any is_theorem (statement_at db j))
    (range_with_len 0 (length db)) t t_is_theorem (member_of_range (length db) 0 t (omega arith)
    (omega (arith, got_lt_length db t passing.0 passing.1))))

-- a theorem with citations is valid
pub valid_if_has_citations : (db : List Statement) (by_essential : Bool) (t : ℕ) (cites : List ℕ)
    → HasCitations db by_essential t cites → IsValid db t
valid_if_has_citations db by_essential t cites has_citations = (
  has_citations.no_reading_faults,
  has_citations.is_checked.derivation,
  has_citations.is_checked.is_proof,
)

module _ (db : List Statement) (length_lt_limit : length db < 2 ^ 31) (are_complete : AreComplete
    db) where
  pub theorems_rise : IsStatementList (theorems db)
  theorems_rise = filtered_range_is_statement_list (λ j. list_any is_theorem (statement_at db j))
      (length db) length_lt_limit

  -- the theorems before theorem i are valid
  pub valid_before : (i : ℕ) → ((n : ℕ) → n < i → IsValid db (get_or (theorems db) n 0))
      → i < length (theorems db) → AreValid db (get_or (theorems db) i 0)
  valid_before i valid_before_i i_lt_count j j_lt_theorem_i j_is_theorem =
      let indexed = index_of_theorem db j j_is_theorem in
      theorem_is_valid indexed.0 indexed.1 indexed.2 (cases_lt indexed.0 i)
    where
      theorem_is_valid : (n : ℕ) → n < length (theorems db) → get_or (theorems db) n 0 ≡ j
          → (n < i) ⊎ (i ≤ n) → IsValid db j
      theorem_is_valid n n_lt_count n_is_index_of_j (inl n_lt_i) = subst (λ t. IsValid db t)
          n_is_index_of_j (valid_before_i n n_lt_i)
      theorem_is_valid n n_lt_count n_is_index_of_j (inr i_le_n) = absurd (elim (cases_lt i n) [
        | inl i_lt_n ↦
            omega (
              arith,
              theorems_rise.rises i n i_lt_n n_lt_count,
              n_is_index_of_j,
              j_lt_theorem_i,
            )
        | inr n_le_i ↦
            let n_is_i : n ≡ i = omega (arith, i_le_n, n_le_i) in
            let theorem_is = ap (λ x. get_or (theorems db) x 0) n_is_i in
            omega (arith, theorem_is, n_is_index_of_j, j_lt_theorem_i)
      ])

  -- all theorems are valid
  pub all_valid : (by_essential : Bool) (lists : List (List ℕ))
      → HaveCitationsUpTo db by_essential (theorems db) (length (theorems db)) lists
      → AreValid db (length db)
  all_valid by_essential lists have_citations j j_lt_length j_is_theorem =
      let indexed = index_of_theorem db j j_is_theorem in
      subst (λ t. IsValid db t) indexed.2 (valid_if_has_citations db by_essential _ _
      (have_citations.each_has_citations indexed.0 indexed.1))

  module _ (by_essential : Bool) (lists : List (List ℕ))
      (have_citations : HaveCitationsUpTo db by_essential (theorems db) (length (theorems db))
      lists)
    where
      abbrev c : Citing
      c = citing (theorems db) lists

      pub is_file_order : IsFileOrder c
      is_file_order = record {
        theorems_rise = theorems_rise;
        each_has_list = have_citations.list_count_is;
        cited_are_earlier =
            λ i k i_lt_count k_lt_length. cited_lt_theorem db by_essential
            (get_or (theorems db) i 0) _
            (((have_citations.each_has_citations i i_lt_count).is_checked.cites_are_exact (get_or
            (get_or lists i []) k 0)).0 (element_is_member (get_or lists i []) k 0 k_lt_length));
      }

      pub cites_as_database : CitesAsDatabase db by_essential c
      cites_as_database = record {
        citations_agree = λ t a. ((cites_if_has_citation t a), (has_citation_if_cites t a));
      }
        where
          cites_if_has_citation : (t a : ℕ) → HasCitation c t a → proof.Cites db by_essential t a
          cites_if_has_citation t a has_citation =
              let l = get_or lists has_citation.row [] in
              let b = get_or l has_citation.list_index 0 in
              subst (λ y. proof.Cites db by_essential t y) has_citation.cited_is
              (subst (λ y. proof.Cites db by_essential y b) has_citation.theorem_is
              (((have_citations.each_has_citations has_citation.row
              has_citation.row_lt_count).is_checked.cites_are_exact b).0
              (element_is_member l has_citation.list_index 0 has_citation.index_lt_length)))

          has_citation_if_cites : (t a : ℕ) → proof.Cites db by_essential t a → HasCitation c t a
          has_citation_if_cites t a cites_a =
              let indexed = index_of_theorem db t (proved_is_theorem db t cites_a.1 cites_a.2) in
              let member_index = index_of_member (get_or lists indexed.0 []) a
              (((have_citations.each_has_citations indexed.0 indexed.1).is_checked.cites_are_exact
              a).1 (subst (λ y. proof.Cites db by_essential y a) (sym indexed.2) cites_a)) in
              record {
                row = indexed.0;
                list_index = member_index.0;
                row_lt_count = indexed.1;
                index_lt_length = member_index.1;
                theorem_is = indexed.2;
                cited_is = member_index.2;
              }
