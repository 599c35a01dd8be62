-- Where all theorems are valid, it is decided on what each of them rests.
use Rattle.std.proofs.Common.{rules, ◌≡◌, ℕ, zero, suc, ◌<◌, Bool, true, false, ◌&&◌, ◌⊎◌, inl, inr}
use Rattle.std.proofs.Common.{List, [], ◌∷◌, length, refl, subst, arith, true≢false}
use Rattle.std.proofs.lemmas.Grind.{common_steps}
use Rattle.std.specs.Prelude.{Decides, IsTrue, Option, map}
use Rattle.std.specs.List.{list_any, AllZip}
use Rattle.std.proofs.lemmas.Bool.{and_parts, cases_eq}
use Rattle.std.proofs.lemmas.Bool.Decides.{Decides-and, Decides-or, Decides-like}
use Rattle.mm_spec.specs.Statement.{Statement}
use Rattle.mm_spec.specs.Scope.{statement_at}
use Rattle.mm_spec.specs.Derivation.{is_member}
use Rattle.mm_spec.specs.Nodes.{child_counts, each_root}
use Rattle.mm_spec.specs.Request.{Request}
use Rattle.mm_spec.specs.Citation.{is_assertion, IsValid, Cites, RestsOn}
use Rattle.mm_spec.specs.Laws.Complete.{AreComplete}
use Rattle.mm_spec.specs.Report.{Row, CitingRow}
use Rattle.mm_spec.specs.Assertion.{has_typecode, label_at}
use Rattle.mm_spec.specs.Output.{is_theorem_at, AreValid, columns, IsRowOf, IsCitingRowOf}
use Rattle.mm_spec.specs.Text.{Bytes}
use Rattle.std.specs.List.Sorted.{IsStrictlyIncreasing}
use Rattle.mm_spec.proofs.RisingListsLaw.{list_of}
use Rattle.mm_spec.specs.Laws.Decided.{IsDecided}
use Rattle.mm_spec.proofs.ChainsLaw.{rests_by_one_step}
use Rattle.mm_spec.proofs.FindsLaw.{passing_statement, got_lt_length}
use Rattle.mm_spec.proofs.CitedLaw.{cited_lt_theorem, proved_is_theorem, two_proofs_are_equal}
use Rattle.mm_spec.proofs.NodesLaw.{node_labels, node_iff_listed}

-- ---- what is decided

and_is_decided : (P Q : Type 0) → IsDecided P → IsDecided Q → IsDecided (P × Q)
and_is_decided P Q P_is_decided Q_is_decided = grind (arith, common_steps, Decides-and)

or_is_decided : (P Q : Type 0) → IsDecided P → IsDecided Q → IsDecided (P ⊎ Q)
or_is_decided P Q P_is_decided Q_is_decided = grind (arith, common_steps, Decides-or)

equivalent_is_decided : (P Q : Type 0) → (P → Q) → (Q → P) → IsDecided P → IsDecided Q
equivalent_is_decided P Q Q_if_P P_if_Q P_is_decided = grind (arith, common_steps, Decides-like)

-- whether a number below n has it
exists_below_is_decided : (P : ℕ → Type 0) (n : ℕ) → ((b : ℕ) → b < n → IsDecided (P b))
    → IsDecided ((b : ℕ) × (b < n) × P b)
exists_below_is_decided P zero each_is_decided = grind (arith, common_steps, true≢false)
exists_below_is_decided P (suc n) each_is_decided =
    equivalent_is_decided (P n ⊎ ((b : ℕ) × (b < n) × P b)) ((b : ℕ) × (b < suc n) × P b)
    (λ last_or_below. elim last_or_below [
      | inl holds_at_n ↦ (n, omega arith, holds_at_n)
      | inr exists ↦ let b_lt_n = exists.1 in (exists.0, omega arith, exists.2)
    ])
    (λ exists. let b_lt_suc_n = exists.1 in elim (cases_eq exists.0 n) [
      | inl b_is_n ↦ inl (subst P b_is_n exists.2)
      | inr b_is_not_n ↦ inr (exists.0, omega arith, exists.2)
    ])
    (or_is_decided (P n) ((b : ℕ) × (b < n) × P b) (each_is_decided n (omega arith))
    (exists_below_is_decided P n (λ b b_lt_n. each_is_decided b (omega arith))))

module _ (db : List Statement) (by_essential : Bool) (all_complete : AreComplete db)
    (are_valid : AreValid db (length db)) where
  pub cites_is_decided : (t a : ℕ) → IsDecided (Cites db by_essential t a)
  cites_is_decided t a = decided_by_is_theorem (is_theorem_at db t) refl
    where
      if_valid : IsValid db t → IsDecided (Cites db by_essential t a)
      if_valid is_valid =
          let counts = child_counts db by_essential in
          let is_listed = is_member (node_labels counts each_root is_valid.1) a in
          let labels_are = node_iff_listed counts each_root is_valid.1 a in (
            list_any is_assertion (statement_at db a) && is_listed,
            (
              (search (rules, arith, and_parts)),
              λ cites_a.
                  let same = two_proofs_are_equal db all_complete t cites_a.1 is_valid.1 cites_a.2
                  is_valid.2 in
                  grind (arith, common_steps),
            ),
          )

      decided_by_is_theorem : (b : Bool) → is_theorem_at db t ≡ b
          → IsDecided (Cites db by_essential t a)
      decided_by_is_theorem true is_theorem_t =
          search (rules, arith, passing_statement, if_valid, got_lt_length)
      decided_by_is_theorem false not_theorem_t =
          grind (arith, common_steps, true≢false, proved_is_theorem)

  -- citations go to what is earlier, so chains are decided from the first theorem on
  rests_on_is_decided_below : (n t : ℕ) → t < n → (a : ℕ) → IsDecided (RestsOn db by_essential t a)
  rests_on_is_decided_below zero t t_lt_0 a = absurd (omega arith)
  rests_on_is_decided_below (suc n) t t_lt_suc_n a =
      let by_one_step = rests_by_one_step (Cites db by_essential) t a in
      equivalent_is_decided (Cites db by_essential t a
      ⊎ ((b : ℕ) × (b < t) × (Cites db by_essential t b × RestsOn db by_essential b a)))
      (RestsOn db by_essential t a)
      (λ cites. elim cites [
        | inl cites_a ↦ by_one_step.1 (inl cites_a)
        | inr (b, b_lt_t, between) ↦ by_one_step.1 (inr (b, between.0, between.1))
      ])
      (λ rests_on. elim (by_one_step.0 rests_on) [
        | inl cites_a ↦ inl cites_a
        | inr (b, cites_b, rests) ↦
            inr (b, cited_lt_theorem db by_essential t b cites_b, (cites_b, rests))
      ])
      (or_is_decided (Cites db by_essential t a)
      ((b : ℕ) × (b < t) × (Cites db by_essential t b × RestsOn db by_essential b a))
      (cites_is_decided t a)
      (exists_below_is_decided (λ b. Cites db by_essential t b × RestsOn db by_essential b a) t
      (λ b b_lt_t. and_is_decided (Cites db by_essential t b) (RestsOn db by_essential b a)
      (cites_is_decided t b)
      (rests_on_is_decided_below n b (omega arith) a))))

  pub rests_on_is_decided : (t a : ℕ) → IsDecided (RestsOn db by_essential t a)
  rests_on_is_decided t a = rests_on_is_decided_below (suc t) t (omega arith) a

  -- ---- rows of marks

  decided_marks : (t : ℕ) (axioms : List ℕ)
      → (marks : List Bool)
      × AllZip (λ a mark. Decides mark (RestsOn db by_essential t a)) axioms marks
  decided_marks t [] = ([], tt)
  decided_marks t (a ∷ axioms) =
      let first_mark = rests_on_is_decided t a in
      let later_marks = decided_marks t axioms in
      (first_mark.0 ∷ later_marks.0, (first_mark.1, later_marks.1))

  -- ---- rows of citations

  abbrev IsListed : Option Bytes → ℕ → ℕ → Type 0
  IsListed typecode t a =
      Cites db by_essential t a × IsTrue (list_any (has_typecode typecode) (statement_at db a))

  listed_is_decided : (typecode : Option Bytes) (t a : ℕ) → IsDecided (IsListed typecode t a)
  listed_is_decided typecode t a =
      and_is_decided (Cites db by_essential t a)
      (IsTrue (list_any (has_typecode typecode) (statement_at db a)))
      (cites_is_decided t a)
      (list_any (has_typecode typecode) (statement_at db a), (λ e. e, λ e. e))

  list_of_cited : (typecode : Option Bytes) (t : ℕ)
      → (list : List ℕ) × IsStrictlyIncreasing list
      × ((a : ℕ) → Decides (is_member list a) (IsListed typecode t a))
  list_of_cited typecode t =
      let list = list_of (IsListed typecode t) (listed_is_decided typecode t) 0 t in (
        list.0,
        list.1.0,
        λ a. (
          (λ is_member_a. ((list.1.1 a).0 is_member_a).2),
          λ is_listed.
              let a_lt_t = cited_lt_theorem db by_essential t a is_listed.0 in
              grind (arith, common_steps),
        ),
      )

pub citing_rows_of : (db : List Statement) (request : Request) → AreComplete db
    → AreValid db (length db) → (ts : List ℕ)
    → (rows : List CitingRow) × AllZip (IsCitingRowOf db request) ts rows
citing_rows_of db request all_complete are_valid [] = ([], tt)
citing_rows_of db request all_complete are_valid (t ∷ ts) =
    let list = list_of_cited db request.essential all_complete are_valid request.only t in
    let later_rows = citing_rows_of db request all_complete are_valid ts in (
      record { label = label_at db t; cited = map (label_at db) list.0 } ∷ later_rows.0,
      grind (arith, common_steps),
    )

pub rows_of : (db : List Statement) (request : Request) → AreComplete db → AreValid db (length db)
    → (ts : List ℕ) → (rows : List Row) × AllZip (IsRowOf db request) ts rows
rows_of db request all_complete are_valid [] = ([], tt)
rows_of db request all_complete are_valid (t ∷ ts) =
    let marks = decided_marks db request.essential all_complete are_valid t (columns db
    request.only) in
    let later_rows = rows_of db request all_complete are_valid ts in (
      record { label = label_at db t; marks = marks.0 } ∷ later_rows.0,
      ((refl, marks.1), later_rows.1),
    )
