-- The rows of citations that are written are those of the definitions.
use Rattle.std.proofs.Common.{ℕ, ◌<◌, Bool, List, [], length, map, get_or, refl, sym, ap, subst}
use Rattle.std.proofs.Common.{arith}
use Rattle.std.specs.List.{AllZip, list_any}
use Rattle.std.proofs.lemmas.List.Kept.{IsStrictlyIncreasing-filter}
use Rattle.std.proofs.lemmas.List.{get_or-map}
use Rattle.std.proofs.lemmas.List.FromFn.{get_or-map-range_with_len, length-map-range_with_len}
use Rattle.mm_spec.specs.Statement.{Statement}
use Rattle.mm_spec.specs.Scope.{statement_at}
use Rattle.mm_spec.specs.Report.{CitingRow}
use Rattle.mm_spec.specs.Request.{Request}
use Rattle.mm_spec.specs.Assertion.{has_typecode, label_at}
use Rattle.mm_spec.specs.Output.{AreCited, IsCitingRowOf, theorems}
use Rattle.mm_spec.proofs.FindsLaw.{member_filter, filter_member}
use Rattle.mm_spec.proofs.ListLaw.{element_is_member}
use Rattle.mm_work.specs.Citing.{Citing, theorem_at, list_at}
use Rattle.mm_work.specs.Judged.{AllHaveCitations}
use Rattle.mm_report.specs.CitingRows.{listed, citing_row, citing_rows, AreCitationsOf}
use Rattle.mm_run.proofs.ListLaw.{zip_by_index}

module _ (db : List Statement) (request : Request) (c : Citing)
    (have_citations : AllHaveCitations db request.essential c) where
  -- the lists are those of the database's theorems, and all that they list are assertions
  pub are_citations_of : AreCitationsOf db c
  are_citations_of = record {
    theorems_are = have_citations.theorems_are;
    assertions =
        λ i i_lt_count k d k_lt_length.
        ((have_citations.lists_are_exact i i_lt_count (get_or (list_at c i) k d)).0
        (element_is_member
        (list_at c i) k d k_lt_length)).0;
  }

  -- what is listed of a theorem is what it cites
  are_cited : (i : ℕ) → i < length c.theorems
      → AreCited db request (theorem_at c i) (listed db request.only (list_at c i))
  are_cited i i_lt_count = record {
    rising = IsStrictlyIncreasing-filter is_chosen (list_at c i) (have_citations.lists_rise i
        i_lt_count);
    cited = λ a. (
      λ is_listed. let chosen = member_filter is_chosen (list_at c i) a is_listed in
          ((have_citations.lists_are_exact i i_lt_count a).0 chosen.1, chosen.0),
      λ cites_chosen. filter_member is_chosen (list_at c i) a cites_chosen.1
          ((have_citations.lists_are_exact i i_lt_count a).1 cites_chosen.0),
    );
  }
    where
      is_chosen : ℕ → Bool
      is_chosen a = list_any (has_typecode request.only) (statement_at db a)

  pub citing_rows_are : AllZip (IsCitingRowOf db request) (theorems db)
      (citing_rows db request.only c (map (label_at db) (theorems db)))
  citing_rows_are =
      let names = map (label_at db) (theorems db) in
      let f = λ (i : ℕ). citing_row db request.only c (get_or names i []) i in
      let counts_equal = ap (λ (ts : List ℕ). length ts) have_citations.theorems_are in
      let row_count_is = length-map-range_with_len f 0 (length c.theorems) in
      zip_by_index (IsCitingRowOf db request) (theorems db) (citing_rows db request.only c names)
      0 (f 0)
      (omega (arith, row_count_is, counts_equal))
      (λ i i_lt_theorem_count.
      let i_lt_count : i < length c.theorems = omega (arith, counts_equal, i_lt_theorem_count) in
      subst (λ (x : CitingRow). IsCitingRowOf db request (get_or (theorems db) i 0) x)
      (sym (get_or-map-range_with_len f 0 (length c.theorems) i i (f 0) i_lt_count (omega arith))) (
        get_or-map (label_at db) (theorems db) i 0 [] i_lt_theorem_count,
        (
          listed db request.only (list_at c i),
          subst
              (λ t. AreCited db request t (listed db request.only (list_at c i)))
              (ap (λ ts. get_or ts i 0) have_citations.theorems_are) (are_cited i i_lt_count),
          refl,
        ),
      ))
