-- What holds from theorem to theorem while proofs are checked: the theorems before have their
-- citations, and a fault that is found is the first one.
use Rattle.std.proofs.Common.{◌≡◌, ℕ, ◌+◌, ◌-◌, ◌<◌, ◌≤◌, ◌^◌, ◌⊎◌, inl, inr, Bool, List, [], ◌∷◌}
use Rattle.std.proofs.Common.{◌++◌, length, get_or, refl, sym, ap, ◌∙◌, subst, arith, length-append}
use Rattle.std.proofs.lemmas.Bool.{cases_lt}
use Rattle.std.proofs.lemmas.List.{get_or_append_left, get_or-append_right}
use Rattle.mm_spec.specs.Statement.{Statement}
use Rattle.mm_spec.specs.Laws.Complete.{AreComplete}
use Rattle.mm_spec.specs.Citation.{IsValid}
use Rattle.mm_spec.specs.Output.{theorems}
use Rattle.mm_spec.specs.declared.Fault.{Fault}
use Rattle.mm_database.proofs.SpacedLaw.{theorems_are}
use Rattle.mm_cites.specs.Citing.{citing, IsFileOrder}
use Rattle.mm_work.specs.Judged.{HasCitations, HaveCitationsUpTo, AllHaveCitations, IsFirstFault}
use Rattle.mm_work.specs.Judged.{HasFault}
use Rattle.mm_work.proofs.CitesAsDatabaseLaw.{valid_if_has_citations, valid_before, all_valid}
use Rattle.mm_work.proofs.CitesAsDatabaseLaw.{is_file_order, cites_as_database}

-- the citations of one more theorem, appended
pub with_citations_of_one_more : (db : List Statement) (by_essential : Bool) (ts : List ℕ) (n : ℕ)
    → (lists : List (List ℕ)) (cites : List ℕ)
    → HaveCitationsUpTo db by_essential ts n lists → HasCitations db by_essential (get_or ts n 0)
    cites → HaveCitationsUpTo db by_essential ts (n + 1) (lists ++ cites ∷ [])
with_citations_of_one_more db by_essential ts n lists cites have_citations has_citations = record {
  list_count_is = (omega (arith, length-append lists (cites ∷ []), have_citations.list_count_is));
  each_has_citations = λ i i_lt_suc_n. has_citations_at i (cases_lt i n) i_lt_suc_n;
}
  where
    has_citations_at : (i : ℕ) → (i < n) ⊎ (n ≤ i) → i < n + 1
        → HasCitations db by_essential (get_or ts i 0) (get_or (lists ++ cites ∷ []) i [])
    has_citations_at i (inl i_lt_n) i_lt_suc_n =
        subst (λ ys. HasCitations db by_essential (get_or ts i 0) ys) (sym (get_or_append_left lists
        (cites ∷ []) [] i (omega (arith, i_lt_n, have_citations.list_count_is))))
        (have_citations.each_has_citations i i_lt_n)
    has_citations_at i (inr n_le_i) i_lt_suc_n =
        let i_is_n : i ≡ n = omega (arith, n_le_i, i_lt_suc_n) in
        subst (λ j. HasCitations db by_essential (get_or ts j 0) (get_or (lists ++ cites ∷ []) j
        [])) (sym i_is_n) (subst (λ ys. HasCitations db by_essential (get_or ts n 0) ys)
        (sym (get_or-append_right lists (cites ∷ []) n n [] have_citations.list_count_is
        (omega arith) ∙ ap (λ j. get_or (cites ∷ []) j []) (difference_is_0 n))) has_citations)
      where
        difference_is_0 : (k : ℕ) → k - k ≡ 0
        difference_is_0 k = omega arith

module _ (db : List Statement) (length_lt_limit : length db < 2 ^ 31) (are_complete : AreComplete
    db) where
  -- a fault after valid proofs alone is the first fault
  pub is_first_fault : (i : ℕ) (f : Fault) → ((n : ℕ) → n < i
      → IsValid db (get_or (theorems db) n 0))
      → i < length (theorems db) → HasFault db (get_or (theorems db) i 0) f → IsFirstFault db f
  is_first_fault i f are_valid_before i_lt_count has_fault = (
    get_or (theorems db) i 0,
    (
      theorems_are db i 0 i_lt_count,
      valid_before db length_lt_limit
          are_complete i are_valid_before i_lt_count,
      has_fault,
    ),
  )

  pub valid_if_cited : (by_essential : Bool) (i : ℕ) (lists : List (List ℕ))
      → HaveCitationsUpTo db by_essential (theorems db) i lists → (n : ℕ) → n < i
      → IsValid db (get_or (theorems db) n 0)
  valid_if_cited by_essential i lists have_citations n n_lt_i = valid_if_has_citations db
      by_essential _ _ (have_citations.each_has_citations n n_lt_i)

  pub all_have_citations : (by_essential : Bool) (ts : List ℕ) (lists : List (List ℕ)) → ts
      ≡ theorems db → HaveCitationsUpTo db by_essential (theorems db) (length (theorems db)) lists
      → IsFileOrder (citing ts lists) × AllHaveCitations db by_essential (citing ts lists)
  all_have_citations by_essential ts lists ts_is have_citations =
      subst (λ (us : List ℕ). IsFileOrder (citing us lists)
      × AllHaveCitations db by_essential (citing us lists)) (sym ts_is) (
        is_file_order db length_lt_limit are_complete by_essential lists have_citations,
        record {
          theorems_are = refl;
          are_valid = all_valid db length_lt_limit are_complete by_essential lists have_citations;
          lists_rise = λ i i_lt_count. (have_citations.each_has_citations i
              i_lt_count).is_checked.cites_rise;
          lists_are_exact = λ i i_lt_count. (have_citations.each_has_citations i
              i_lt_count).is_checked.cites_are_exact;
          cites_as_database = cites_as_database db length_lt_limit are_complete by_essential lists
              have_citations;
        },
      )
