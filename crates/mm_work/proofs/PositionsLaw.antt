-- Setting the positions of citations.
use Rattle.std.proofs.Common.{◌≡◌, Bool, ◌≢◌, ℕ, zero, suc, ◌+◌, ◌<◌, ◌≤◌, ◌⊎◌, inl, inr, All, Some}
use Rattle.std.proofs.Common.{List, [], ◌∷◌, length, get_or, slice_get, slice_set, refl, sym, ap}
use Rattle.std.proofs.Common.{◌∙◌, subst, arith, take, drop, ◌++◌}
use Rattle.std.specs.List.{Contains}
use Rattle.std.proofs.lemmas.Bool.{cases_lt, cases_eq}
use Rattle.std.proofs.Math.Seq.{take-append_seam}
use Rattle.std.proofs.lemmas.Option.{slice_get-get_or, slice_get_within, get_or_from_slice_get}
use Rattle.mm_spec.specs.Statement.{Statement}
use Rattle.mm_work.specs.declared.merge.ListPosition.{ListPosition}
use Rattle.mm_work.specs.declared.worker.Findings.{Findings}
use Rattle.mm_work.specs.Positions.{IsWithWorker, HasPosition}
use Rattle.mm_work.specs.Judged.{HasCitations}
use Rattle.mm_work.specs.Workers.{IsFoundValid, AreFindings, theorem_of}

-- the element at an index that was set is the new one
set_at_index : {X : Type 0} (xs : List X) (i : ℕ) (x : X) → i < length xs
    → slice_get (slice_set xs i x) i ≡ Some x
set_at_index [] i x i_lt_length = absurd (omega arith)
set_at_index (y ∷ xs) zero x i_lt_length = refl
set_at_index (y ∷ xs) (suc i) x i_lt_length = set_at_index xs i x (omega arith)

-- the elements at other indices are as they were
others_unchanged : {X : Type 0} (xs : List X) (i j : ℕ) (x : X) → j ≢ i
    → slice_get (slice_set xs i x) j ≡ slice_get xs j
others_unchanged [] i j x indices_differ = refl
others_unchanged (y ∷ xs) zero zero x indices_differ = absurd (indices_differ refl)
others_unchanged (y ∷ xs) zero (suc j) x indices_differ = refl
others_unchanged (y ∷ xs) (suc i) zero x indices_differ = refl
others_unchanged (y ∷ xs) (suc i) (suc j) x indices_differ = others_unchanged xs i j x (λ
    indices_equal. indices_differ (ap suc indices_equal))

-- if a theorem's position is as it was, its citations are with the same worker
pub still_with_worker : (positions positions' : List ListPosition) (worker : ℕ) (valid : List ℕ) (i
    : ℕ) → slice_get positions' i ≡ slice_get positions i → IsWithWorker positions worker valid i
    → IsWithWorker positions' worker valid i
still_with_worker positions positions' worker valid i position_stays is_with_worker =
    record {
      position = is_with_worker.position;
      position_is = position_stays ∙ is_with_worker.position_is;
      worker_is = is_with_worker.worker_is;
      list_lt_length = is_with_worker.list_lt_length;
      index_is = is_with_worker.index_is;
    }

module _ (first_positions positions : List ListPosition) (worker : ℕ) (valid : List ℕ) (k x : ℕ)
    (position : ListPosition) (x_is_at_k : get_or valid k 0 ≡ x) (x_lt_length : x < length
    positions) (k_lt_length : k < length valid)
    (worker_is : position.worker ≡ worker) (list_is : position.list ≡ k) where
  abbrev positions' : List ListPosition
  positions' = slice_set positions x position

  is_with_worker_at_index : IsWithWorker positions' worker valid x
  is_with_worker_at_index =
      record {
        position = position;
        position_is = set_at_index positions x position x_lt_length;
        worker_is = worker_is;
        list_lt_length = subst (λ n. n < length valid) (sym list_is) k_lt_length;
        index_is = ap (λ n. get_or valid n 0) list_is ∙ x_is_at_k;
      }

  pub with_worker_before_next : ((q : ℕ) → q < k → IsWithWorker positions worker valid (get_or valid
      q 0)) → (q : ℕ) → q < k + 1 → IsWithWorker positions' worker valid (get_or valid q 0)
  with_worker_before_next with_worker_before q q_lt_suc_k = elim (cases_eq (get_or valid q 0) x) [
    | inl index_is_x ↦ subst (λ i. IsWithWorker positions' worker valid i) (sym
        index_is_x) is_with_worker_at_index
    | inr index_is_not_x ↦ elim (cases_lt q k) [
      | inl q_lt_k ↦ still_with_worker positions positions' worker valid (get_or valid q 0)
          (others_unchanged positions x (get_or valid q 0) position index_is_not_x)
          (with_worker_before q q_lt_k)
      | inr k_le_q ↦
          absurd (index_is_not_x (ap (λ j. get_or valid j 0) ((omega arith)) ∙ x_is_at_k))
    ]
  ]

  pub others_stay_or_with_worker : ((i : ℕ) → IsWithWorker positions worker valid i
      ⊎ (slice_get positions i ≡ slice_get first_positions i))
      → (i : ℕ) → IsWithWorker positions' worker valid i ⊎ (slice_get positions' i
      ≡ slice_get first_positions i)
  others_stay_or_with_worker others_stay i = elim (cases_eq i x) [
    | inl i_is_x ↦ inl (subst (λ j. IsWithWorker positions' worker valid j) (sym i_is_x)
        is_with_worker_at_index)
    | inr i_is_not_x ↦ elim (others_stay i) [
      | inl was_with_worker ↦
          inl (still_with_worker positions positions' worker valid i (others_unchanged positions
          x i position i_is_not_x) was_with_worker)
      | inr position_stays ↦ inr (others_unchanged positions x i position i_is_not_x
          ∙ position_stays)
    ]
  ]

module _ {A : Type 0} (fs : List (Findings A)) where
  -- after the positions of worker w were set, everything that the workers up to w found
  -- valid has a position
  pub has_position_up_to_next : (positions positions' : List ListPosition) (w : ℕ) (findings :
      Findings A) → slice_get fs w ≡ Some findings
      → ((i : ℕ) → Contains findings.valid.items i → IsWithWorker positions' w findings.valid.items
      i) → ((i : ℕ) → IsWithWorker positions' w findings.valid.items i ⊎ (slice_get positions' i
      ≡ slice_get positions i))
      → ((v : ℕ) (f : Findings A) (i : ℕ) → v < w → slice_get fs v ≡ Some f → Contains
      f.valid.items i → HasPosition positions fs i)
      → (v : ℕ) (f : Findings A) (i : ℕ) → v < w + 1 → slice_get fs v ≡ Some f
      → Contains f.valid.items i → HasPosition positions' fs i
  has_position_up_to_next positions positions' w findings findings_are is_with_worker others_stay
      has_position_before v f i v_lt_suc_w f_is_at_v is_in_f = is_positioned (cases_lt v w)
    where
      has_position_here : IsWithWorker positions' w findings.valid.items i
          → HasPosition positions' fs i
      has_position_here with_this = record {
        worker = w;
        findings = findings;
        findings_are = findings_are;
        is_with_worker = with_this;
      }

      is_positioned : (v < w) ⊎ (w ≤ v) → HasPosition positions' fs i
      is_positioned (inl v_lt_w) = still_positioned (has_position_before v f i v_lt_w f_is_at_v
          is_in_f) (others_stay i)
        where
          still_positioned : HasPosition positions fs i
              → IsWithWorker positions' w findings.valid.items i ⊎ (slice_get positions' i
              ≡ slice_get positions i) → HasPosition positions' fs i
          still_positioned has_position (inl with_this) = has_position_here with_this
          still_positioned has_position (inr position_stays) =
              record {
                worker = has_position.worker;
                findings = has_position.findings;
                findings_are = has_position.findings_are;
                is_with_worker =
                    still_with_worker positions positions' has_position.worker
                    has_position.findings.valid.items i position_stays
                    has_position.is_with_worker;
              }
      is_positioned (inr w_le_v) =
          let v_is_w : v ≡ w = omega arith in
          has_position_here (is_with_worker i (subst (λ (g : Findings A). Contains g.valid.items i)
          (sym (get_or_from_slice_get fs v f findings f_is_at_v) ∙ ap (λ n. get_or fs n findings)
          v_is_w ∙ get_or_from_slice_get fs w findings findings findings_are) is_in_f))

  -- what was found valid has a position
  pub every_valid_has_position : (positions : List ListPosition)
      → ((v : ℕ) (f : Findings A) (i : ℕ) → v < length fs → slice_get fs v ≡ Some f
      → Contains f.valid.items i → HasPosition positions fs i)
      → (i : ℕ) → IsFoundValid fs i → HasPosition positions fs i
  every_valid_has_position positions has_position i is_found_valid =
      let findings = is_found_valid.findings in let listed = is_found_valid.are_listed in
      has_position listed.0 findings i listed.1
      (slice_get-get_or fs listed.0 findings listed.1 ∙ ap Some listed.2) is_found_valid.has_index

-- a list written back whole
pub written_back : {X : Type 0} (len : ℕ) (new_list old_list : List X) → length new_list ≡ len
    → take len (new_list ++ drop (length new_list) old_list) ≡ new_list
written_back len new_list old_list length_is =
    subst (λ n. take n (new_list ++ drop (length new_list) old_list) ≡ new_list) length_is
    (take-append_seam new_list (drop (length new_list) old_list))

module _ {A : Type 0} (db : List Statement) (by_essential : Bool) (fs : List (Findings A))
    (each_are_findings : All (AreFindings db by_essential) fs) (ps qs : List ListPosition) (k : ℕ)
    (d : ListPosition) (lists_equal : qs ≡ ps) (has_position : HasPosition ps fs k) where
  -- the place that is read
  abbrev position : ListPosition
  position = get_or qs k d

  position_is : position ≡ has_position.is_with_worker.position
  position_is =
      ap (λ (l : List ListPosition). get_or l k d) lists_equal
      ∙ get_or_from_slice_get ps k has_position.is_with_worker.position d
      has_position.is_with_worker.position_is

  worker_is : position.worker ≡ has_position.worker
  worker_is = ap (λ (q : ListPosition). q.worker) position_is
      ∙ has_position.is_with_worker.worker_is

  pub worker_lt_length : position.worker < length fs
  worker_lt_length =
      subst (λ n. n < length fs) (sym worker_is)
      (slice_get_within fs has_position.worker has_position.findings has_position.findings_are)

  pub findings_at_worker : (e : Findings A) → get_or fs position.worker e ≡ has_position.findings
  findings_at_worker e =
      ap (λ n. get_or fs n e) worker_is ∙ get_or_from_slice_get fs has_position.worker
      has_position.findings e has_position.findings_are

  has_findings : AreFindings db by_essential has_position.findings
  has_findings =
      subst (λ (f : Findings A). AreFindings db by_essential f) (findings_at_worker
      has_position.findings)
      (each_are_findings position.worker has_position.findings worker_lt_length)

  list_lt_valid_length : position.list < length has_position.findings.valid.items
  list_lt_valid_length =
      subst (λ (q : ListPosition). q.list < length has_position.findings.valid.items)
      (sym position_is) has_position.is_with_worker.list_lt_length

  pub list_lt_cites_length : (f : Findings A) → f ≡ has_position.findings
      → position.list < length f.cites
  list_lt_cites_length f f_is =
      subst (λ (g : Findings A). position.list < length g.cites) (sym f_is)
      (subst (λ n. position.list < n) (sym has_findings.list_count_is) list_lt_valid_length)

  pub list_has_citations : (f : Findings A) (list : List ℕ) → f ≡ has_position.findings → list
      ≡ get_or f.cites position.list [] → HasCitations db by_essential (theorem_of db k) list
  list_has_citations f list f_is list_is =
      subst (λ (xs : List ℕ). HasCitations db by_essential (theorem_of db k) xs) (sym (list_is
      ∙ ap (λ (g : Findings A). get_or g.cites position.list []) f_is)) (subst (λ i. HasCitations db
      by_essential (theorem_of db i) (get_or has_position.findings.cites position.list []))
      (ap (λ (q : ListPosition). get_or has_position.findings.valid.items q.list 0) position_is
      ∙ has_position.is_with_worker.index_is) (has_findings.each_has_citations position.list
      list_lt_valid_length))

pub le_of_lt : {m n : ℕ} → m < n → m ≤ n
le_of_lt m_lt_n = omega (arith, m_lt_n)
