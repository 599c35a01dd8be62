-- What each step does to what a worker's seat and its findings say.
use Rattle.std.proofs.Common.{◌≡◌, ℕ, zero, suc, ◌+◌, ◌-◌, ◌<◌, ◌≤◌, ◌==◌, ◌||◌, ◌⊎◌, inl, inr, All}
use Rattle.std.proofs.Common.{Bool, true, false, cond, Option, None, Some, List, [], ◌∷◌, ◌++◌}
use Rattle.std.proofs.Common.{length, get_or, refl, sym, ap, ap₂, ◌∙◌, subst, arith, true≢false}
use Rattle.std.proofs.Common.{length-append, nat_lt}
use Rattle.std.specs.Prelude.{is_some}
use Rattle.std.specs.List.{Contains}
use Rattle.std.proofs.lemmas.Bool.{cases_lt, lt-ltb}
use Rattle.std.proofs.lemmas.Bool.Decides.{nat_tests}
use Rattle.std.proofs.lemmas.List.{get_or_append_left}
use Rattle.std.proofs.Math.Seq.{get_or-append_right}
use Rattle.std.proofs.lemmas.List.Elements.{All-push, Contains-push, Contains-append_left}
use Rattle.mm_spec.specs.Statement.{Statement}
use Rattle.mm_spec.specs.Output.{theorems}
use Rattle.mm_board.specs.declared.views.View.{View}
use Rattle.mm_board.specs.Records.{times_in, times_open, times_recorded}
use Rattle.mm_board.specs.Events.{after_join, after_look, after_report, after_settle, open_list}
use Rattle.mm_board.specs.Events.{open_after_look}
use Rattle.mm_board.specs.Models.{SeatValue, IsSeatOf}
use Rattle.mm_board.proofs.SumsLaw.{times_in_append, counted_is_equal, equal_is_counted}
use Rattle.mm_work.specs.Judged.{HasCitations}
use Rattle.mm_work.specs.Workers.{IsBetweenTheorems, SeatTellsFindings, IsFoundFaulty, IsFaultFound}
use Rattle.mm_work.specs.Workers.{IsOfDatabase, faulty_index, AreFindings, AreGathered, IsFreshSeat}
use Rattle.mm_work.specs.Workers.{FindsFault, FindsValid, theorem_of, HasDrawn, IsDone}
use Rattle.mm_work.specs.declared.job.Job.{Job}
use Rattle.mm_work.specs.declared.worker.IndexedFault.{IndexedFault}
use Rattle.mm_work.specs.declared.worker.Findings.{Findings}
use Rattle.mm_work.specs.declared.worker.WorkerState.{WorkerState}

-- a number of two lists is one of either
times_in_either : (x : ℕ) (l m : List ℕ) → 0 < times_in x (l ++ m)
    → (0 < times_in x l) ⊎ (0 < times_in x m)
times_in_either x l m x_is_counted = elim (cases_lt 0 (times_in x l)) [
  | inl x_in_part ↦ inl x_in_part
  | inr x_in_part ↦ let counts_add = times_in_append x l m in inr (omega arith)
]

-- a number that stands in a list is an element of it
times_contains : (x : ℕ) (l : List ℕ) → 0 < times_in x l → Contains l x
times_contains x [] x_is_counted = absurd (omega arith)
times_contains x (y ∷ l) x_is_counted = contains_x (cases_lt 0 (times_in x l)) (times_contains x l)
  where
    contains_x : (0 < times_in x l) ⊎ (times_in x l ≤ 0) → (0 < times_in x l → Contains l x)
        → Contains (y ∷ l) x
    contains_x (inl x_in_tail) tail_contains = let in_tail = tail_contains x_in_tail in
        (suc in_tail.0, (omega (arith, in_tail.1)), in_tail.2)
    contains_x (inr x_not_in_tail) tail_contains = (
      0,
      omega arith,
      counted_is_equal x y
          (let count_splits : times_in x (y ∷ l) ≡ cond (y == x) 1 0 + times_in x l = refl in omega
          arith),
    )

module _ {A : Type 0} (db : List Statement) (by_essential : Bool) where
  -- findings stay right with the index and the citations of one more valid theorem
  findings_with_valid : (f g : Findings A) (i : ℕ) (cites : List ℕ) → AreFindings db by_essential f
      → i < length (theorems db) → HasCitations db by_essential (theorem_of db i) cites
      → g.valid.items ≡ f.valid.items ++ i ∷ [] → g.cites ≡ f.cites ++ cites ∷ []
      → g.faulty ≡ f.faulty → AreFindings db by_essential g
  findings_with_valid f g i cites are_findings i_lt_count has_citations valid_is cites_is faulty_is
      = record {
        list_count_is =
            ap length cites_is ∙ length-append f.cites (cites ∷ [])
            ∙ ap (λ n. n + 1) are_findings.list_count_is
            ∙ sym (length-append f.valid.items (i ∷ [])) ∙ sym (ap length valid_is);
        indices_lt_count =
            subst (λ (xs : List ℕ). All (λ j. j < length (theorems db)) xs) (sym valid_is)
            (All-push (λ j. j < length (theorems db)) f.valid.items i are_findings.indices_lt_count
            i_lt_count);
        each_has_citations =
            λ k k_lt_length. rw (valid_is, cites_is) (has_citations_at k (subst (λ n. k < n)
            (ap length valid_is ∙ length-append f.valid.items (i ∷ [])) k_lt_length)
            (cases_lt k (length f.valid.items)));
        fault_is_found = subst (λ (o : Option IndexedFault). IsFaultFound db o)
            (sym faulty_is) are_findings.fault_is_found;
      }
    where
      has_citations_at : (k : ℕ) → k < length f.valid.items + 1
          → (k < length f.valid.items) ⊎ (length f.valid.items ≤ k)
          → HasCitations db by_essential (theorem_of db (get_or (f.valid.items ++ i ∷ []) k 0))
          (get_or (f.cites ++ cites ∷ []) k [])
      has_citations_at k k_lt_length (inl k_is_before) =
          rw (
            get_or_append_left f.valid.items (i ∷ []) 0 k k_is_before,
            get_or_append_left f.cites
                (cites ∷ []) [] k (omega (arith, are_findings.list_count_is, k_is_before)),
          ) (are_findings.each_has_citations k k_is_before)
      has_citations_at k k_lt_suc (inr k_is_at_end) =
          let list_count_is = are_findings.list_count_is in
          let index_is_0 : k - length f.valid.items ≡ 0 = omega (arith, k_lt_suc, k_is_at_end) in
          let list_index_is_0 : k - length f.cites ≡ 0 =
          omega (arith, k_lt_suc, k_is_at_end, list_count_is) in
          rw (
            get_or-append_right f.valid.items (i ∷ []) k 0 k_is_at_end ∙ ap (λ j. get_or (i ∷ [])
                j 0) index_is_0,
            get_or-append_right f.cites (cites ∷ []) k []
                (omega (arith, list_count_is, k_is_at_end)) ∙ ap (λ j. get_or (cites ∷ []) j [])
                list_index_is_0,
          ) has_citations

module _ {A : Type 0} (job : Job A) where
  abbrev db : List Statement
  db = job.database.now.statements

  -- nothing was found yet
  no_findings : (f : Findings A) → f.valid.items ≡ [] → f.cites ≡ [] → f.faulty ≡ None
      → AreFindings db job.essential f
  no_findings f none_valid no_cites no_fault = record {
    list_count_is = ap length no_cites ∙ sym (ap length none_valid);
    indices_lt_count =
        subst (λ (xs : List ℕ). All (λ j. j < length (theorems db)) xs) (sym none_valid)
        (λ k d k_lt_0. absurd (omega arith));
    each_has_citations =
        λ k k_lt_length. absurd (omega
        (arith, subst (λ (xs : List ℕ). k < length xs) none_valid k_lt_length));
    fault_is_found = subst (λ (o : Option IndexedFault). IsFaultFound db o) (sym no_fault) tt;
  }

  -- findings that are right stay so when one more valid theorem is added, or a fault
  findings_after_valid : (f g : Findings A) (i : ℕ) → AreFindings db job.essential f
      → i < length (theorems db) → FindsValid job i f g → AreFindings db job.essential g
  findings_after_valid f g i are_findings i_lt_count finds_valid =
      findings_with_valid db job.essential f g i finds_valid.cites are_findings i_lt_count
      finds_valid.has_citations finds_valid.valid_are finds_valid.cites_are finds_valid.faulty_is

  findings_after_fault : (f g : Findings A) (i : ℕ) → AreFindings db job.essential f
      → i < length (theorems db) → FindsFault job i f g → AreFindings db job.essential g
  findings_after_fault f g i are_findings i_lt_count finds_fault = record {
    list_count_is = ap length finds_fault.cites_are ∙ are_findings.list_count_is
        ∙ sym (ap length finds_fault.valid_are);
    indices_lt_count =
        subst (λ (xs : List ℕ). All (λ j. j < length (theorems db)) xs) (sym finds_fault.valid_are)
        are_findings.indices_lt_count;
    each_has_citations =
        λ k k_lt_length. rw (finds_fault.valid_are, finds_fault.cites_are)
        (are_findings.each_has_citations k (subst (λ (xs : List ℕ). k < length xs)
        finds_fault.valid_are k_lt_length));
    fault_is_found =
        subst (λ (o : Option IndexedFault). IsFaultFound db o) (sym finds_fault.faulty_is)
        (i_lt_count, finds_fault.has_fault);
  }

  -- a seat that has settled and reported the same
  tells_of_equal_record : (w : WorkerState A) (s : SeatValue) → s.view.settled ≡ w.seat.view.settled
      → s.view.reported ≡ w.seat.view.reported → SeatTellsFindings job w
      → SeatTellsFindings job (record { seat = s; findings = w.findings })
  tells_of_equal_record w s settled_equal reported_equal seat_tells = record {
    are_findings = seat_tells.are_findings;
    settled_are_valid = settled_equal ∙ seat_tells.settled_are_valid;
    reported_is_faulty = λ i i_is_reported. seat_tells.reported_is_faulty i (subst (λ (l : List ℕ).
        0 < times_in i l) reported_equal i_is_reported);
  }

  -- a worker before its first theorem
  pub between_at_start : (s : SeatValue) (f : Findings A) → IsFreshSeat job.board.now s
      → f.valid.items ≡ []
      → f.cites ≡ [] → f.faulty ≡ None → IsBetweenTheorems job (record { seat = s; findings = f })
  between_at_start s f is_fresh none_valid no_cites no_fault = record {
    is_of_board = is_fresh.is_of_board;
    no_number_open = is_fresh.no_number_open;
    seat_tells =
        λ not_short. record {
          are_findings = no_findings f none_valid no_cites no_fault;
          settled_are_valid = is_fresh.none_settled ∙ sym none_valid;
          reported_is_faulty =
              λ i i_is_reported. absurd
              (omega (
                arith,
                subst (λ (l : List ℕ). 0 < times_in i l) is_fresh.none_reported
                    i_is_reported,
              ));
        };
  }

  -- a worker that had no memory to begin
  pub done_at_start : (s : SeatValue) (f : Findings A) → IsFreshSeat job.board.now s
      → f.short_of_memory ≡ true → IsDone job (record { seat = s; findings = f })
  done_at_start s f is_fresh is_short = record {
    is_between =
        record {
          is_of_board = is_fresh.is_of_board;
          no_number_open = is_fresh.no_number_open;
          seat_tells = λ not_short. absurd (true≢false (sym is_short ∙ not_short));
        };
    is_over = λ not_short. absurd (true≢false (sym is_short ∙ not_short));
  }

  -- a worker that claimed number i
  pub drawn_after_claim : (i : ℕ) (w : WorkerState A) (s : SeatValue) → IsOfDatabase job
      → IsBetweenTheorems job w → i < job.board.now.count → IsSeatOf job.board.now s
      → s.view ≡ record w.seat.view { open_number = Some i }
      → ((x : ℕ) → 0 < times_recorded x w.seat.view → x < i)
      → HasDrawn job i (record { seat = s; findings = w.findings })
  drawn_after_claim i w s is_of_database is_between_theorems i_lt_board_count is_seat view_is
      i_above_recorded = record {
        index_lt_count = subst (λ n. i < n) is_of_database.count_is i_lt_board_count;
        is_of_board = is_seat;
        is_open = ap (λ (v : View). v.open_number) view_is;
        index_above_reported =
            λ x x_is_reported. i_above_recorded x (x_is_recorded x
            (subst (λ (l : List ℕ). 0 < times_in x l) (ap (λ (v : View). v.reported) view_is)
            x_is_reported));
        seat_tells =
            λ not_short. tells_of_equal_record w s (ap (λ (v : View). v.settled) view_is)
            (ap (λ (v : View). v.reported) view_is) (is_between_theorems.seat_tells not_short);
      }
    where
      x_is_recorded : (x : ℕ) → 0 < times_in x w.seat.view.reported
          → 0 < times_recorded x w.seat.view
      x_is_recorded x x_is_reported = omega (arith, x_is_reported)

  module _ (i : ℕ) (w : WorkerState A) (has_drawn : HasDrawn job i w) (s : SeatValue) (f : ℕ)
      (view_is_looked : s.view ≡ after_look w.seat.view f) where
    settled_stays : s.view.settled ≡ w.seat.view.settled
    settled_stays = ap (λ (v : View). v.settled) view_is_looked

    reported_stays : s.view.reported ≡ w.seat.view.reported
    reported_stays = ap (λ (v : View). v.reported) view_is_looked

    open_number_is : s.view.open_number ≡ open_after_look (Some i) f
    open_number_is =
        ap (λ (v : View). v.open_number) view_is_looked
        ∙ ap (λ (o : Option ℕ). open_after_look o f) has_drawn.is_open

    -- the look skipped the number
    pub between_after_skip : IsSeatOf job.board.now s → is_some s.view.open_number ≡ false
        → IsBetweenTheorems job (record { seat = s; findings = w.findings })
    between_after_skip is_seat is_closed = record {
      is_of_board = is_seat;
      no_number_open = none_if_not_some s.view.open_number is_closed;
      seat_tells = λ not_short. tells_of_equal_record w s settled_stays reported_stays
          (has_drawn.seat_tells not_short);
    }
      where
        none_if_not_some : (o : Option ℕ) → is_some o ≡ false → o ≡ None
        none_if_not_some None is_closed = refl
        none_if_not_some (Some x) is_closed = absurd (true≢false is_closed)

    -- or left it open
    pub number_stays_open : is_some s.view.open_number ≡ true → s.view.open_number ≡ Some i
    number_stays_open is_open =
        open_number_is
        ∙ stays_open (nat_lt f i) (sym (ap (λ (o : Option ℕ). is_some o) open_number_is) ∙ is_open)
      where
        stays_open : (b : Bool) → is_some (cond b None (Some i)) ≡ true
            → cond b None (Some i) ≡ Some i
        stays_open true is_open = absurd (true≢false (sym is_open))
        stays_open false is_open = refl

    module _ (u : SeatValue) (x : ℕ) (g : Findings A) (is_open : is_some s.view.open_number ≡ true)
        (is_seat : IsSeatOf job.board.now u)
        (memory_lasted : g.short_of_memory ≡ false → w.findings.short_of_memory ≡ false) where
      -- the proof is valid, and the number was settled
      pub between_after_settle : u.view ≡ after_settle s.view x
          → (g.short_of_memory ≡ false → FindsValid job i w.findings g)
          → IsBetweenTheorems job (record { seat = u; findings = g })
      between_after_settle view_is finds_valid = record {
        is_of_board = is_seat;
        no_number_open = ap (λ (v : View). v.open_number) view_is;
        seat_tells =
            λ not_short. let seat_tells = has_drawn.seat_tells (memory_lasted not_short) in let
            valid_found = finds_valid not_short in record {
              are_findings = findings_after_valid w.findings g i seat_tells.are_findings
                  has_drawn.index_lt_count valid_found;
              settled_are_valid =
                  ap (λ (v : View). v.settled) view_is
                  ∙ ap₂ (λ (l : List ℕ) (o : Option ℕ). l ++ open_list o)
                  (settled_stays ∙ seat_tells.settled_are_valid) (number_stays_open is_open)
                  ∙ sym valid_found.valid_are;
              reported_is_faulty =
                  λ y y_is_reported. ap faulty_index valid_found.faulty_is
                  ∙ seat_tells.reported_is_faulty y (subst (λ (l : List ℕ). 0 < times_in y l)
                  (ap (λ (v : View). v.reported) view_is ∙ reported_stays) y_is_reported);
            };
      }

      -- the proof has a fault, and the number was reported: it is the only one, since a look skips
      -- all numbers above one that was reported
      pub between_after_report : u.view ≡ after_report s.view x
          → ((y : ℕ) → 0 < times_in y w.seat.view.reported → f ≤ y)
          → (g.short_of_memory ≡ false → FindsFault job i w.findings g)
          → IsBetweenTheorems job (record { seat = u; findings = g })
      between_after_report view_is floor_le_reported finds_fault = record {
        is_of_board = is_seat;
        no_number_open = ap (λ (v : View). v.open_number) view_is;
        seat_tells =
            λ not_short. let seat_tells = has_drawn.seat_tells (memory_lasted not_short) in let
            fault_found = finds_fault not_short in record {
              are_findings = findings_after_fault w.findings g i seat_tells.are_findings
                  has_drawn.index_lt_count fault_found;
              settled_are_valid =
                  ap (λ (v : View). v.settled) view_is ∙ settled_stays
                  ∙ seat_tells.settled_are_valid ∙ sym fault_found.valid_are;
              reported_is_faulty =
                  λ y y_is_reported. ap faulty_index fault_found.faulty_is ∙ ap Some
                  (elim (times_in_either y w.seat.view.reported (i ∷ [])
                  (subst (λ (l : List ℕ). 0 < times_in y l) (ap (λ (v : View). v.reported) view_is
                  ∙ ap₂ (λ (l : List ℕ) (o : Option ℕ). l ++ open_list o) reported_stays
                  (number_stays_open is_open)) y_is_reported)) [
                    | inl y_was_reported ↦
                        absurd (let none_is_some : None ≡ Some i =
                        sym (open_number_is ∙ ap (λ b. cond b None (Some i)) (lt-ltb f i
                        (omega (
                          arith,
                          floor_le_reported y y_was_reported,
                          has_drawn.index_above_reported y y_was_reported,
                        )))) ∙ number_stays_open is_open in cc)
                    | inr y_is_i ↦ counted_is_equal y i
                        (let count_is : times_in y (i ∷ []) ≡ cond (i == y) 1 0 + times_in y [] =
                        refl in
                        omega (arith, count_is, y_is_i))
                  ]);
            };
      }

-- how many of the numbers below n stand in no part of the record
abbrev pub unrecorded : ℕ → View → ℕ
unrecorded zero v = 0
unrecorded (suc n) v = cond (times_recorded n v == 0) 1 0 + unrecorded n v

zero_test_no_more : (a b : ℕ) → a ≤ b → cond (b == 0) 1 0 ≤ cond (a == 0) 1 0
zero_test_no_more a b = grind (arith, nat_tests)

-- where the record has each number at least as often, no more numbers are unrecorded
unrecorded_no_more : (n : ℕ) (v w : View) → ((x : ℕ) → times_recorded x v ≤ times_recorded x w)
    → unrecorded n w ≤ unrecorded n v
unrecorded_no_more zero v w recorded_rises = omega arith
unrecorded_no_more (suc n) v w recorded_rises =
    omega (
      arith,
      unrecorded_no_more n v w recorded_rises,
      zero_test_no_more (times_recorded n v)
          (times_recorded n w) (recorded_rises n),
    )

zero_test_less : (a b : ℕ) → a ≡ 0 → 0 < b → cond (b == 0) 1 0 < cond (a == 0) 1 0
zero_test_less a b = grind (arith, nat_tests)

pub unrecorded_fewer : (n i : ℕ) (v w : View) → ((x : ℕ) → times_recorded x v ≤ times_recorded x w)
    → i < n → times_recorded i v ≡ 0 → 0 < times_recorded i w → unrecorded n w < unrecorded n v
unrecorded_fewer zero i v w recorded_rises i_lt_0 i_unrecorded_before i_recorded_after = absurd
    (omega arith)
unrecorded_fewer (suc n) i v w recorded_rises i_below_n i_unrecorded_before i_recorded_after =
    unrecorded_lt (cases_lt i n) (λ i_lt_n. unrecorded_fewer n i v w recorded_rises i_lt_n
    i_unrecorded_before i_recorded_after)
  where
    unrecorded_lt : (i < n) ⊎ (n ≤ i) → (i < n → unrecorded n w < unrecorded n v)
        → unrecorded (suc n) w < unrecorded (suc n) v
    unrecorded_lt (inl i_lt_n) drops_if_lt =
        omega (
          arith,
          drops_if_lt i_lt_n,
          zero_test_no_more (times_recorded n v) (times_recorded n w)
              (recorded_rises n),
        )
    unrecorded_lt (inr n_le_i) drops_if_lt =
        let i_is_n : i ≡ n = omega (arith, i_below_n, n_le_i) in
        omega (
          arith,
          unrecorded_no_more n v w recorded_rises,
          zero_test_less (times_recorded n v)
              (times_recorded n w) (subst (λ k. times_recorded k v ≡ 0) i_is_n i_unrecorded_before)
              (subst (λ k. 0 < times_recorded k w) i_is_n i_recorded_after),
        )

module _ {A : Type 0} (job : Job A) where
  -- what was gathered when only the first worker's findings are there
  pub gathered_of_first : (w : WorkerState A) (gs : List (Findings A)) → gs ≡ w.findings
      ∷ [] → IsDone job w → w.findings.short_of_memory ≡ false → AreGathered job w.seat gs
  gathered_of_first w gs gs_are is_done not_short =
      let seat_tells = is_done.is_between.seat_tells not_short in
      subst (λ (l : List (Findings A)). AreGathered job w.seat l) (sym gs_are) (record {
        is_of_board = is_done.is_between.is_of_board;
        no_number_open = is_done.is_between.no_number_open;
        is_over = is_done.is_over not_short;
        are_findings =
            All-push (AreFindings job.database.now.statements job.essential) [] w.findings
            (λ k d k_lt_0. absurd (omega arith)) seat_tells.are_findings;
        settled_are_valid =
            λ i i_is_settled. record {
              findings = w.findings;
              are_listed = (0, omega arith, refl);
              has_index =
                  times_contains i w.findings.valid.items
                  (subst (λ (l : List ℕ). 0 < times_in i l) seat_tells.settled_are_valid
                  i_is_settled);
            };
        reported_are_faulty = λ i i_is_reported. record {
          findings = w.findings;
          are_listed = (0, omega arith, refl);
          index_is = seat_tells.reported_is_faulty i i_is_reported;
        };
      })

  -- one more worker's seat
  pub gathered_with_next : (s u : SeatValue) (fs gs : List (Findings A)) (w : WorkerState A)
      → gs ≡ fs ++ w.findings ∷ [] → AreGathered job s fs → IsDone job w
      → w.findings.short_of_memory ≡ false
      → IsSeatOf job.board.now u → u.view ≡ after_join s.view w.seat.view → AreGathered job u gs
  gathered_with_next s u fs gs w gs_are are_gathered is_done not_short is_seat view_is =
      subst (λ (l : List (Findings A)). AreGathered job u l) (sym gs_are) (record {
        is_of_board = is_seat;
        no_number_open = ap (λ (v : View). v.open_number) view_is ∙ are_gathered.no_number_open;
        is_over = ap (λ (v : View). v.over) view_is
            ∙ ap (λ (b : Bool). b || w.seat.view.over) are_gathered.is_over;
        are_findings =
            All-push (AreFindings job.database.now.statements job.essential) fs w.findings
            are_gathered.are_findings
            (is_done.is_between.seat_tells not_short).are_findings;
        settled_are_valid =
            λ i i_is_settled. elim (times_in_either i s.view.settled w.seat.view.settled
            (subst (λ (l : List ℕ). 0 < times_in i l) (ap (λ (v : View). v.settled) view_is)
            i_is_settled)) [
              | inl i_is_settled ↦
                  let found = are_gathered.settled_are_valid i i_is_settled in record {
                    findings = found.findings;
                    are_listed = Contains-append_left fs (w.findings ∷ []) found.findings
                        found.are_listed;
                    has_index = found.has_index;
                  }
              | inr i_is_settled ↦ record {
                findings = w.findings;
                are_listed = Contains-push fs w.findings;
                has_index =
                    times_contains i w.findings.valid.items (subst (λ (l : List ℕ). 0 < times_in i
                    l) (is_done.is_between.seat_tells not_short).settled_are_valid
                    i_is_settled);
              }
            ];
        reported_are_faulty =
            λ i i_is_reported. reported_is_faulty i
            (times_in_either i s.view.reported w.seat.view.reported
            (subst (λ (l : List ℕ). 0 < times_in i l) (ap (λ (v : View). v.reported) view_is)
            i_is_reported));
      })
    where
      reported_is_faulty : (i : ℕ) → (0 < times_in i s.view.reported) ⊎ (0 < times_in i
          w.seat.view.reported) → IsFoundFaulty (fs ++ w.findings ∷ []) i
      reported_is_faulty i (inl i_is_reported) =
          let found = are_gathered.reported_are_faulty i i_is_reported in record {
            findings = found.findings;
            are_listed = Contains-append_left fs (w.findings ∷ []) found.findings found.are_listed;
            index_is = found.index_is;
          }
      reported_is_faulty i (inr i_is_reported) =
          record {
            findings = w.findings;
            are_listed = Contains-push fs w.findings;
            index_is = (is_done.is_between.seat_tells not_short).reported_is_faulty i i_is_reported;
          }

-- a number drawn and judged
pub unrecorded_drops_after_draw : (n i : ℕ) (v w u : View) → v.open_number ≡ None
    → w ≡ record v { open_number = Some i } → i < n → ((x : ℕ) → 0 < times_recorded x v → x < i)
    → ((x : ℕ) → times_recorded x u ≡ times_recorded x w) → unrecorded n u < unrecorded n v
unrecorded_drops_after_draw n i v w u no_number_open w_is i_lt_n i_above_recorded record_stays =
    unrecorded_fewer n i v u recorded_no_less i_lt_n unrecorded_before recorded_after
  where
    record_when_open : (x : ℕ) → times_recorded x w
        ≡ cond (i == x) 1 0 + times_in x v.settled + times_in x v.reported + times_in x
        v.skipped
    record_when_open x = ap (λ (y : View). times_recorded x y) w_is

    record_when_closed : (x : ℕ) → times_recorded x v
        ≡ 0 + times_in x v.settled + times_in x v.reported + times_in x v.skipped
    record_when_closed x =
        ap (λ (o : Option ℕ). times_open x o + times_in x v.settled + times_in x v.reported
        + times_in x v.skipped) no_number_open

    recorded_no_less : (x : ℕ) → times_recorded x v ≤ times_recorded x u
    recorded_no_less x = omega (arith, record_stays x, record_when_open x, record_when_closed x)

    unrecorded_before : times_recorded i v ≡ 0
    unrecorded_before = elim (cases_lt 0 (times_recorded i v)) [
      | inl is_recorded ↦ absurd (omega (arith, i_above_recorded i is_recorded))
      | inr not_recorded ↦ omega (arith, not_recorded)
    ]

    recorded_after : 0 < times_recorded i u
    recorded_after = omega (arith, record_stays i, record_when_open i, equal_is_counted i)

-- if all elements of a list have a property, so have those before the last one, and the last one
pub All_of_front : {X : Type 0} (P : X → Type 0) (l m : List X) (x : X) → l
    ≡ m ++ x ∷ [] → All P l → All P m
All_of_front {X} P l m x l_is all_of_l =
    λ k d k_lt_length. rw (sym (get_or_append_left m (x ∷ []) d k k_lt_length))
    ((subst (λ (xs : List X). All P xs) l_is all_of_l) k d
    (omega (arith, length-append m (x ∷ []), k_lt_length)))

pub P_of_last : {X : Type 0} (P : X → Type 0) (l m : List X) (x : X) → l ≡ m ++ x ∷ [] → All P l
    → P x
P_of_last {X} P l m x l_is all_of_l =
    rw (sym (get_or_appended m x)) ((subst (λ (xs : List X). All P xs) l_is all_of_l) (length m) x
    (omega (arith, length-append m (x ∷ []))))
  where
    get_or_appended : {X : Type 0} (l : List X) (x : X) → get_or (l ++ x ∷ []) (length l) x ≡ x
    get_or_appended [] x = refl
    get_or_appended (y ∷ ys) x = get_or_appended ys x
