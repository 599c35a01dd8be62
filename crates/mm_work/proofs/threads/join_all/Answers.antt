use Rattle.std.proofs.Common.{◌∙◌, ◌++◌, ◌∷◌, [], List, ap}
use Rattle.mm_work.specs.Workers.{IsDone}
use Rattle.mm_work.specs.declared.worker.Findings.{Findings}
use Rattle.mm_work.proofs.WorkersLaw.{gathered_of_first, gathered_with_next, All_of_front}
use Rattle.mm_work.proofs.WorkersLaw.{P_of_last}
use Rattle.mm_work.proofs.threads.join_all.Goals as goal

pub loop-other-init : goal.loop-other-init
loop-other-init g c = record {
  are_gathered =
      gathered_of_first c.args.job.now c.args.first c.add_findings.new.all_findings.items
      (c.in_ok-add_findings.ensures.adds_findings
      ∙ ap (λ (fs : List (Findings _)). fs ++ c.args.first.findings
      ∷ []) c.new-all_findings.ensures.items)
      c.requires.first_is_done c.in_ok-add_findings.ensures.has_memory;
  others_are_done = c.requires.others_are_done;
}

pub join-requires-clause-other_is_of_board : goal.join-requires-clause-other_is_of_board
join-requires-clause-other_is_of_board g c =
    (P_of_last (IsDone c.args.job.now) c.loop-other.others.items c.pop.new.self.items
    c.in-Some.other c.in-Some.ensures.items
    c.loop-other.invariant.others_are_done).is_between.is_of_board

pub join-requires-clause-none_open : goal.join-requires-clause-none_open
join-requires-clause-none_open g c =
    (P_of_last (IsDone c.args.job.now) c.loop-other.others.items c.pop.new.self.items
    c.in-Some.other c.in-Some.ensures.items
    c.loop-other.invariant.others_are_done).is_between.no_number_open

pub loop-other-preserved : goal.loop-other-preserved
loop-other-preserved g c = record {
  are_gathered =
      gathered_with_next c.args.job.now c.loop-other.seat c.join.new.seat
      c.loop-other.all_findings.items c.add_findings-in-Some.new.all_findings.items c.in-Some.other
      c.in_ok-add_findings-2.ensures.adds_findings c.loop-other.invariant.are_gathered
      (P_of_last (IsDone c.args.job.now) c.loop-other.others.items c.pop.new.self.items
      c.in-Some.other c.in-Some.ensures.items c.loop-other.invariant.others_are_done)
      c.in_ok-add_findings-2.ensures.has_memory c.join.ensures.is_of_board c.join.ensures.joins;
  others_are_done =
      All_of_front (IsDone c.args.job.now) c.loop-other.others.items c.pop.new.self.items
      c.in-Some.other c.in-Some.ensures.items c.loop-other.invariant.others_are_done;
}
