use Rattle.std.proofs.Common.{◌∙◌, sym}
use Rattle.std.proofs.lemmas.List.Folds.{list_all_at}
use Rattle.mm_machine.specs.Distinct.{are_strings_disjoint}
use Rattle.mm_machine.proofs.DistinctLaw.{disjoint_by_variables}
use Rattle.mm_machine.proofs.OwnersLaw.{list_all_next}
use Rattle.mm_machine.proofs.rule_conditions.pairs_are_disjoint.Goals as goal

pub variables_of-first-requires-clause-is_listed : goal.variables_of-first-requires-clause-is_listed
variables_of-first-requires-clause-is_listed g c =
    (c.requires.are_listed c.loop-index.index (0, 0) c.loop-index-test.true).0

pub variables_of-second-requires-clause-is_listed :
    goal.variables_of-second-requires-clause-is_listed
variables_of-second-requires-clause-is_listed g c =
    (c.requires.are_listed c.loop-index.index (0, 0) c.loop-index-test.true).1

pub returns-then-not-lists_are_disjoint-clause-tells_disjoint :
    goal.returns-then-not-lists_are_disjoint-clause-tells_disjoint
returns-then-not-lists_are_disjoint-clause-tells_disjoint g c =
    let db = c.args.database.now.statements in
    let nodes = c.args._nodes.now in
    let ps = c.args.asked.now in
    let i = c.loop-index.index in
    sym (list_all_at (are_strings_disjoint db c.args.theorem nodes) ps i (0, 0)
    c.loop-index-test.true (disjoint_by_variables db c.args.theorem _ _ _ _
    c.variables_of-first.ensures.have_same_variables
    c.variables_of-second.ensures.have_same_variables
    ∙ sym c.lists_are_disjoint.ensures.tells_disjoint ∙ c.if-not-lists_are_disjoint.true))

pub loop-index-preserved : goal.loop-index-preserved
loop-index-preserved g c =
    let db = c.args.database.now.statements in
    let nodes = c.args._nodes.now in
    let ps = c.args.asked.now in
    let i = c.loop-index.index in
    record {
      so_far =
          list_all_next (are_strings_disjoint db c.args.theorem nodes) ps i (0, 0)
          c.loop-index-test.true c.loop-index.invariant.so_far
          (disjoint_by_variables db c.args.theorem _ _ _ _
          c.variables_of-first.ensures.have_same_variables
          c.variables_of-second.ensures.have_same_variables
          ∙ sym c.lists_are_disjoint.ensures.tells_disjoint ∙ c.if-not-lists_are_disjoint.false);
      cache = c.lists_are_disjoint.ensures.cached_are_disjoint;
    }
