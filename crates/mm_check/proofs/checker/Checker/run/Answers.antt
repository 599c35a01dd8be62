use Rattle.std.proofs.Common.{sym, subst}
use Rattle.mm_check.specs.Checker.{CheckerState, IsMadeFor}
use Rattle.mm_check.proofs.EndLaw.{no_step_performed}
use Rattle.mm_check.proofs.checker.Checker.run.Goals as goal

pub loop-i-init : goal.loop-i-init
loop-i-init g c =
    let db = c.args.database.now.statements in
    no_step_performed db c.args.theorem c.args.steps.now.steps c.restart.new.self _ c.clear.new.self
    c.restart-2.new.self c.clear-2.new.self _ (subst (λ (s : CheckerState). IsMadeFor db s)
    (sym c.self.view_is) c.requires.made_for) c.requires.are_steps c.restart.ensures
    c.clear.ensures c.restart-2.ensures c.clear-2.ensures
