use Rattle.std.proofs.Common.{◌<◌, length, sym, subst}
use Rattle.mm_spec.specs.Output.{theorems}
use Rattle.mm_shifts.specs.Resting.{IsNextMarked, Resting}
use Rattle.mm_shifts.proofs.MarkedLaw.{next_is_marked}
use Rattle.mm_shifts.proofs.marked.Marked.next_marked.Goals as goal

pub returns : goal.returns
returns g c =
    let inside = c.self.inside in
    subst (λ (r : Resting). IsNextMarked r c.args.row c.args.from c.next_marked.result)
    c.self.view_is
    (next_is_marked inside.database.now inside.citations.now inside.axioms.now inside.marks.now
    c.self.invariant.is_marked c.args.row
    (subst (λ (r : Resting). c.args.row < length (theorems r.contents.statements))
    (sym c.self.view_is) c.requires)
    c.args.from c.next_marked.result c.next_marked.ensures.is_first
    c.next_marked.ensures.none_is_there)
