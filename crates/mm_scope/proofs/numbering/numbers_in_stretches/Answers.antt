use Rattle.std.proofs.Common.{◌≡◌, refl, subst, length}
use Rattle.std.specs.Prelude.{IfOk}
use Rattle.mm_outline.specs.Statements.{statements}
use Rattle.mm_database.specs.Names.{names_of}
use Rattle.mm_scope.specs.Formulas.{numbers_by}
use Rattle.mm_scope.specs.Numbering.{numbers_up_to}
use Rattle.mm_scope.proofs.numbering.numbers_in_stretches.Goals as goal

pub numbers_onward-requires-clause-are_before : goal.numbers_onward-requires-clause-are_before
numbers_onward-requires-clause-are_before g c =
    c.in_ok-joined.ensures
    (numbers_up_to (names_of c.in_ok-names.names) c.args.text.now c.args.tokens.now
    c.args.outlines.now) (length c.args.outlines.now) refl c.in_ok-found.ensures

pub returns : goal.returns
returns g c =
    subst (λ names. IfOk c.numbers_onward.result (λ v. v.items
    ≡ numbers_by names (statements c.args.text.now c.args.tokens.now c.args.outlines.now)))
    c.in_ok-names.ensures c.numbers_onward.ensures
