use Rattle.std.proofs.Common.{◌∙◌, [], ap, length, take_all, le_refl}
use Rattle.mm_outline.specs.Statements.{statements}
use Rattle.mm_database.specs.Names.{names_of}
use Rattle.mm_scope.specs.Formulas.{numbers_by}
use Rattle.mm_scope.proofs.numbering.numbers_onward.Goals as goal

pub returns : goal.returns
returns g c =
    let names = names_of c.args.names.now in
    let text = c.args.text.now in
    let ws = c.args.tokens.now in
    let os = c.args.outlines.now in
    c.in_ok-number_between.ensures [] c.requires.are_before.numbers_are
    ∙ ap (λ list. numbers_by names (statements text ws list))
    (take_all (length os) os (le_refl (length os)))
