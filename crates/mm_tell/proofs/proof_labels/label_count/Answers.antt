use Rattle.std.proofs.Common.{rules, ◌≡◌, ◌∙◌, true, ap₂, sym, get_or, bytes_eq, codes, arith}
use Rattle.std.proofs.lemmas.List.{take_all}
use Rattle.mm_spec.specs.declared.Word.{Word}
use Rattle.mm_outline.specs.Parts.{token_of}
use Rattle.mm_tell.proofs.BracketLaw.{labels_up_to_bracket, all_are_labels}
use Rattle.mm_tell.proofs.proof_labels.label_count.Goals as goal

pub returns-then-eq-clause-are_labels : goal.returns-then-eq-clause-are_labels
returns-then-eq-clause-are_labels c =
    let text = c.args.text.now in
    let none : Word = record { start = 0; end = 0 } in
    let closes : bytes_eq (token_of text (get_or c.args.words.now c.loop-i.i none)).word (codes ")")
    ≡ true =
    ap₂ bytes_eq (sym c.bytes.ensures) (sym c.as_slice.ensures) ∙ sym c.eq.ensures ∙ c.if-eq.true in
    labels_up_to_bracket (token_of text) c.args.words.now c.loop-i.i none c.loop-i-test.true
    c.loop-i.invariant closes

pub returns-clause-are_labels : goal.returns-clause-are_labels
returns-clause-are_labels c = search (rules, arith, all_are_labels, take_all)
