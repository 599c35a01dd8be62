use Rattle.std.proofs.Common.{◌≤◌, ◌∙◌, length, sym, ap, arith}
use Rattle.std.proofs.lemmas.List.{take_all}
use Rattle.mm_bytes.specs.Masks.{is_bad, mask}
use Rattle.mm_spec.specs.Bytes.{is_white}
use Rattle.mm_lex.proofs.scanner.classes_of.Goals as goal

pub returns-in-None-clause-white_is : goal.returns-in-None-clause-white_is
returns-in-None-clause-white_is c =
    let length_le_64 : length c.args.bytes.now ≤ 64 = omega (arith, c.in-None.ensures.cases) in
    c.class_tail.ensures.white_is
    ∙ ap (mask is_white) (sym (take_all 64 c.args.bytes.now length_le_64))

pub returns-in-None-clause-bad_is : goal.returns-in-None-clause-bad_is
returns-in-None-clause-bad_is c =
    let length_le_64 : length c.args.bytes.now ≤ 64 = omega (arith, c.in-None.ensures.cases) in
    c.class_tail.ensures.bad_is ∙ ap (mask is_bad) (sym (take_all 64 c.args.bytes.now length_le_64))
