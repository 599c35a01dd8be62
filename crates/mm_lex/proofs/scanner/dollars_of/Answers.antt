use Rattle.std.proofs.Common.{◌≤◌, ◌==◌, ◌∙◌, length, sym, ap, arith}
use Rattle.std.proofs.lemmas.List.{take_all}
use Rattle.mm_bytes.specs.Masks.{mask}
use Rattle.mm_lex.proofs.scanner.dollars_of.Goals as goal

pub returns-in-None : goal.returns-in-None
returns-in-None c =
    let length_le_64 : length c.args.bytes.now ≤ 64 = omega (arith, c.in-None.ensures.cases) in
    c.dollars_tail.ensures
    ∙ ap (mask (λ b. b == 36)) (sym (take_all 64 c.args.bytes.now length_le_64))
