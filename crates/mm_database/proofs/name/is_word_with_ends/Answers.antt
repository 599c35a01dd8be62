use Rattle.std.proofs.Common.{◌≡◌, ◌∙◌, ◌≤◌, sym, length, true, arith}
use Rattle.std.proofs.lemmas.Slice.Eq.{bytes_eq-Decides}
use Rattle.std.proofs.lemmas.Bool.Decides.{nat_tests}
use Rattle.std.specs.Prelude.{nat_le}
use Rattle.mm_database.proofs.EndsLaw.{same_by_ends}
use Rattle.mm_database.proofs.name.is_word_with_ends.Goals as goal

pub returns-then-bytes-le-BOTH_ENDS : goal.returns-then-bytes-le-BOTH_ENDS
returns-then-bytes-le-BOTH_ENDS c =
    let is_short : nat_le (length c.args.word.now) 16 ≡ true =
    grind (arith, nat_tests, c.if-bytes-le-BOTH_ENDS.true) in
    let few : length c.args.word.now ≤ 16 =
    grind (arith, nat_tests, c.if-bytes-le-BOTH_ENDS.true) in
    is_short ∙ sym ((bytes_eq-Decides c.args.word.now c.args.other.now).1
    (same_by_ends c.args.word.now c.args.other.now (λ k. (c.type_inv.word k).fits)
    (λ k. (c.type_inv.other k).fits) c.requires.same_length few c.requires.same_ends))
