use Rattle.std.proofs.Common.{◌≡◌, ◌-◌, false, ⊎_elim, arith}
use Rattle.std.proofs.lemmas.Bool.{cases_lt}
use Rattle.mm_spec.specs.Words.{white_at}
use Rattle.mm_lex.proofs.BlockLaw.{block_not_white}
use Rattle.mm_lex.proofs.ends.after_white.Goals as goal

pub loop-place-preserved : goal.loop-place-preserved
loop-place-preserved c = record {
  from_le_place = omega (arith, c.loop-place-test.true);
  place_le_to = omega (arith, c.loop-place.invariant.place_le_to);
  not_white = λ i from_le_i i_lt_to. ⊎_elim {C = white_at c.args.text.now i ≡ false}
      (λ i_lt_place. block_not_white c.args.text.now
      (c.loop-place.place - 64) c.classes_of.result.white c.classes_of.ensures.white_is
      c.if-classes_of-eq0.true
      (omega (
        arith,
        c.loop-place-test.true,
        c.loop-place.invariant.place_le_to,
        c.requires.to_le_length,
      ))
      i from_le_i
      (omega (arith, i_lt_place, c.loop-place-test.true)))
      (λ place_le_i. c.loop-place.invariant.not_white i place_le_i i_lt_to)
      (cases_lt i c.loop-place.place);
}
