use Rattle.std.proofs.Common.{◌<◌, ◌^◌, get_or, refl, arith, true≢false, sym}
use Rattle.mm_bits.proofs.BitLaw.{has_bits_if_words, has_word_if_bits}
use Rattle.mm_bits.proofs.has_all.Goals as goal

pub returns-then-row-index : goal.returns-then-row-index
returns-then-row-index c =
    let row = c.args.row.now in
    let bits = c.args.bits.now in
    let small : get_or bits c.loop-index.index 0 < 2 ^ 64 =
    (c.type_inv.bits c.loop-index.index).fits in (
      λ is_true. absurd (true≢false (sym is_true)),
      λ has_bits. absurd (c.if-row-index.true
          (has_word_if_bits row bits c.loop-index.index small has_bits)),
    )

pub returns : goal.returns
returns c = (
  λ is_true. has_bits_if_words c.args.row.now c.args.bits.now
      (λ k k_lt. c.loop-index.invariant k (omega (arith, k_lt, c.loop-index-test.false))),
  λ has_bits. refl,
)
