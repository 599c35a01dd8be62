use Rattle.std.proofs.Common.{◌≡◌, ◌+◌, length, subst, sym, arith}
use Rattle.mm_rows.specs.Waves.{AreWaves}
use Rattle.mm_rows.proofs.WaveLaw.{no_waves, waves_with_one_more}
use Rattle.mm_rows.proofs.wave.waves_of.Goals as goal

pub loop-theorem_index-init : goal.loop-theorem_index-init
loop-theorem_index-init g c = record {
  index_le_theorems = omega arith;
  waves =
      subst (AreWaves c.args.citations.now 0) (sym c.new-waves.ensures.items)
      (no_waves c.args.citations.now);
}

pub wave_of_theorem-wave-requires-clause-index_lt_theorems :
    goal.wave_of_theorem-wave-requires-clause-index_lt_theorems
wave_of_theorem-wave-requires-clause-index_lt_theorems g c =
    let index_test = c.loop-theorem_index-test.true in
    let rows_are = c.rows-theorem_index-end.ensures.count_is in omega (arith, index_test, rows_are)

pub wave_of_theorem-wave-requires-clause-are_waves :
    goal.wave_of_theorem-wave-requires-clause-are_waves
wave_of_theorem-wave-requires-clause-are_waves g c =
    subst (AreWaves c.args.citations.now c.loop-theorem_index.theorem_index)
    (sym c.deref.ensures.value) c.loop-theorem_index.invariant.waves

pub loop-theorem_index-preserved : goal.loop-theorem_index-preserved
loop-theorem_index-preserved g c = record {
  index_le_theorems =
      (let index_test = c.loop-theorem_index-test.true in
      let rows_are = c.rows-theorem_index-end.ensures.count_is in
      omega (arith, index_test, rows_are));
  waves =
      subst (AreWaves c.args.citations.now (c.loop-theorem_index.theorem_index + 1))
      (sym c.in_ok-push.ensures.items)
      (waves_with_one_more c.args.citations.now c.loop-theorem_index.theorem_index
      c.wave_of_theorem-wave.result c.loop-theorem_index.waves.items
      c.loop-theorem_index.invariant.waves c.wave_of_theorem-wave.ensures.is_wave
      c.wave_of_theorem-wave.ensures.wave_le_index);
}

pub returns : goal.returns
returns g c =
    let index_test = c.loop-theorem_index-test.false in
    let rows_are = c.rows-theorem_index-end.ensures.count_is in
    let index_le_theorems = c.loop-theorem_index.invariant.index_le_theorems in
    let index_is_count : c.loop-theorem_index.theorem_index ≡ length c.args.citations.now.theorems =
    omega (arith, index_test, rows_are, index_le_theorems) in
    subst (λ k. AreWaves c.args.citations.now k c.loop-theorem_index.waves.items) index_is_count
    c.loop-theorem_index.invariant.waves
