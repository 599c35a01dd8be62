use Rattle.std.proofs.Common.{◌≡◌, ◌-◌, ◌∙◌, ap, ap₂, subst, arith}
use Rattle.std.specs.Prelude.{IfOk}
use Rattle.std.specs.List.{AllZip, range_with_len}
use Rattle.rayon.specs.Numbers.{nat_range}
use Rattle.rayon.proofs.ListFacts.{IfOk-then}
use Rattle.mm_frame.specs.Stretches.{AreStretchFrames}
use Rattle.mm_frame.proofs.stretches.frames_by_stretch.Goals as goal

pub returns : goal.returns
returns g c =
    let mapped_is = c.with_min_len.ensures.base in
    let start_is =
    ap (λ m. m.base.start) mapped_is ∙ ap (λ r. r.start) c.map.ensures.base
    ∙ c.into_par_iter.ensures.0 in
    let end_is =
    ap (λ m. m.base.end) mapped_is ∙ ap (λ r. r.end) c.map.ensures.base
    ∙ c.into_par_iter.ensures.1 in
    let captured_are = ap (λ m. m.f) mapped_is ∙ c.map.ensures.f in
    let length_is : c.len.result - 0 ≡ c.len.result = omega arith in
    IfOk-then c.collect.result _ _ c.collect.ensures (λ v (
      results,
      (indices, indices_are, zipped),
      collected_are,
    ).
    rw (
      collected_are,
      ← c.len.ensures,
      ← (indices_are ∙ ap₂ nat_range start_is end_is ∙ ap (range_with_len 0) length_is),
    )
    (subst (λ f. AllZip (λ i r. IfOk r (AreStretchFrames f.1.now.statements.now.list f.2.now.size
    i)) indices results) captured_are zipped))
