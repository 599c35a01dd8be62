-- Texts written by two copies that may overlap.
use Rattle.std.proofs.Common.{◌≡◌, ◌≤◌, ℕ, List, ◌+◌, ◌++◌, length, take, drop, sym, ap, ◌∙◌, arith}
use Rattle.std.proofs.Math.Seq.{take-append-add}
use Rattle.std.proofs.lemmas.List.{take-take, take-append-drop, length-take-le, append_assoc}

pub put_twice : (l m n bodies first_bodies last_bodies : List ℕ) (index w skipped : ℕ)
    → skipped + w ≡ length bodies → skipped ≤ w → index ≤ length l → first_bodies ≡ take w bodies
    → last_bodies ≡ drop skipped bodies → length first_bodies ≡ w → length last_bodies ≡ w
    → take (index + length first_bodies) m ≡ take index l ++ first_bodies
    → take (index + skipped + length last_bodies) n ≡ take (index + skipped) m ++ last_bodies
    → take (index + length bodies) n ≡ take index l ++ bodies
put_twice l m n bodies first_bodies last_bodies index w skipped skipped_plus_w skipped_le_w
    index_le_length_l first_bodies_are last_bodies_are length_first_is_w length_last_is_w
    first_written last_written =
    let end_is : index + skipped + length last_bodies ≡ index + length bodies = omega (
      arith,
      skipped_plus_w,
      length_last_is_w,
    ) in
    let length_taken = length-take-le index l index_le_length_l in
    let end_of_skipped_is : length (take index l) + skipped ≡ index + skipped = omega (
      arith,
      length_taken,
    ) in
    let skipped_written : take (index + skipped) m ≡ take index l ++ take skipped bodies =
    sym (take-take (index + skipped) (index + length first_bodies) m (omega (
      arith,
      length_first_is_w,
      skipped_le_w,
    )))
    ∙ ap (take (index + skipped)) (first_written ∙ ap (λ z. take index l ++ z) first_bodies_are)
    ∙ ap (λ k. take k (take index l ++ take w bodies)) (sym end_of_skipped_is)
    ∙ take-append-add (take index l) (take w bodies) skipped
    ∙ ap (λ z. take index l ++ z) (take-take skipped w bodies skipped_le_w) in
    ap (λ k. take k n) (sym end_is) ∙ last_written
    ∙ ap (λ z. z ++ last_bodies) skipped_written
    ∙ ap (λ z. (take index l ++ take skipped bodies) ++ z) last_bodies_are
    ∙ append_assoc (take index l) (take skipped bodies) (drop skipped bodies)
    ∙ ap (λ z. take index l ++ z) (take-append-drop skipped bodies)
