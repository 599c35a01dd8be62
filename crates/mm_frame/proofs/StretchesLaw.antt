-- Frames of stretches, put one behind the other.
use Rattle.std.proofs.lemmas.Grind.{common_steps}
use Rattle.std.proofs.Common.{◌≡◌, ℕ, zero, suc, ◌+◌, ◌-◌, ◌<◌, ◌≤◌, ◌^◌, List, [], ◌∷◌, ◌++◌}
use Rattle.std.proofs.Common.{length, map, get_or, Option, Result, Ok, refl, sym, ap, ap₂, subst}
use Rattle.std.proofs.Common.{◌∙◌, arith}
use Rattle.std.specs.Prelude.{IfOk}
use Rattle.std.specs.List.{AllZip, range_with_len, remove}
use Rattle.std.specs.declared.alloc.AllocError.{AllocError}
use Rattle.std.proofs.lemmas.List.{map-append}
use Rattle.rayon.specs.Shown.{run-append}
use Rattle.mm_spec.specs.Statement.{Statement}
use Rattle.mm_database.specs.Frames.{Mandatory, frame_or_none, frames_before, frames_between}
use Rattle.mm_stretches.specs.Stretches.{stretch_start, stretch_count}
use Rattle.mm_stretches.proofs.StretchesLaw.{first_start_is_zero, start_le_next}
use Rattle.mm_stretches.proofs.StretchesLaw.{last_start_is_count}
use Rattle.mm_frame.specs.Stretches.{AreStretchFrames}
use Rattle.mm_frame.proofs.FramesLaw.{frame_count}

-- the frames up to a statement, and behind them those up to a later one
frames_between_joined : (db : List Statement) (from to : ℕ) → from ≤ to
    → frames_between db 0 from ++ frames_between db from to ≡ frames_between db 0 to
frames_between_joined db from to from_le_to =
    let from_is : from - 0 ≡ from = omega arith in
    let start_is : from ≡ 0 + from = omega arith in
    let lengths_are : from + (to - from) ≡ to - 0 = omega arith in
    rw from_is
    (sym (map-append (frame_or_none db) (range_with_len 0 from) (range_with_len from (to - from)))
    ∙ ap (map (frame_or_none db)) (ap (λ a. range_with_len 0 from ++ range_with_len a (to - from))
    start_is ∙ run-append 0 from (to - from) ∙ ap (range_with_len 0) lengths_are))

-- the frames of one stretch of all statements
pub frames_of_all : (db : List Statement) (n : ℕ) → n ≡ length db
    → frames_between db 0 n ≡ frames_before db (length db)
frames_of_all db n n_is_length = grind (arith, common_steps)

-- the frames are those of the first stretches, and the others are still to be added
pub record AreJoined (db : List Statement) (size : ℕ) (frames : List (Option Mandatory))
    (unjoined : List (Result (List (Option Mandatory)) AllocError)) : Type 0 where
  pub joined : ℕ
  pub left : ℕ
  pub count : joined + left ≡ stretch_count size (length db)
  pub frames_are : frames ≡ frames_between db 0 (stretch_start size (length db) joined)
  pub unjoined_are : AllZip (λ i r. IfOk r (AreStretchFrames db size i))
      (range_with_len joined left) unjoined

module _ (db : List Statement) (size : ℕ) where
  abbrev Made : Type 0
  Made = Result (List (Option Mandatory)) AllocError

  abbrev AreMade : ℕ → ℕ → List Made → Type 0
  AreMade joined left =
      AllZip (λ i r. IfOk r (AreStretchFrames db size i)) (range_with_len joined left)

  -- at first no stretch is joined
  pub none_are_joined : (frames : List (Option Mandatory)) (made : List Made) → frames ≡ []
      → (count : ℕ) → count ≡ length db → AreMade 0 (stretch_count size count) made
      → AreJoined db size frames made
  none_are_joined frames made no_frames count count_is are_made = record {
    joined = 0;
    left = stretch_count size count;
    count = let counts_equal = ap (stretch_count size) count_is in omega (arith, counts_equal);
    frames_are = no_frames ∙ ap (frames_between db 0) (sym (first_start_is_zero size (length db)));
    unjoined_are = are_made;
  }

  -- the first of the stretches that are left, and those after it
  first_of_left : (joined left : ℕ) (unjoined : List Made) (next : List (Option Mandatory))
      → AreMade joined left unjoined → 0 < length unjoined → Ok next ≡ get_or unjoined 0 (Ok next)
      → AreStretchFrames db size joined next
      × (later : ℕ) × (left ≡ later + 1) × AreMade (joined + 1) later (remove unjoined 0)
  first_of_left joined left [] next are_made some_left is_next = absurd (omega arith)
  first_of_left joined zero (r ∷ rest) next are_made some_left is_next = absurd are_made
  first_of_left joined (suc later) (r ∷ rest) next (is_stretch, later_are) some_left is_next = (
    subst (λ (r : Made). IfOk r (AreStretchFrames db size joined)) (sym is_next) is_stretch,
    later,
    omega arith,
    later_are,
  )

  module _ (frames next : List (Option Mandatory)) (unjoined : List Made)
      (so_far : AreJoined db size frames unjoined)
      (some_left : 0 < length unjoined) (is_next : Ok next ≡ get_or unjoined 0 (Ok next)) where
    -- the frames of the next stretch and those before it are few
    pub next_are_few : length db < 2 ^ 31 → length frames + length next < 2 ^ 31
    next_are_few few_statements =
        let from = stretch_start size (length db) so_far.joined in
        let to = stretch_start size (length db) (so_far.joined + 1) in
        let is_stretch = (first_of_left so_far.joined so_far.left unjoined next
        so_far.unjoined_are some_left is_next).0 in
        let first_count = ap length so_far.frames_are ∙ frame_count db 0 from in
        let second_count = ap length is_stretch.frames_are ∙ frame_count db from to in
        let from_le_to = start_le_next size (length db) so_far.joined in
        omega (arith, first_count, second_count, from_le_to, few_statements)

    -- one stretch more is joined
    pub next_is_joined : (both : List (Option Mandatory)) (rest : List Made) → both ≡ frames ++ next
        → rest ≡ remove unjoined 0 → AreJoined db size both rest
    next_is_joined both rest both_are rest_is =
        let (is_stretch, later, left_is, later_are) = first_of_left so_far.joined so_far.left
        unjoined next so_far.unjoined_are some_left is_next in
        record {
          joined = so_far.joined + 1;
          left = later;
          count = let count_is = so_far.count in omega (arith, count_is, left_is);
          frames_are =
              both_are ∙ ap₂ (λ l r. l ++ r) so_far.frames_are is_stretch.frames_are
              ∙ frames_between_joined db _ _ (start_le_next size (length db) so_far.joined);
          unjoined_are = subst (AreMade (so_far.joined + 1) later) (sym rest_is) later_are;
        }

  -- if no stretch is left, the frames are those of all statements
  pub all_are_joined : (frames : List (Option Mandatory)) (unjoined : List Made) → 0 < size
      → AreJoined db size frames unjoined → length unjoined ≡ 0
      → frames ≡ frames_before db (length db)
  all_are_joined frames unjoined size_gt_0 so_far none_left =
      let all_joined = none_is_left so_far.left unjoined so_far.unjoined_are none_left in
      let count_is = so_far.count in
      let joined_is : so_far.joined ≡ stretch_count size (length db) =
      omega (arith, all_joined, count_is) in
      so_far.frames_are ∙ frames_of_all db _ (ap (stretch_start size (length db)) joined_is
      ∙ last_start_is_count size (length db) size_gt_0)
    where
      none_is_left : (left : ℕ) (unjoined : List Made) → AreMade so_far.joined left unjoined
          → length unjoined ≡ 0 → left ≡ 0
      none_is_left zero unjoined are_made none_left = refl
      none_is_left (suc left) [] are_made none_left = absurd are_made
      none_is_left (suc left) (r ∷ rest) are_made none_left = absurd (omega (arith, none_left))
