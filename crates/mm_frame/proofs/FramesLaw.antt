-- One statement more in the walk that makes the frames.
use Rattle.std.proofs.Common.{rules, ◌≡◌, ℕ, ◌+◌, ◌-◌, ◌<◌, ◌≤◌, List, [], ◌∷◌, ◌++◌, length, map}
use Rattle.std.proofs.Common.{get_or, set, Option, None, Some, sym, ap, ◌∙◌, arith, inl, inr}
use Rattle.std.proofs.lemmas.Grind.{common_steps}
use Rattle.std.proofs.lemmas.Bool.Decides.{nat_tests}
use Rattle.std.proofs.lemmas.Bool.{cases_lt, cases_eq}
use Rattle.std.proofs.lemmas.List.{get_or-set_same, get_or-set_other, length-set}
use Rattle.std.proofs.lemmas.List.FromFn.{map-range_with_len_more, length-map-range_with_len}
use Rattle.std.proofs.lemmas.Option.{same_Some}
use Rattle.std.specs.List.{range_with_len}
use Rattle.mm_spec.specs.Statement.{Statement}
use Rattle.mm_spec.specs.Frame.{symbol_names}
use Rattle.mm_outline.specs.Blocks.{never}
use Rattle.mm_database.specs.Frames.{Mandatory, frame_or_none, frames_between}
use Rattle.mm_database.specs.ParsedStatements.{IsSound, typed_variable_at}
use Rattle.mm_frame.specs.Hypotheses.{AreLastFloats}
use Rattle.mm_frame.proofs.NestedLaw.{open_at_earlier}
use Rattle.mm_frame.proofs.FloatLaw.{typed_is_float, not_typed_twice, variable_lt_symbol_count}

-- ---- the types of variables

-- before the first statement no variable has a `$f`
pub last_floats_at_start : (db : List Statement) (ts : List ℕ) (n : ℕ)
    → n ≡ length (symbol_names db)
    → length ts ≡ n → ((i : ℕ) → i < n → get_or ts i 0 ≡ never) → AreLastFloats db 0 ts
last_floats_at_start db ts n n_is_symbol_count length_is_n all_are_never = grind (arith, nat_tests)

-- a statement that is no `$f` leaves the last `$f` of each variable
pub last_floats_without_float : (db : List Statement) (k : ℕ) (ts : List ℕ) → AreLastFloats db k ts
    → typed_variable_at db k ≡ None → AreLastFloats db (k + 1) ts
last_floats_without_float db k ts last_floats k_has_no_float = record {
  count = last_floats.count;
  last_is_typed = search (rules, arith);
  open_is_last = search (rules, arith, cases_lt, open_at_earlier);
}

-- a `$f` becomes the last of its variable
pub last_floats_with_float : (db : List Statement) → IsSound db → (k v : ℕ) (ts : List ℕ)
    → k < length db
    → AreLastFloats db k ts → typed_variable_at db k ≡ Some v
    → AreLastFloats db (k + 1) (set ts v k)
last_floats_with_float db sound k v ts k_lt_length last_floats k_types_v = record {
  count = length-set ts v k ∙ last_floats.count;
  last_is_typed = λ u u_lt_count last_ne_never. elim (cases_eq u v) [
    | inl u_is_v ↦ search (rules, arith, set)
    | inr u_ne_v ↦
        search (rules, arith, get_or-set_other)
  ];
  open_is_last = λ j u j_lt_next u_lt_count j_types_u j_is_open. elim (cases_lt j k) [
    | inl j_lt_k ↦
        let is_open = open_at_earlier db j k (k + 1) (omega arith) (omega arith) j_is_open in
        elim (cases_eq u v) [
          | inl u_is_v ↦ absurd (not_typed_twice db sound j k v j_lt_k k_lt_length
              (typed_is_float db sound j v (omega arith) (j_types_u ∙ ap Some u_is_v))
              (typed_is_float db sound k v k_lt_length k_types_v) is_open)
          | inr u_ne_v ↦ search (rules, arith, get_or-set_other)
        ]
    | inr k_le_j ↦
        search (rules, arith, same_Some, set)
  ];
}
  where
    v_lt_length : v < length ts
    v_lt_length =
        (search (rules, arith, variable_lt_symbol_count, typed_is_float))

    float_is_set : get_or (set ts v k) v 0 ≡ k
    float_is_set = get_or-set_same ts v k 0 v_lt_length

-- ---- the frames

-- before a stretch there is no frame of it
pub no_frames_at_start : (db : List Statement) (from : ℕ) → [] ≡ frames_between db from from
no_frames_at_start db from = grind (arith, common_steps)

-- a statement more, with its frame if it is an assertion
pub frames_with_statement : (db : List Statement) (from k : ℕ) (old new : List (Option Mandatory))
    → from ≤ k → old ≡ frames_between db from k → new ≡ old ++ frame_or_none db k ∷ []
    → new ≡ frames_between db from (k + 1)
frames_with_statement db from k old new from_le_k old_are_frames new_are_pushed =
    let one_more : (k - from) + 1 ≡ (k + 1) - from = omega (arith, from_le_k) in
    new_are_pushed
    ∙ ap (λ fs. fs ++ frame_or_none db k ∷ []) old_are_frames
    ∙ sym (map-range_with_len_more (frame_or_none db) from (k - from) k (omega (arith, from_le_k)))
    ∙ ap (λ n. map (frame_or_none db) (range_with_len from n)) one_more

-- a stretch has as many frames, or none, as it has statements
pub frame_count : (db : List Statement) (from to : ℕ)
    → length (frames_between db from to) ≡ to - from
frame_count db from to = length-map-range_with_len (frame_or_none db) from (to - from)
