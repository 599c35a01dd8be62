-- Bytes at the front of a list that may be too short for them.
use Rattle.std.proofs.Common.{zero, suc, refl, ◌∷◌, ◌≡◌, ◌∙◌, ℕ, List, [], ◌++◌, ◌+◌, ◌-◌, ◌<◌, ◌≤◌}
use Rattle.std.proofs.Common.{◌⊎◌, inl, inr, drop, get_or, length, take, min, sym, ap, arith}
use Rattle.std.proofs.lemmas.Bool.{cases_lt}
use Rattle.std.proofs.Math.Seq.{take-append_seam, take-append-add, drop-append_seam}
use Rattle.std.proofs.lemmas.List.{append-nil, append_assoc, length-append, length-take-le}
use Rattle.std.proofs.lemmas.List.{nil_from_length, drop-drop, take_all}
use Rattle.mm_library.specs.Fronts.{front_contents}

-- as many of bs as fit are put behind the first n of xs, and zs are left behind them
pub put_behind : (n k : ℕ) (xs bs zs : List ℕ) → n < length xs
    → k ≡ min (length bs) (length xs - n) → length zs + (n + k) ≡ length xs
    → take (n + length bs) (take n xs ++ (take k bs ++ zs)) ≡ take (length xs) (take n xs ++ bs)
put_behind n k xs bs zs n_lt_length k_is length_splits = front_is (cases_lt (length xs - n) (length
    bs))
  where
    front_length : length (take n xs) ≡ n
    front_length = length-take-le n xs (omega (arith, n_lt_length))

    front_is : (length xs - n < length bs) ⊎ (length bs ≤ length xs - n)
        → take (n + length bs) (take n xs ++ (take k bs ++ zs)) ≡ take (length xs) (take n xs ++ bs)
    front_is (inl room_lt_length) =
        let k_is_room : k ≡ length xs - n = omega (arith, k_is, room_lt_length) in
        let zs_is_nil : zs ≡ [] = nil_from_length zs (omega (
          arith,
          length_splits,
          k_is_room,
          n_lt_length,
        )) in
        let taken_length_is : length (take k bs) ≡ k = length-take-le k bs (omega (
          arith,
          k_is_room,
          room_lt_length,
        )) in
        let put_length_is : length (take n xs ++ take k bs) ≡ n + k = length-append (take n xs)
        (take k bs)
        ∙ omega (arith, front_length, taken_length_is) in
        let length_is : length xs ≡ length (take n xs) + k = omega
        (arith, front_length, k_is_room, n_lt_length) in
        ap (λ (cs : List ℕ). take (n + length bs) (take n xs ++ cs))
        (ap (λ (cs : List ℕ). take k bs ++ cs) zs_is_nil ∙ append-nil (take k bs))
        ∙ take_all (n + length bs) (take n xs ++ take k bs) (omega (
          arith,
          put_length_is,
          k_is_room,
          room_lt_length,
        ))
        ∙ sym (ap (λ (m : ℕ). take m (take n xs ++ bs)) length_is
        ∙ take-append-add (take n xs) bs k)
    front_is (inr length_le_room) =
        let k_is_length : k ≡ length bs = omega (arith, k_is, length_le_room) in
        let taken_bytes_are : take k bs ≡ bs = take_all k bs (omega (arith, k_is_length)) in
        let put_length_is : length (take n xs ++ bs) ≡ n + length bs = length-append (take n xs) bs
        ∙ omega (arith, front_length) in
        ap (λ (cs : List ℕ). take (n + length bs) (take n xs ++ (cs ++ zs))) taken_bytes_are
        ∙ ap (take (n + length bs)) (sym (append_assoc (take n xs) bs zs))
        ∙ ap (λ (m : ℕ). take m ((take n xs ++ bs) ++ zs)) (sym put_length_is)
        ∙ take-append_seam (take n xs ++ bs) zs
        ∙ sym (take_all (length xs) (take n xs ++ bs) (omega (
          arith,
          put_length_is,
          length_le_room,
          n_lt_length,
        )))

-- the first n of what begins with the first n of xs
take-take-append : (n : ℕ) (xs ys : List ℕ) → take n (take n xs ++ ys) ≡ take n (xs ++ ys)
take-take-append zero xs ys = refl
take-take-append (suc n) [] ys = refl
take-take-append (suc n) (x ∷ xs) ys = ap (λ (zs : List ℕ). x ∷ zs) (take-take-append n xs ys)

-- bytes that were put behind the first n of xs, where as many of the written ones as fit are,
-- follow the written ones
pub front_grows : (n : ℕ) (xs ys bs written : List ℕ) → length ys ≡ length xs
    → take n xs ≡ take (length xs) written
    → take (n + length bs) ys ≡ take (length xs) (take n xs ++ bs)
    → take (n + length bs) ys ≡ take (length ys) (written ++ bs)
front_grows n xs ys bs written length_stays is_at_front bytes_follow =
    bytes_follow ∙ ap (λ (zs : List ℕ). take (length xs) (zs ++ bs)) is_at_front
    ∙ take-take-append (length xs) written bs
    ∙ ap (λ (m : ℕ). take m (written ++ bs)) (sym length_stays)

-- where two lists are the same behind n places, so they are behind more
pub rest_stays : (n k : ℕ) (xs ys : List ℕ) → drop n xs ≡ drop n ys → drop (n + k) xs ≡ drop (n
    + k) ys
rest_stays n k xs ys rest_is = sym (drop-drop k n xs) ∙ ap (drop k) rest_is ∙ drop-drop k n ys

-- what a step of writing does to a front: the slice and what was in it before stay, and the bytes
-- come behind what was written
pub record Grows (name new_name : ℕ) (before new_before written new_written bytes : List ℕ) : Type 0
  where
    pub name_stays : new_name ≡ name
    pub before_stays : new_before ≡ before
    pub written_grows : new_written ≡ written ++ bytes

pub contents_grow : (name new_name : ℕ) (before new_before written new_written bytes : List ℕ)
    → front_contents new_name new_before new_written ≡ front_contents name before written ++ bytes
    → Grows name new_name before new_before written new_written bytes
contents_grow name new_name before new_before written new_written bytes contents_are =
    let length_is : length new_before ≡ length before = ap (λ (xs : List ℕ). get_or xs 1 0)
    contents_are in
    let rest_is : new_before ++ new_written ≡ before ++ (written ++ bytes) = ap (drop 2)
    contents_are ∙ append_assoc before written bytes in
    record {
      name_stays = ap (λ (xs : List ℕ). get_or xs 0 0) contents_are;
      before_stays =
          sym (take-append_seam new_before new_written) ∙ ap (take (length new_before)) rest_is
          ∙ ap (λ (n : ℕ). take n (before ++ (written ++ bytes))) length_is
          ∙ take-append_seam before (written ++ bytes);
      written_grows =
          sym (drop-append_seam new_before new_written) ∙ ap (drop (length new_before)) rest_is
          ∙ ap (λ (n : ℕ). drop n (before ++ (written ++ bytes))) length_is
          ∙ drop-append_seam before (written ++ bytes);
    }
