use Rattle.std.proofs.Common.{◌≡◌, ◌∙◌, ◌+◌, ◌-◌, ℕ, List, ◌++◌, ap, arith, drop, length, rules}
use Rattle.std.proofs.Common.{take}
use Rattle.std.proofs.lemmas.List.{length-drop}
use Rattle.std.proofs.lemmas.Slice.{drop-put_mid}
use borrow.Rule.Slice.PartMut.{post_of}
use Rattle.mm_library.proofs.FrontLaw.{put_behind}
use Rattle.mm_library.proofs.front.copy_behind.Goals as goal

pub returns-then-len-out-clause-bytes_follow_front :
    goal.returns-then-len-out-clause-bytes_follow_front
returns-then-len-out-clause-bytes_follow_front c =
    let xs = c.args.out.now in let n = c.args.len in let k = c.min-count.result in
    let end_minus_n_is_k : n + k - n ≡ k = omega arith in
    ap (λ (j : ℕ). take (n + length c.args.bytes.now) (take n xs
    ++ (c.copy_from_slice.new.self ++ post_of n j xs))) end_minus_n_is_k
    ∙ ap (λ (ys : List ℕ). take (n + length c.args.bytes.now) (take n xs ++ (ys ++ post_of n k xs)))
    c.copy_from_slice.ensures.after
    ∙ put_behind n k xs c.args.bytes.now (post_of n k xs) c.if-len-out.true c.min-count.ensures
    (let length_behind_k = length-drop k (drop n xs) in let length_behind_n = length-drop n xs in
    omega (arith, length_behind_k, length_behind_n))

pub returns-then-len-out-clause-rest_stays : goal.returns-then-len-out-clause-rest_stays
returns-then-len-out-clause-rest_stays c =
    let n = c.args.len in let k = c.min-count.result in
    let k_is = c.min-count.ensures in
    let length_is = c.copy_from_slice.ensures.len in
    drop-put_mid n (n + k - n) c.args.out.now c.copy_from_slice.new.self
    (n + length c.args.bytes.now) (omega (arith, k_is)) (omega (arith, c.if-len-out.true))
    (search (rules, length_is))
