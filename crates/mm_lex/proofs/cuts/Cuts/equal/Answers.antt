use Rattle.std.proofs.Common.{◌≡◌, ◌∙◌, ℕ, ◌+◌, ◌-◌, ◌*◌, ◌/◌, ◌++◌, ◌∷◌, [], List, map, sym, ap}
use Rattle.std.proofs.Common.{subst, arith}
use Rattle.std.specs.List.{range_with_len}
use Rattle.std.proofs.lemmas.List.FromFn.{map-range_with_len_more}
use Rattle.mm_lex.specs.Places.{cut_text, IsCutText}
use Rattle.mm_lex.proofs.CutLaw.{equal_cuts_are_cuts}
use Rattle.mm_lex.proofs.cuts.Cuts.equal.Goals as goal

pub loop-i-preserved : goal.loop-i-preserved
loop-i-preserved g c =
    let cut_of = λ (i : ℕ). c.args.len * (i + 1) / c.args.count in
    c.in_ok-push.ensures.items ∙ ap (λ l. l ++ cut_of c.loop-i.i ∷ []) c.loop-i.invariant
    ∙ sym (map-range_with_len_more cut_of 0 c.loop-i.i c.loop-i.i (omega arith))

pub invariant_of-result : goal.invariant_of-result
invariant_of-result g c =
    let places_are : c.loop-i.places.items
    ≡ map (λ i. c.args.len * (i + 1) / c.args.count) (range_with_len 0 (c.args.count - 1)) =
    let i_is_last : c.loop-i.i ≡ c.args.count - 1 =
    omega arith in
    c.loop-i.invariant
    ∙ ap (λ n. map (λ i. c.args.len * (i + 1) / c.args.count) (range_with_len 0 n)) i_is_last in
    subst (λ (l : List ℕ). IsCutText (cut_text l c.args.len)) (sym places_are)
    (equal_cuts_are_cuts c.args.len c.args.count c.requires.some_pieces)
