use Rattle.std.proofs.lemmas.Grind.{common_steps}
use Rattle.std.proofs.Common.{◌≡◌, ◌∙◌, ◌++◌, ◌∷◌, [], ℕ, ◌+◌, List, ap, ap₂, map, arith}
use Rattle.std.specs.List.{range_with_len}
use Rattle.std.proofs.lemmas.List.{map-append}
use Rattle.std.proofs.lemmas.List.FromFn.{map-range_with_len_more}
use Rattle.mm_spec.specs.Derivation.{Pair, pair}
use Rattle.std.specs.Option.{option_copied}
use Rattle.mm_tell.specs.Dummies.{DummyLists, told_dummies, told_dummy_pairs}
use Rattle.mm_tell.proofs.dummies.Dummies.new.Goals as goal

-- a list with one element more
grows : {X : Type 0} (f : ℕ → X) (xs ys : List X) (x : X) (i : ℕ) → ys ≡ xs ++ x ∷ []
    → xs ≡ map f (range_with_len 0 i) → x ≡ f i → ys ≡ map f (range_with_len 0 (i + 1))
grows f xs ys x i ys_are xs_are x_is = grind (arith, common_steps, map-range_with_len_more)

pub loop-statement-preserved : goal.loop-statement-preserved
loop-statement-preserved g c =
    let db = c.args.database.now.statements in
    let only = option_copied c.args.only in
    let i = c.loop-statement.statement in
    let found = c.dummies.view_is ∙ c.loop-statement.invariant in
    let as_pairs = map (λ (p : ℕ × ℕ). pair p.0 p.1) in
    let variables_are =
    grows (told_dummies db only) c.dummies.inside.variables c.push.new.self c.deref.result.now i
    c.in_ok-push.ensures.list_is_added (ap (λ (f : DummyLists). f.variables) found)
    (c.deref.ensures.value ∙ c.in_ok-list.ensures.dummies_are) in
    let pairs_are =
    grows (told_dummy_pairs db only) (map as_pairs c.dummies.inside.pairs)
    (map as_pairs c.push-in-loop-statement.new.self) (as_pairs c.deref-in-loop-statement.result.now)
    i
    (ap (map as_pairs) c.in_ok-push-2.ensures.list_is_added
    ∙ map-append as_pairs c.dummies.inside.pairs _)
    (ap (λ (f : DummyLists). f.pairs) found)
    (ap as_pairs c.deref-in-loop-statement.ensures.value ∙ c.in_ok-list.ensures.pairs_are) in
    ap₂ (λ (vs : List (List ℕ)) (ps : List (List Pair)). record { variables = vs; pairs = ps })
    variables_are pairs_are
