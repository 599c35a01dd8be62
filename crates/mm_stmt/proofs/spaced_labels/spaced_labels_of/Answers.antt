use Rattle.std.proofs.Common.{◌≡◌, ◌∙◌, ◌+◌, ◌++◌, ◌∷◌, ℕ, List, [], map, take, get_or, ap, arith}
use Rattle.std.proofs.lemmas.List.{take_more, map-append}
use Rattle.mm_spec.specs.Assertion.{label_at}
use Rattle.mm_outline.specs.Statements.{statements}
use Rattle.mm_lists.proofs.ListsLaw.{taken_joined_are_all_joined, joined_with_one_more, none_joined}
use Rattle.mm_stmt.proofs.spaced_labels.spaced_labels_of.Goals as goal

pub add_spaced_label-requires-clause-is_theorem : goal.add_spaced_label-requires-clause-is_theorem
add_spaced_label-requires-clause-is_theorem g c =
    c.requires.are_theorems c.loop-theorem.theorem-index 0 (omega arith)

pub loop-theorem-preserved : goal.loop-theorem-preserved
loop-theorem-preserved g c =
    let ks = c.args.theorems.now in
    let i = c.loop-theorem.theorem-index in
    let k = get_or ks i 0 in
    let name : ℕ → List ℕ =
    λ k. 32 ∷ label_at (statements c.args.text.now c.args.tokens.now c.args.outlines.now) k in
    let one_more_is_taken : map name (take (i + 1) ks) ≡ map name (take i ks) ++ name k ∷ [] =
    ap (map name) (take_more ks i 0 (omega arith)) ∙ map-append name (take i ks) (k ∷ []) in
    rw (
      one_more_is_taken,
      c.in_ok-add_spaced_label.ensures.end_is_added,
      c.in_ok-add_spaced_label.ensures.label_is_added,
    )
    (joined_with_one_more (map name (take i ks)) (name k) c.loop-theorem.bytes.items
    c.loop-theorem.ends.items c.loop-theorem.invariant)

pub loop-theorem-init : goal.loop-theorem-init
loop-theorem-init g c = none_joined _ _ c.new-bytes.ensures.items c.new-ends.ensures.items

pub from_ends-requires : goal.from_ends-requires
from_ends-requires g c =
    let index_bound = c.loop-theorem.auto.theorem-index-end in
    let index_is_past_end = c.loop-theorem-test.false in
    (taken_joined_are_all_joined
    (λ k. 32 ∷ label_at (statements c.args.text.now c.args.tokens.now c.args.outlines.now) k)
    c.args.theorems.now c.loop-theorem.theorem-index _ _
    (omega (arith, index_bound, index_is_past_end))
    c.loop-theorem.invariant).are_bounds

pub returns : goal.returns
returns g c =
    let index_bound = c.loop-theorem.auto.theorem-index-end in
    let index_is_past_end = c.loop-theorem-test.false in
    c.from_ends.ensures
    ∙ (taken_joined_are_all_joined
    (λ k. 32 ∷ label_at (statements c.args.text.now c.args.tokens.now c.args.outlines.now) k)
    c.args.theorems.now c.loop-theorem.theorem-index _ _
    (omega (arith, index_bound, index_is_past_end))
    c.loop-theorem.invariant).cut_is_lists
