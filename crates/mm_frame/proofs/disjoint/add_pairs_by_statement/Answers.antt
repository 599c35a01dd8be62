use Rattle.std.proofs.Common.{ℕ, List, ap, ◌∙◌, ◌||◌, take_all}
use Rattle.std.specs.List.{list_any}
use Rattle.mm_database.specs.Pairs.{has_pair}
use Rattle.mm_frame.specs.Together.{has_later}
use Rattle.mm_frame.proofs.LoopsLaw.{none_so_far, any_with_next_element}
use Rattle.mm_frame.proofs.disjoint.add_pairs_by_statement.Goals as goal

pub loop-index-init : goal.loop-index-init
loop-index-init g c = λ x y. none_so_far (has_pair c.args.pairs.now.items x y)

pub loop-index-preserved : goal.loop-index-preserved
loop-index-preserved g c = λ x y.
    any_with_next_element (λ p. has_later c.args.by_statement.now p x y) c.args.by_statement.now
    c.loop-index.index (0, 0) _ _ _
    c.loop-index-test.true (c.loop-index.invariant x y) (c.in_ok-add_later_pairs.ensures x y)

pub returns : goal.returns
returns g c = λ x y.
    c.loop-index.invariant x y
    ∙ ap (λ (ps : List (ℕ × ℕ)). has_pair c.args.pairs.now.items x y
    || list_any (λ p. has_later c.args.by_statement.now p x y) ps)
    (take_all c.loop-index.index c.args.by_statement.now c.loop-index-test.false)
