use Rattle.std.proofs.Common.{ℕ, ◌∙◌, ◌++◌, ◌∷◌, [], List, ap, ap₂}
use Rattle.std.proofs.Common.{take_all, map, subst}
use Rattle.std.specs.List.Sorted.{IsPermutation}
use Rattle.std.proofs.lemmas.List.{get_or_default}
use Rattle.mm_machine.specs.Entries.{no_entry}
use Rattle.mm_machine.specs.Distinct.{body_pair}
use Rattle.mm_machine.proofs.DistinctLaw.{next_asked}
use Rattle.mm_machine.proofs.distinct.list_asked.Goals as goal

pub loop-pair-preserved : goal.loop-pair-preserved
loop-pair-preserved g c =
    let es = c.args.premises.now in
    let ps = c.args.pairs.now in
    let i = c.loop-pair.pair-index in
    let in_range = c.requires i (0, 0) c.loop-pair-test.true in
    let e = c.index-premises-pair.result in
    let f = c.index-premises-pair-in-loop-pair.result in
    c.in_ok-push.ensures.items
    ∙ ap₂ (λ (xs ys : List (ℕ × ℕ)). xs ++ ys) c.loop-pair.invariant
    (ap₂ (λ (b d : ℕ). (b, d) ∷ []) c.number.ensures c.number-in-loop-pair.ensures)
    ∙ next_asked es ps i e f c.loop-pair-test.true
    (c.index-premises-pair.is ∙ get_or_default es _ e no_entry in_range.0)
    (c.index-premises-pair-in-loop-pair.is ∙ get_or_default es _ f no_entry in_range.1)

pub returns : goal.returns
returns g c =
    let ps = c.args.pairs.now in
    subst (λ (xs : List (ℕ × ℕ)). IsPermutation xs c.sort_unstable.new.self.items)
    (c.loop-pair.invariant ∙ ap (map (body_pair c.args.premises.now))
    (take_all c.loop-pair.pair-index ps c.loop-pair-test.false))
    c.sort_unstable.ensures.permutation
