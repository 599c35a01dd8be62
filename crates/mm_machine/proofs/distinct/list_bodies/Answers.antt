use Rattle.std.proofs.Common.{◌≡◌, ◌++◌, ◌∷◌, [], All, get_or, subst, sym, nat_eq}
use Rattle.std.proofs.Common.{refl}
use Rattle.std.specs.List.{dedup}
use Rattle.std.proofs.lemmas.List.{take_all}
use Rattle.std.proofs.lemmas.List.Elements.{All-push}
use Rattle.std.proofs.lemmas.List.Filters.{dedup_is}
use Rattle.std.proofs.lemmas.Map.Keys.{IsStrictlyIncreasing-dedup}
use Rattle.mm_machine.specs.Distinct.{HasBoth, HasSymbols}
use Rattle.mm_machine.specs.State.{IsRising}
use Rattle.mm_machine.proofs.DistinctLaw.{next_has_both, sorted_have_both, sorted_all}
use Rattle.mm_machine.proofs.DistinctLaw.{rising_if_strictly}
use Rattle.mm_machine.proofs.distinct.list_bodies.Goals as goal

pub loop-pair-preserved : goal.loop-pair-preserved
loop-pair-preserved g c =
    let has_symbols = HasSymbols c.args._database.now.statements c.args._nodes.now in
    let bs = c.loop-pair.listed.items in
    let ps = c.args.asked.now in
    let i = c.loop-pair.pair-index in
    let p = get_or ps i (0, 0) in
    let both = c.requires i (0, 0) c.loop-pair-test.true in
    rw (c.in_ok-push-2.ensures.items, c.in_ok-push.ensures.items)
    (record {
      are_listed =
          next_has_both bs ps i p.0 p.1 c.loop-pair-test.true refl refl
          c.loop-pair.invariant.are_listed;
      have_symbols =
          All-push has_symbols (bs ++ p.0 ∷ []) p.1
          (All-push has_symbols bs p.0 c.loop-pair.invariant.have_symbols both.0) both.1;
    })

pub returns-clause-rise : goal.returns-clause-rise
returns-clause-rise g c =
    let numbers_are_deduped : c.dedup.new.self.items ≡ dedup nat_eq c.sort_unstable.new.self.items =
    dedup_is nat_eq _ _ c.dedup.ensures.filtered in
    subst IsRising (sym numbers_are_deduped) (rising_if_strictly _
    (IsStrictlyIncreasing-dedup c.sort_unstable.new.self.items c.sort_unstable.ensures.sorted))

pub returns-clause-are_listed : goal.returns-clause-are_listed
returns-clause-are_listed g c =
    sorted_have_both c.loop-pair.listed.items c.sort_unstable.new.self.items
    c.dedup.new.self.items c.sort_unstable.ensures.permutation
    (dedup_is nat_eq _ _ c.dedup.ensures.filtered) c.args.asked.now
    (subst (All (HasBoth c.loop-pair.listed.items))
    (take_all c.loop-pair.pair-index c.args.asked.now c.loop-pair-test.false)
    c.loop-pair.invariant.are_listed)

pub returns-clause-have_symbols : goal.returns-clause-have_symbols
returns-clause-have_symbols g c =
    sorted_all c.loop-pair.listed.items c.sort_unstable.new.self.items
    c.dedup.new.self.items c.sort_unstable.ensures.permutation
    (dedup_is nat_eq _ _ c.dedup.ensures.filtered)
    (HasSymbols c.args._database.now.statements c.args._nodes.now)
    c.loop-pair.invariant.have_symbols
