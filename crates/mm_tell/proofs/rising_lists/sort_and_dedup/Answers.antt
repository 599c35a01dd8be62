use Rattle.std.proofs.Common.{rules, arith, ◌≡◌, nat_eq}
use Rattle.std.specs.List.{dedup}
use Rattle.std.proofs.lemmas.List.Filters.{dedup_is}
use Rattle.std.proofs.lemmas.Map.Keys.{IsStrictlyIncreasing-dedup}
use Rattle.mm_spec.proofs.ListLaw.{sort_and_dedup_keeps_members}
use Rattle.mm_tell.proofs.rising_lists.sort_and_dedup.Goals as goal

pub returns-clause-rises : goal.returns-clause-rises
returns-clause-rises g c =
    let numbers_are_deduped : c.dedup.new.self.items ≡ dedup nat_eq c.sort_unstable.new.self.items =
    dedup_is nat_eq _ _ c.dedup.ensures.filtered in
    rw numbers_are_deduped
    (IsStrictlyIncreasing-dedup c.sort_unstable.new.self.items c.sort_unstable.ensures.sorted)

pub returns-clause-members_stay : goal.returns-clause-members_stay
returns-clause-members_stay g c = search (rules, arith, sort_and_dedup_keeps_members, dedup_is)
