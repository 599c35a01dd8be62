use Rattle.std.proofs.Common.{nat_eq, ap, ◌∙◌}
use Rattle.std.proofs.lemmas.List.Filters.{dedup_is}
use Rattle.std.proofs.lemmas.Map.Keys.{IsStrictlyIncreasing-dedup}
use Rattle.mm_spec.specs.Derivation.{is_member}
use Rattle.mm_spec.proofs.ListLaw.{sort_and_dedup_keeps_members}
use Rattle.mm_check.proofs.noted.NotedAssertions.sorted.Goals as goal

pub returns-clause-cites_rise : goal.returns-clause-cites_rise
returns-clause-cites_rise g c =
    rw (c.in_ok-cites.ensures.items_if_clones_equal (λ x y is. is) ∙ c.deref.ensures.value
    ∙ (dedup_is nat_eq _ _ c.dedup.ensures.filtered))
    (IsStrictlyIncreasing-dedup c.sort_unstable.new.self.items c.sort_unstable.ensures.sorted)

pub returns-clause-members_stay : goal.returns-clause-members_stay
returns-clause-members_stay g c a =
    ap (λ l. is_member l a) (c.in_ok-cites.ensures.items_if_clones_equal (λ x y is. is)
    ∙ c.deref.ensures.value) ∙ sort_and_dedup_keeps_members c.self.inside.numbers.items
    c.sort_unstable.new.self.items c.dedup.new.self.items c.sort_unstable.ensures.permutation
    (dedup_is nat_eq _ _ c.dedup.ensures.filtered) a ∙ ap (λ l. is_member l a) c.self.view_is
