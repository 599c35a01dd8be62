use Rattle.std.proofs.Common.{rules, arith, ◌∙◌, ◌<◌, sym, length}
use Rattle.std.proofs.lemmas.List.Elements.{All-append}
use Rattle.mm_spec.specs.Frame.{symbol_names}
use Rattle.mm_spec.specs.Assertion.{is_used}
use Rattle.mm_tell.proofs.ListsLaw.{hypotheses_bounded, is_filtered_range, bounded_by_members}
use Rattle.mm_tell.proofs.ListsLaw.{member_is_bounded, dummies_bounded}
use Rattle.mm_tell.proofs.NamedLaw.{used_members}
use Rattle.mm_tell.proofs.variables.list_used.Goals as goal

pub add_typed-requires-clause-statements_lt_length :
    goal.add_typed-requires-clause-statements_lt_length
add_typed-requires-clause-statements_lt_length g c =
    search (
      rules,
      arith,
      hypotheses_bounded,
      c.requires.are_hypotheses,
      c.requires.theorem_lt_length,
    )

pub returns : goal.returns
returns g c =
    let count = length (symbol_names c.args.database.now.statements) in
    let both_are = c.in_ok-extend_from_slice.ensures.items in
    let members_stay = c.sort_and_dedup.ensures.members_stay in
    let both_bounded = rw (← both_are) at (All-append (λ v. v < count) _ _
    c.in_ok-add_typed.ensures.variables_lt_count (rw (← c.requires.are_dummies) at
    (dummies_bounded c.args.database.now.statements c.args.theorem))) in
    is_filtered_range _ (is_used c.args.database.now.statements c.args.theorem) count
    c.sort_and_dedup.ensures.rises (λ x. members_stay x
    ∙ (rw (
      both_are,
      c.in_ok-add_typed.ensures.variables_are,
      c.clear.ensures.items,
      c.requires.are_hypotheses,
    ) (used_members c.args.database.now.statements c.args.theorem x _
    (c.requires.members_are x))))
    (bounded_by_members count _ (λ a is_found.
    member_is_bounded count _ both_bounded a (sym (members_stay a) ∙ is_found)))
