use Rattle.std.proofs.Common.{rules, arith, ◌∙◌, List, [], Option, ap, sym}
use Rattle.std.specs.Prelude.{unwrap_or}
use Rattle.mm_spec.specs.Text.{Token}
use Rattle.mm_spec.specs.Assertion.{is_variable_of}
use Rattle.mm_tell.proofs.ListsLaw.{hypotheses_rise, is_filtered_range, bounded_by_members}
use Rattle.mm_tell.proofs.ListsLaw.{member_is_bounded}
use Rattle.mm_tell.proofs.NamedLaw.{named_by_labels}
use Rattle.mm_tell.proofs.variables.list_dummies.Goals as goal

pub add_dummies-requires-clause-rise : goal.add_dummies-requires-clause-rise
add_dummies-requires-clause-rise g c =
    search (rules, arith, hypotheses_rise, c.requires.are_hypotheses)

pub returns-clause-members_are : goal.returns-clause-members_are
returns-clause-members_are g c = λ x.
    let labels_are = rw c.text.ensures at c.label_words-labels.ensures.are_labels in
    c.sort_and_dedup.ensures.members_stay x ∙ c.in_ok-add_dummies.ensures.members_are x
    ∙ (rw (
      c.clear.ensures.items,
      labels_are,
      ← ap (λ (o : Option (List Token)). unwrap_or o [])
          c.proof_words.ensures.words_are,
    )
    (named_by_labels c.args.database.now.statements c.args.theorem x))

pub returns-clause-dummies_are : goal.returns-clause-dummies_are
returns-clause-dummies_are g c =
    is_filtered_range _ (is_variable_of c.args.database.now.statements _) _
    c.sort_and_dedup.ensures.rises (returns-clause-members_are g c) (bounded_by_members _ _
    (λ a is_found. member_is_bounded _ _ c.in_ok-add_dummies.ensures.variables_lt_count a
    (sym (c.sort_and_dedup.ensures.members_stay a) ∙ is_found)))
