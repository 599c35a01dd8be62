use Rattle.std.proofs.Common.{rules, ◌∙◌, sym, arith}
use Rattle.std.proofs.lemmas.Grind.{common_steps}
use Rattle.mm_database.proofs.DatabaseLaw.{as_many_statements}
use Rattle.mm_database.proofs.RetainedWordsLaw.{k_lt_retained_count, some_are_retained}
use Rattle.mm_database.proofs.RetainedWordsLaw.{label_is_retained, label_missing}
use Rattle.mm_database.proofs.database.Database.label_place.Goals as goal

pub kind-requires : goal.kind-requires
kind-requires g c = grind (arith, common_steps, as_many_statements, c.self.view_is, c.requires)

pub get-requires : goal.get-requires
get-requires g c = search (rules, arith, k_lt_retained_count)

pub bounds-get-0 : goal.bounds-get-0
bounds-get-0 g c = search (rules, arith, some_are_retained)

pub returns-then-has_label : goal.returns-then-has_label
returns-then-has_label g c =
    label_is_retained _ _ _ _ _ c.self.view_is _ c.requires _ c.self.invariant.retained_are
    c.get.result.now
    c.get.ensures.is_list (λ t. t.at) _ c.kind.ensures
    (sym c.has_label.ensures ∙ c.if-has_label.true)
    (record { start = 0; end = 0 })

pub returns-else-has_label : goal.returns-else-has_label
returns-else-has_label g c =
    label_missing _ _ _ _ _ c.self.view_is _ c.requires (λ t. t.at) _ c.kind.ensures
    (sym c.has_label.ensures ∙ c.if-has_label.false)
