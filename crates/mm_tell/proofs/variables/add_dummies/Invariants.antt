use Rattle.std.proofs.Common.{◌≡◌, ℕ, ◌<◌, ◌||◌, All, length, take}
use Rattle.std.specs.List.{list_any}
use Rattle.mm_spec.specs.Text.{words}
use Rattle.mm_spec.specs.Derivation.{is_member}
use Rattle.mm_spec.specs.Frame.{symbol_names}
use Rattle.mm_outline.specs.Parts.{as_tokens}
use Rattle.mm_tell.specs.Named.{names_dummy}
use Rattle.mm_tell.proofs.variables.add_dummies.Given as goal

abbrev pub invariant-loop-word : goal.invariant-loop-word
invariant-loop-word g l = record {
  members_are : (x : ℕ)
      → is_member l.into.items x
      ≡ (is_member l.initial.into.items x
      || list_any (λ label. names_dummy l.database.statements l.theorem label x)
      (words (as_tokens l.database.text (take l.word-index l.labels))));
  variables_lt_count : All (λ v. v < length (symbol_names l.database.statements)) l.into.items;
}
