use Rattle.std.proofs.Common.{◌∙◌, ap, map, sym, ℕ}
use Rattle.std.specs.Option.{option_copied}
use Rattle.mm_spec.specs.Derivation.{pair}
use Rattle.mm_tell.proofs.NamedLaw.{no_told_pairs}
use Rattle.mm_tell.proofs.dummies.Scratch.list.Goals as goal

pub returns-clause-pairs_are : goal.returns-clause-pairs_are
returns-clause-pairs_are g c =
    ap (map (λ (p : ℕ × ℕ). pair p.0 p.1)) c.clear-2.ensures.items
    ∙ sym (no_told_pairs c.args.database.now.statements (option_copied c.args.only) c.args.statement
    (c.is_told_theorem.ensures.has_none_if_false c.if-is_told_theorem.false))
