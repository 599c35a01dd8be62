use Rattle.std.proofs.Common.{ℕ, subst, sym}
use Rattle.std.specs.Prelude.{Decides, OnOk}
use Rattle.mm_spec.specs.Derivation.{is_member}
use Rattle.mm_spec.specs.Citation.{Cites}
use Rattle.mm_check.proofs.essential.Flags.retain_cited.Goals as goal

pub returns-then-essential : goal.returns-then-essential
returns-then-essential g c =
    subst (λ b. OnOk c.note_essential.result ((a : ℕ)
    → Decides (is_member c.note_essential.new.noted a) (Cites c.args.database.now.statements b
    c.args.theorem a))) (sym c.if-essential.true) c.note_essential.ensures

pub returns-else-essential : goal.returns-else-essential
returns-else-essential g c =
    subst (λ b. (a : ℕ) → Decides (is_member c.args.noted.now a)
    (Cites c.args.database.now.statements b c.args.theorem a))
    (sym c.if-essential.false) c.requires.noted_are_cited
