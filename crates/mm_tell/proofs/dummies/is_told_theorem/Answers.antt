use Rattle.std.proofs.Common.{true≢false, sym}
use Rattle.std.specs.Option.{option_copied}
use Rattle.mm_tell.proofs.NamedLaw.{no_dummies, no_proof_unless_theorem, no_told_dummies}
use Rattle.mm_tell.proofs.dummies.is_told_theorem.Goals as goal

pub returns-in_default : goal.returns-in_default
returns-in_default g c =
    let db = c.args.database.now.statements in
    let k = c.args.statement in
    record {
      is_told_if_true = λ is_true. absurd (true≢false (sym is_true));
      has_none_if_false = λ is_false. no_told_dummies db (option_copied c.args.only) k
          (no_dummies db k
          (no_proof_unless_theorem db k c.kind.result c.kind.ensures c.in_default.not-Theorem));
    }
