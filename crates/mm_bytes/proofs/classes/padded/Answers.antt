use Rattle.std.proofs.Common.{◌++◌, length, ap₂}
use Rattle.std.proofs.lemmas.List.{drop-replicate}
use Rattle.mm_bytes.proofs.classes.padded.Goals as goal

pub returns : goal.returns
returns c =
    ap₂ (λ a b. a ++ b) c.copy_from_slice.ensures.after
    (drop-replicate (length c.args.bytes.now) 64 97)
