use Rattle.std.proofs.Common.{◌≡◌, ℕ, ◌<◌, false, get_or, codes}
use Rattle.std.specs.Prelude.{bytes_eq}
use Rattle.mm_spec.specs.declared.Word.{Word}
use Rattle.mm_outline.specs.Parts.{token_of}
use Rattle.mm_tell.proofs.proof_labels.label_count.Given as goal

abbrev pub invariant-loop-i : goal.invariant-loop-i
invariant-loop-i l =
    (j : ℕ) (d : Word) → j < l.i
    → bytes_eq (token_of l.text (get_or l.words j d)).word (codes ")") ≡ false
