use Rattle.std.proofs.Common.{◌≡◌, ◌+◌, ◌*◌, ◌-◌, take, fold, IsTrue}
use Rattle.std.specs.List.{list_all}
use Rattle.mm_spec.specs.CompressedProof.{is_early_letter}
use Rattle.mm_proof.specs.Number.{saturated}
use Rattle.mm_proof.proofs.numerals.number.Given as goal

abbrev pub invariant-loop-byte : goal.invariant-loop-byte
invariant-loop-byte l = record {
  early : IsTrue (list_all is_early_letter (take l.byte-index l.early));
  value : l.value ≡ saturated (fold (λ n b. 5 * n + (b - 84)) 0 (take l.byte-index l.early));
}
