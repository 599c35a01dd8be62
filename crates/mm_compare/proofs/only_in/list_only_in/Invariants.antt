use Rattle.std.proofs.Common.{◌≡◌, ◌≤◌, length}
use Rattle.std.specs.List.{filter, range_with_len}
use Rattle.std.specs.Option.{option_copied}
use Rattle.mm_spec.specs.Comparison.{is_only_in}
use Rattle.mm_compare.specs.Frames.{AreKnown}
use Rattle.mm_compare.specs.Sides.{side_of}
use Rattle.mm_compare.proofs.only_in.list_only_in.Given as goal

abbrev pub invariant-loop-k : goal.invariant-loop-k
invariant-loop-k g l = record {
  k_le_length : l.k ≤ length l.database.statements;
  are_known : AreKnown l.database.statements l.other.statements l.known;
  listed_are : l.listed.items
      ≡ filter (is_only_in (side_of l.database) (option_copied l.only) (side_of l.other))
      (range_with_len 0 l.k);
}
