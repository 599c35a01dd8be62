use Rattle.std.proofs.Common.{◌∙◌, sym, arith}
use Rattle.std.specs.Option.{option_copied}
use Rattle.mm_spec.specs.Comparison.{is_only_in}
use Rattle.mm_compare.specs.Sides.{side_of}
use Rattle.mm_database.proofs.KindsLaw.{filter_range_passes, filter_range_skips}
use Rattle.mm_compare.proofs.only_in.list_only_in.Goals.{then-is_only_in+in_ok-push}
use Rattle.mm_compare.proofs.only_in.list_only_in.Goals.{else-is_only_in}
use Rattle.mm_compare.proofs.only_in.list_only_in.Goals as goal

pub loop-k-preserved : goal.loop-k-preserved
loop-k-preserved g c =
    let wanted = is_only_in (side_of c.args.database.now) (option_copied c.args.only)
    (side_of c.args.other.now) in
    elim c.if-is_only_in.branch [
      | then-is_only_in+in_ok-push w ↦ record {
        k_le_length = omega arith;
        are_known = c.is_only_in.ensures.are_known;
        listed_are =
            filter_range_passes wanted c.loop-k.k c.loop-k.listed.items _
            c.loop-k.invariant.listed_are
            (sym c.is_only_in.ensures.is_only_in ∙ w.if-is_only_in.true)
            (rw w.listed-is w.in_ok-push.ensures.items);
      }
      | else-is_only_in w ↦ record {
        k_le_length = omega arith;
        are_known = c.is_only_in.ensures.are_known;
        listed_are =
            rw w.listed-is
            (filter_range_skips wanted c.loop-k.k c.loop-k.listed.items
            c.loop-k.invariant.listed_are
            (sym c.is_only_in.ensures.is_only_in ∙ w.if-is_only_in.false));
      }
    ]
