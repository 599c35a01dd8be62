use Rattle.std.proofs.Common.{◌∙◌}
use Rattle.mm_compare.specs.Sides.{side_of}
use Rattle.mm_compare.proofs.FindLaw.{found_if_there}
use Rattle.mm_compare.proofs.only_in.is_there.Goals as goal

pub returns : goal.returns
returns g c = record {
  are_known = c.find_same.ensures.are_known;
  is_there = c.is_some.ensures
      ∙ found_if_there (side_of c.args.database.now) (side_of c.args.other.now) c.args.k
      c.find_same.result c.find_same.ensures.is_the_same c.find_same.ensures.is_below_length;
}
