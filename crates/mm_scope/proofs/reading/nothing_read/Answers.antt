use Rattle.std.proofs.Common.{refl}
use Rattle.mm_lists.proofs.ListsLaw.{none_joined}
use Rattle.mm_scope.proofs.reading.nothing_read.Goals as goal

pub returns : goal.returns
returns g c = (
  search,
  refl,
  c.in_ok-scope.ensures.none_is_known,
  record {
    knows = c.in_ok-scope.ensures.is_scope_after_none;
    names_are = c.in_ok-scope.ensures.has_no_names;
    formulas = none_joined _ _ refl c.new-3.ensures.items;
  },
)
