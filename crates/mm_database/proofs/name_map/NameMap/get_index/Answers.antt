use Rattle.std.proofs.Common.{◌≡◌, Some, IfSome, subst}
use Rattle.mm_database.specs.Names.{find}
use Rattle.mm_database.proofs.name_map.NameMap.get_index.Goals as goal

pub returns-clause-is_found : goal.returns-clause-is_found
returns-clause-is_found g c =
    subst (λ es. IfSome c.get_index.result (λ e. find es e.0.now.bytes.now ≡ Some e.1.now))
    c.self.view_is c.get_index.ensures.value
