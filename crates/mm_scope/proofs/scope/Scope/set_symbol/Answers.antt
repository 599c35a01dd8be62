use Rattle.std.proofs.Common.{arith, refl, ◌<◌, ◌≤◌, length}
use Rattle.mm_spec.specs.Frame.{index_of}
use Rattle.mm_database.specs.Names.{find}
use Rattle.mm_scope.specs.Scopes.{names_in, symbol_in}
use Rattle.mm_scope.proofs.NumberingLaw.{known_after_change, known_with_new, number_is_behind}
use Rattle.mm_scope.proofs.NumberingLaw.{number_is_index}
use Rattle.mm_scope.proofs.scope.Scope.set_symbol.Goals as goal

pub returns-then-number-len-clause-are_known : goal.returns-then-number-len-clause-are_known
returns-then-number-len-clause-are_known g c =
    let s = c.args.self.now in
    let count = c.requires.are_known.count in
    let is_within : c.args.number < length s.known.items = omega arith in
    let is_index =
    number_is_index c.args.word.now (names_in s) c.args.number c.requires.is_number
    (omega (arith, is_within, count)) in
    rw c.in_ok-set_symbol.ensures.name_is_added
    (known_after_change (names_in s) (symbol_in s) s.known.items c.requires.are_known
    c.args.word.now c.args.symbol (find c.set_symbol.new.self.symbols)
    c.in_ok-set_symbol.ensures.symbol_is_set c.args.number is_index is_within)

pub returns-in_ok-push-clause-are_known : goal.returns-in_ok-push-clause-are_known
returns-in_ok-push-clause-are_known g c =
    let s = c.args.self.now in
    let count = c.requires.are_known.count in
    let is_behind : length s.known.items ≤ c.args.number = omega arith in
    let is_new =
    number_is_behind c.args.word.now (names_in s) c.args.number c.requires.is_number
    (omega (arith, is_behind, count)) in
    rw (c.in_ok-set_symbol.ensures.name_is_added, c.in_ok-push.ensures.items)
    (known_with_new (names_in s) (symbol_in s) s.known.items c.requires.are_known
    c.args.word.now c.args.symbol (find c.set_symbol.new.self.symbols)
    c.in_ok-set_symbol.ensures.symbol_is_set (index_of c.args.word.now (names_in s)) refl
    (omega (arith, is_new, count)))
