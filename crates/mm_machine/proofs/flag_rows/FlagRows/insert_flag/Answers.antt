use Rattle.std.proofs.Common.{rules, arith, ◌∷◌, [], ℕ, List, length, drop, ap, sym, subst}
use Rattle.std.proofs.lemmas.List.{take_at}
use Rattle.mm_machine.specs.FlagRows.{RowsOfFlags, StayDisjointWith, flag_rows}
use Rattle.mm_machine.proofs.FlagRowsLaw.{set_stays_disjoint}
use Rattle.mm_machine.proofs.flag_rows.FlagRows.insert_flag.Goals as goal

pub returns-in-Some-clause-stay_disjoint : goal.returns-in-Some-clause-stay_disjoint
returns-in-Some-clause-stay_disjoint g c =
    let symbols = c.self.inside.symbols.items in
    let flags = c.self.inside.flags.items in
    let symbols_are = ap (λ (r : RowsOfFlags). r.symbols) c.self.view_is in
    let flags_after = c.set_flag.new.flags in
    subst (λ (fs : List ℕ). StayDisjointWith c.args._symbol (c.args.other ∷ []) c.args.self.now
    (flag_rows symbols fs))
    (sym (take_at flags_after (drop (length flags_after) flags) c.self.inside.flags.len
    (search (rules, arith))))
    (subst (λ (r : RowsOfFlags). StayDisjointWith c.args._symbol (c.args.other ∷ []) r
    (flag_rows symbols flags_after)) c.self.view_is
    (set_stays_disjoint symbols flags flags_after c.args._symbol c.args.other c.args.row
    c.in-Some.column (rw symbols_are c.requires.row_lt_length)
    (rw symbols_are c.in-Some.ensures.index_lt_length) c.in-Some.ensures.index_lt_row_length
    (rw symbols_are c.requires.is_row_of) (rw symbols_are c.in-Some.ensures.finds_symbol)
    (rw c.deref_mut.ensures.value at c.set_flag.ensures)))
