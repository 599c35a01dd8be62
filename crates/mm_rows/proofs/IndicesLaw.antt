-- Where the statements of a list stand in it, one after the other.
use Rattle.std.proofs.Common.{◌≡◌, ℕ, ◌+◌, ◌<◌, List, length, get_or, slice_set, arith, rules}
use Rattle.std.proofs.lemmas.List.{get_or-set_same, get_or-set_other, get_or_default, get_or_past}
use Rattle.mm_cites.specs.Citing.{IsStatementList}
use Rattle.mm_rows.specs.Indices.{AreIndicesOfFirst}
use Rattle.mm_rows.specs.declared.indices.TheConstants.{NO_INDEX}
use Rattle.mm_rows.proofs.ChainLaw.{index_is_unique}

-- before any index was set, the first 0 statements have their indices
pub nothing_is_indexed : (list indices : List ℕ)
    → ((s : ℕ) → s < length indices → get_or indices s 0 ≡ NO_INDEX)
    → AreIndicesOfFirst list 0 indices
nothing_is_indexed list indices none_is_set = search (rules, arith, get_or_default, get_or_past)

-- after statement n of the list was set to n, the first n + 1 statements have their indices
pub next_is_indexed : (list indices : List ℕ) (n : ℕ) → IsStatementList list → n < length list
    → get_or list n 0 < length indices → AreIndicesOfFirst list n indices
    → AreIndicesOfFirst list (n + 1) (slice_set indices (get_or list n 0) n)
next_is_indexed list indices n is_statement_list n_lt_length statement_in_room indices_before =
    search (rules, arith, index_is_unique, slice_set, get_or-set_same, get_or-set_other)
