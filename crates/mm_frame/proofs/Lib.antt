-- Lists are identified by their members: an ascending list with the right members is the right list
-- (`filter_is` of `mm_spec`, `sorted_with_same_members_equal` in `PairsLaw.antt`).
-- `candidate_at_latest` and `walked_is_active` (`LatestLaw.antt`) find the active `$e`,
-- `found_are_mandatory_variables` the variables, and `hypotheses_are_mandatory`
-- (`HypothesesLaw.antt`) the hypotheses. `has_symbol_with_disjoint` and `pairs_with_symbol`
-- (`ChainsLaw.antt`) give the wide `$d` by variables. `pairs_with_statement`
-- (`LowerListsLaw.antt`) gives the lists of the narrow ones, from which `row_with_pair` and
-- `row_without_pair` (`DisjointRowsLaw.antt`) make the rows, and `rows_of_all` says that they are
-- those of all symbols. With `have_blocks` of `mm_database` they give `IsDisjointIndex`.
-- `pairs_are_mandatory_pairs` (`MandatoryPairsLaw.antt`) gives the pairs. `wide_are_listed` and
-- `rows_are_listed` (`SymbolFactsLaw.antt`) say that only variables that may be in an active `$d`
-- need be looked up.
-- `same_frame` (`NeighboursLaw.antt`) says when an assertion has the frame of the one before it,
-- and `same_scope_of_latest` when the same `$d`, `$e` and `$f` are active at both.
-- (`SkipsLaw.antt`: the loops of `skips_of`; `LoopsLaw.antt`: one more element in the loops that
-- collect.) The loop of `frames_between` adds to the frames by `frames_with_statement`
-- (`FramesLaw.antt`). `next_is_joined` and `all_are_joined` (`StretchesLaw.antt`) put the frames of
-- stretches together. So `frame_tables_of` has `AreFrameTables`.
pub mod MandatoryPairsLaw
pub mod FloatLaw
pub mod FramesLaw
pub mod LatestLaw
pub mod LoopsLaw
pub mod StampsLaw
pub mod NestedLaw
pub mod PairsLaw
pub mod SkipsLaw
pub mod HypothesesLaw
pub mod ChainsLaw
pub mod DisjointRowsLaw
pub mod LowerListsLaw
pub mod NeighboursLaw
pub mod StretchesLaw
pub mod SymbolFactsLaw
