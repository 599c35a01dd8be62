-- `Database` has an invariant, `IsDatabase`: each field is what the definitions say of the
-- statements. The calls go back from fields to statements: names by `index_of_distinct`
-- (`SymbolsLaw.antt`), and a word by its guess in a `NameMap`: a word with a free place, before
-- which no guess is right, is no name (`absent_at_free_place`, `GuessesLaw.antt`), and where no
-- place is free the map is asked; kinds by `test_by_kind`, theorems by
-- `theorems_by_kind` (`KindsLaw.antt`). Lists that are kept one after the other are the lists that
-- were joined (`joined_with_one_more`, `joined_lists_are_part`, `ListsLaw.antt` of `mm_lists`):
-- labels and proofs (`label_is_retained` and `proof_is_retained`, `RetainedWordsLaw.antt`), and the
-- labels of theorems (`spaced_slice`, `SpacedLaw.antt`). A frame is found by its index, which stays
-- its own as frames are added (`frame_at_index` and `frames_at_push_frame`,
-- `FrameIndicesLaw.antt`). A narrow `$d` of two variables is found in a row by `last_pair_answers`
-- (`RowSearchLaw.antt`): its last pair before a statement answers for all. `are_together` finds a
-- wide one by `none_before_x_end` and `none_before_y_end` (`DisjointIndexLaw.antt`), among pairs
-- that begin where `StartsLaw.antt` says, and `found_is_together` (`TogetherLaw.antt`) says what
-- both answer; `near_are_together` (`NearLaw.antt`) says it of a `$d` found shortly before a
-- statement. `labels_counted` and others (`OpenAsAxiomsLaw.antt`) transfer what is known of the
-- statements that were read to these as they count. `typecode_is_compared` (`TypecodeLaw.antt`)
-- says what `has_chosen_typecode` compares.
pub mod EndsLaw
pub mod SymbolsLaw
pub mod TypecodeLaw
pub mod NamesLaw
pub mod GuessesLaw
pub mod DisjointIndexLaw
pub mod StartsLaw
pub mod RowSearchLaw
pub mod TogetherLaw
pub mod FrameIndicesLaw
pub mod KindsLaw
pub mod SpacedLaw
pub mod RetainedWordsLaw
pub mod OpenAsAxiomsLaw
pub mod StatementCountLaw
pub mod DatabaseLaw
pub mod NearLaw
