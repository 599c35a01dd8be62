-- Each stretch of a text has a summary (`IsSummary`), and adjacent stretches join; so cuts change
-- nothing. `BlockLaw.antt` goes from bits to words: by `found_bytes_are_word` and
-- `words_begin_with_found`, `next_word` takes the first of the remaining words; by
-- `skipped_words_are_plain`, `skip_plain` leaves out plain ones alone. The loops of `lex_between`
-- and `read_rest` keep that all words give what the readings and the remaining words give
-- (`next_word_is_read`, `plain_words_are_skipped`, `append_reading_is_complete` of
-- `PiecesLaw.antt`). What a scanner says up to the next bit of a mask is in `ScannerLaw.antt`.
-- `join` has `readings_of_three_lists` and `piece_of_two_broken`, from
-- `broken_join` and `words_of_joined` (`StretchesLaw.antt`). `read_text` keeps `IsJoinedSoFar` by
-- `next_batch_is_joined` (`CutsLaw.antt`). For `lex`, `reading_of_whole_text` shows that the
-- summary of the whole text is its reading.
pub mod RolesLaw
pub mod StretchesLaw
pub mod PiecesLaw
pub mod CutsLaw
pub mod CutLaw
pub mod MaskLaw
pub mod BlockLaw
pub mod ScannerLaw
