-- All bodies are empty, so the answer of each clause is a lemma. Existence goes from `verdict`
-- (`JudgedLaw.antt`: a derivation, a step fault or an end fault exists) to `is_valid_or_faulty`
-- (`TheoremLaw.antt`), `is_sound_or_faulty` (`SomeFaultLaw.antt`) and `output_exists_for_text`
-- (`SomeOutputLaw.antt`). Uniqueness goes from `stopped_no_forest` (`StackRunLaw.antt`) to
-- `excludes` (`ExcludedLaw.antt`), `no_both_faults`, `proof_fault_is_unique` and
-- `output_is_unique_for_text` (`OneOutputLaw.antt`). Letters have `spelled_items_are_unique`
-- (`SpellingLaw.antt`). `variables_are_typed_where_read` and
-- `variables_are_mandatory_where_read` (`TypedLaw.antt`) are about frames. `valid_iff_proved`
-- (`MeaningLaw.antt`) combines the laws on well formed proofs and on what steps are. What is said
-- of each place of what was read (`WhereRead`) is proved of the statements as they count, with open
-- theorems as axioms and without: by `frames_are_complete` (`ReadLaw.antt`), by `labels_differ`
-- (`SpelledStepsLaw.antt`), or by what `OpenedLaw` of `mm_spec` says of each selection.
-- `long_texts_are_refused` (`LongTextLaw.antt`) gives the one output of a text above the limit.
-- `lines_tell_assertions` (`ToldLaw.antt`) splits equal lines at the same places.
-- `ExamplesLaw.antt`, `VectorsLaw.antt`, `OutputsLaw.antt` and `LinesExamplesLaw.antt` work out
-- small texts. Of `mm_spec` it cites `words_are_words_of`, `longest_is_what_is_read`,
-- `reads_complete`, `mandatory_is_typed` and `counted_complete`.
pub mod ReaderLaw
pub mod ReadLaw
pub mod ExamplesLaw
pub mod VectorsLaw
pub mod OutputsLaw
pub mod LinesExamplesLaw
pub mod ToldLaw
pub mod SpelledLinesLaw
pub mod GrammarLaw
pub mod StackRunLaw
pub mod ExcludedLaw
pub mod JudgedLaw
pub mod OneOutputLaw
pub mod LongTextLaw
pub mod TheoremLaw
pub mod TypedLaw
pub mod SomeReadingLaw
pub mod SomeFaultLaw
pub mod SomeOutputLaw
pub mod WavesLaw
pub mod SpellingLaw
pub mod SpelledStepsLaw
pub mod UniqueStepsLaw
pub mod WellSpelledLaw
pub mod MeaningLaw
pub mod NumeralsLaw
pub mod CitationLaw
pub mod ComparisonLaw
