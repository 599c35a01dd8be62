use Rattle.mm_spec.proofs.WordsLaw.{words_of_are_words, words_are_words_of}
use Rattle.mm_laws.proofs.words.words_are_the_longest_runs.Goals as goal

pub returns : goal.returns
returns c = record { are_words = words_of_are_words; no_other_list = words_are_words_of }
