use Rattle.std.proofs.Common.{◌≡◌, sym, ap, None}
use Rattle.mm_spec.specs.Words.{words_of}
use Rattle.mm_spec.specs.Readings.{reading}
use Rattle.mm_spec.proofs.WordsLaw.{words_are_words_of}
use Rattle.mm_laws.proofs.GrammarLaw.{reading_IsReading}
use Rattle.mm_spec.proofs.LexedLaw.{tokens_of_long, lexical_fault_long, tokens_of_read}
use Rattle.mm_spec.proofs.LexedLaw.{lexical_fault_read}
use Rattle.mm_laws.proofs.words.tokens_are_those_of_the_grammar.Goals as goal

pub returns : goal.returns
returns c text = record {
  long_text_is_refused = λ is_long. (tokens_of_long text is_long, lexical_fault_long text is_long);
  short_text_is_read = λ is_short ws are_words.
      let readings_equal : reading text None (words_of text) ≡ reading text None ws =
      ap (reading text None) (sym (words_are_words_of text ws are_words)) in (
        reading text None ws,
        reading_IsReading text ws,
        tokens_of_read text (reading text None ws) is_short readings_equal,
        lexical_fault_read text (reading text None ws) is_short readings_equal,
      );
}
