-- A text is too long, or its words are read.
use Rattle.std.proofs.Common.{rules, arith, ◌≡◌, ℕ, ◌<◌, ◌≤◌, List, [], length, Some, None, refl}
use Rattle.std.proofs.Common.{lt-ltb, le-ltb}
use Rattle.mm_spec.specs.Words.{words_of}
use Rattle.mm_spec.specs.Readings.{Reading, reading}
use Rattle.mm_spec.specs.Lexed.{tokens_of, lexical_fault, fault_in}
use Rattle.mm_spec.specs.declared.Code.TheVariants.{TextTooLong}
use Rattle.mm_spec.specs.Limits.{text_limit}

pub tokens_of_long : (text : List ℕ) → text_limit < length text → tokens_of text ≡ []
unfolding tokens_of
tokens_of_long text text_is_too_long = rw (lt-ltb text_limit (length text) text_is_too_long) refl

pub lexical_fault_long : (text : List ℕ) → text_limit < length text
    → lexical_fault text ≡ Some (record { at = 0; code = TextTooLong })
unfolding lexical_fault
lexical_fault_long text text_is_too_long = search (rules, arith, lt-ltb)

pub tokens_of_read : (text : List ℕ) (r : Reading) → length text ≤ text_limit
    → reading text None (words_of text) ≡ r → tokens_of text ≡ r.tokens
unfolding tokens_of
tokens_of_read text r text_fits_limit reading_is = search (rules, arith, le-ltb)

pub lexical_fault_read : (text : List ℕ) (r : Reading) → length text ≤ text_limit
    → reading text None (words_of text) ≡ r → lexical_fault text ≡ fault_in r.fault r.open_comment
unfolding lexical_fault
lexical_fault_read text r text_fits_limit reading_is = search (rules, arith, le-ltb)
