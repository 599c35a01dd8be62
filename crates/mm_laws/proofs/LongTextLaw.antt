-- A text above the limit is refused at its first byte, whatever its bytes are.
use Rattle.std.proofs.lemmas.Grind.{common_steps}
use Rattle.std.proofs.Common.{◌≡◌, ℕ, ◌<◌, Bool, inl, inr, List, [], map, length, take, Option}
use Rattle.std.proofs.Common.{Some, codes, refl, sym, ◌∙◌, subst, arith, length-take-le, take_all}
use Rattle.std.proofs.lemmas.Bool.{cases_lt}
use Rattle.std.specs.Fmt.{digits}
use Rattle.mm_spec.specs.Text.{token}
use Rattle.mm_spec.specs.declared.Word.{Word}
use Rattle.mm_spec.specs.declared.Fault.{Fault}
use Rattle.mm_spec.specs.declared.Code.TheVariants.{TextTooLong}
use Rattle.mm_spec.specs.Limits.{text_limit}
use Rattle.mm_spec.specs.Readings.{bytes_of}
use Rattle.mm_spec.specs.Opened.{open_as_axioms}
use Rattle.mm_spec.specs.Report.{line, refusal}
use Rattle.mm_spec.specs.Request.{Request}
use Rattle.mm_spec.specs.Lexed.{LexedText, lexed_of}
use Rattle.mm_spec.specs.Output.{IsRead, AllAreValid, FirstFault, IsOutput}
use Rattle.mm_laws.specs.Laws.LongTexts.{LongTextsAreRefused, FrontsDecide}
use Rattle.mm_spec.proofs.LexedLaw.{tokens_of_long, lexical_fault_long}
use Rattle.mm_spec.proofs.LongestLaw.{read_statements_are_longest}
use Rattle.mm_spec.proofs.StopsLaw.{text_fault_is}
use Rattle.mm_laws.proofs.OneOutputLaw.{output_is_unique_for_text}

abbrev too_long : Fault
too_long = record { at = 0; code = TextTooLong }

abbrev lexed_as : List ℕ → List Word → Option Fault → LexedText
lexed_as text ws f =
    record { tokens = map (λ w. token w.start (bytes_of text w)) ws; fault = f }

-- a text without tokens, whose fault is its length
abbrev unread : LexedText
unread = record { tokens = []; fault = Some too_long }

long_text_is_unread : (text : List ℕ) → text_limit < length text → lexed_of text ≡ unread
long_text_is_unread text is_long = grind (arith, common_steps, tokens_of_long, lexical_fault_long)

nothing_is_read : (len : ℕ) → IsRead len unread [] (Some too_long)
nothing_is_read len =
    record {
      statements = [];
      are_statements = read_statements_are_longest [];
      rest = [];
      splits = refl;
      lawful = λ k k_lt_0. absurd (omega arith);
      stops = text_fault_is len unread too_long refl;
    }

no_statement_is_invalid : (with_open : Bool) → AllAreValid (open_as_axioms with_open [])
no_statement_is_invalid with_open = grind (arith, common_steps)

first_fault_is_too_long : (len : ℕ) (with_open : Bool) → FirstFault len unread with_open too_long
first_fault_is_too_long len with_open = (
  [],
  Some too_long,
  nothing_is_read len,
  inr (no_statement_is_invalid with_open, refl),
)

long_text_is_refused : (text : List ℕ) (request : Request) → text_limit < length text
    → IsOutput text request (refusal text too_long)
long_text_is_refused text request is_long =
    inl (
      too_long,
      subst (λ x. FirstFault (length text) x request.with_open too_long) (sym (long_text_is_unread
          text is_long)) (first_fault_is_too_long (length text) request.with_open),
      refl,
    )

refusal_is : (text : List ℕ) → refusal text too_long ≡ line (codes "refused 1:1 E00")
unfolding digits
refusal_is text = refl

pub long_texts_are_refused : LongTextsAreRefused
long_texts_are_refused text request bytes is_long = (
  λ is_output.
      output_is_unique_for_text text request bytes (refusal text too_long) is_output
      (long_text_is_refused text request is_long)
      ∙ refusal_is text,
  λ bytes_are. subst (IsOutput text request) (refusal_is text
      ∙ sym bytes_are) (long_text_is_refused text request is_long),
)

pub front_decides_output : FrontsDecide
front_decides_output text request bytes n limit_lt_n = elim (cases_lt n (length text)) [
  | inl n_lt_length ↦
      let front_length_is = length-take-le n text (omega arith) in
      let front_is_refused = long_texts_are_refused (take n text) request bytes
      (omega (arith, front_length_is)) in
      let text_is_refused = long_texts_are_refused text request bytes (omega arith) in (
        λ is_output. text_is_refused.1 (front_is_refused.0 is_output),
        λ is_output. front_is_refused.1 (text_is_refused.0 is_output),
      )
  | inr length_le_n ↦
      let front_is_text = take_all n text length_le_n in (
        subst (λ t. IsOutput t request bytes) front_is_text,
        subst (λ t. IsOutput t request bytes) (sym front_is_text),
      )
]
