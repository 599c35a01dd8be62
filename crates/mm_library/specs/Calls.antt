-- What a call of the library requests by its arguments, and how it ends (this project's own).
use Rattle.std.specs.Prelude.{◌≡◌, ◌≢◌, ℕ, Bool, ◌==◌, ◌||◌, ◌/◌, ◌%◌, nat_le, if◌then◌else◌, List}
use Rattle.std.specs.Prelude.{◌≤◌, ◌<◌, ◌⊎◌, drop, length, take, Option, None, Some, ⊤}
use Rattle.std.specs.Prelude.{MatchResult, Result, false}
use Rattle.std.specs.Str.{IsUtf8}
use Rattle.mm_spec.specs.Text.{Bytes}
use Rattle.mm_spec.specs.Request.{Request}
use Rattle.mm_spec.specs.Statement.{Statement}
use Rattle.mm_spec.specs.Lexed.{lexed_of}
use Rattle.mm_spec.specs.Output.{IsOutput, FirstFault, HasNoFault}
use Rattle.mm_spec.specs.Comparison.{IsComparison}
use Rattle.mm_spec.specs.Ends.{reading_limit}
use Rattle.mm_spec.specs.declared.Sections.{Sections}
use Rattle.mm_spec.specs.declared.Form.{Form}
use Rattle.mm_spec.specs.declared.Form.TheVariants.{One, Two}
use Rattle.mm_spec.specs.declared.Fault.{Fault}
use Rattle.mm_library.specs.Fronts.{IsAtFront}
use Rattle.mm_library.specs.declared.status.Status.{Status}
use Rattle.mm_library.specs.declared.status.Status.TheVariants.{Accepted, Refused, TypecodeNotUtf8}
use Rattle.mm_library.specs.declared.status.Status.TheVariants.{OutTooShort, RoomTooSmall}
use Rattle.mm_library.specs.declared.status.Status.TheVariants.{NoSuchRequest}

abbrev pub status_number : Status → ℕ
status_number Accepted = 0
status_number Refused = 1
status_number TypecodeNotUtf8 = 2
status_number OutTooShort = 3
status_number RoomTooSmall = 4
status_number NoSuchRequest = 5

-- the arguments of a call that say what is requested
pub record Call : Type 0 where
  -- the typecode, if there is one
  pub only : Option Bytes
  -- the sections as bits
  pub sections : ℕ
  -- the number of the form
  pub form : ℕ
  pub essential : Bool
  pub with_open : Bool

abbrev pub call_of : Bool → Bytes → ℕ → ℕ → Bool → Bool → Call
call_of has_only only sections form essential with_open =
    record {
      only = if has_only then Some only else None;
      sections = sections;
      form = form;
      essential = essential;
      with_open = with_open;
    }

-- the sections that a number has as bits: 1 the matrix, 2 the counts, 4 the usage, 8 the citations,
-- 16 the statements, 32 the proofs
abbrev pub sections_with_bits : ℕ → Option Sections
sections_with_bits n =
    if n == 0 || nat_le 64 n then None
    else Some (record {
      matrix = n % 2 == 1;
      counts = n / 2 % 2 == 1;
      usage = n / 4 % 2 == 1;
      citations = n / 8 % 2 == 1;
      statements = n / 16 % 2 == 1;
      proofs = n / 32 % 2 == 1;
    })

-- the form with a number
abbrev pub form_of : ℕ → Option Form
form_of n = if n == 1 then Some One else (if n == 2 then Some Two else None)

-- the typecode is a text, if there is one
abbrev pub IsText : Option Bytes → Type 0
IsText None = ⊤
IsText (Some bytes) = IsUtf8 bytes

-- the call asks for this request
pub record Asks (call : Call) (request : Request) : Type 0 where
  pub sections_are : sections_with_bits call.sections ≡ Some request.sections
  pub form_is : form_of call.form ≡ Some request.form
  pub only_is : request.only ≡ call.only
  pub is_text : IsText call.only
  pub essential_is : request.essential ≡ call.essential
  pub with_open_is : request.with_open ≡ call.with_open

-- the call asks for none, and the status says why
abbrev pub Refuses : Status → Call → Type 0
Refuses NoSuchRequest call = (sections_with_bits call.sections ≡ None) ⊎ (form_of call.form ≡ None)
Refuses TypecodeNotUtf8 call =
    (sections_with_bits call.sections ≢ None) × (form_of call.form ≢ None) × ¬ IsText call.only
Refuses _ call = ⊥

-- the request that a call asks for, or the status that says why it asks for none
abbrev pub IsAnswer : Call → Result Request Status → Type 0
IsAnswer call answer = MatchResult answer (Asks call) (λ status. Refuses status call)

-- what a call is about: a text, whose report is asked for, or two, OLD and NEW, which are compared
pub data Asked : Type 0 where
  report_of : List ℕ → Asked
  comparison_of : (old new : List ℕ) → Asked

-- the part of a text that is read
abbrev pub part_of : List ℕ → List ℕ
part_of text = take reading_limit text

-- the bytes are what is to be written
abbrev pub IsOutputOf : Asked → Request → List ℕ → Type 0
IsOutputOf (report_of text) request bytes = IsOutput text request bytes
IsOutputOf (comparison_of old new) request bytes = IsComparison old new request bytes

-- the text has no fault
abbrev pub IsSoundText : List ℕ → Bool → Type 0
IsSoundText text with_open =
    (db : List Statement) × HasNoFault (length text) (lexed_of text) with_open db

-- the text has a fault
abbrev pub IsFaultyText : List ℕ → Bool → Type 0
IsFaultyText text with_open =
    (f : Fault) × FirstFault (length text) (lexed_of text) with_open f

-- the verdict: no text has a fault, or the first one that has a fault is refused
abbrev pub HasVerdict : Status → Asked → Bool → Type 0
HasVerdict Accepted (report_of text) with_open = IsSoundText text with_open
HasVerdict Accepted (comparison_of old new) with_open =
    IsSoundText old with_open × IsSoundText new with_open
HasVerdict Refused (report_of text) with_open = IsFaultyText text with_open
HasVerdict Refused (comparison_of old new) with_open =
    IsFaultyText old with_open ⊎ (IsSoundText old with_open × IsFaultyText new with_open)
HasVerdict _ asked with_open = ⊥

-- what is to be written for a request, of this length, stands at the front of `out`, and behind it
-- `out` is as it was before
pub record HasOutput (asked : Asked) (request : Request) (len : ℕ) (before out : List ℕ) : Type 0
  where
    pub output : List ℕ
    pub is_output : IsOutputOf asked request output
    pub length_is : len ≡ length output
    pub is_at_front : IsAtFront output out
    pub rest_stays : drop len out ≡ drop len before

-- how it ends to write the output to `out`, which held other bytes before
abbrev pub WritingEnds : Status → Request → (asked : Asked) (len : ℕ) (before out : List ℕ)
    → Type 0
WritingEnds TypecodeNotUtf8 request asked len before out = ⊥
WritingEnds NoSuchRequest request asked len before out = ⊥
WritingEnds RoomTooSmall request asked len before out = len ≡ 0
WritingEnds OutTooShort request asked len before out =
    HasOutput asked request len before out × (length out < len)
WritingEnds verdict request asked len before out =
    HasVerdict verdict asked request.with_open × HasOutput asked request len before out
    × (len ≤ length out)

-- how a call ends that writes the output for its request to `out`, which held other bytes before
abbrev pub CallEnds : Status → Call → (asked : Asked) (len : ℕ) (before out : List ℕ) → Type 0
CallEnds TypecodeNotUtf8 call asked len before out =
    Refuses TypecodeNotUtf8 call × (len ≡ 0) × (out ≡ before)
CallEnds NoSuchRequest call asked len before out =
    Refuses NoSuchRequest call × (len ≡ 0) × (out ≡ before)
CallEnds status call asked len before out =
    (request : Request) × Asks call request × WritingEnds status request asked len before out
