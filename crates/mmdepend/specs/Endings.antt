-- How the program ends: what the words request, what is read and written, the message and the
-- status.
use Rattle.std.specs.Prelude.{◌≡◌, ◌++◌, ℕ, List, [], ◌∷◌, take, codes, Option, Some, None}
use Rattle.std.specs.Prelude.{IsSome, bytes_eq, if◌then◌else◌, ◌⊎◌, true, false}
use Rattle.std.specs.Option.{option_map}
use Rattle.std.specs.String.{string_bytes}
use Rattle.std.specs.Io.KnownBytes.{Appends, Keeps}
use Rattle.clap.specs.Walk.{Text}
use Rattle.mm_plan.specs.Plans.{request_of}
use Rattle.mm_spec.specs.Ends.{Ends}
use Rattle.mm_spec.specs.declared.RunEnd.{RunEnd}
use Rattle.mm_spec.specs.declared.RunEnd.TheVariants.{Accepted, Refused, ReadFailed, WriteFailed}
use Rattle.mm_spec.specs.declared.RunEnd.TheVariants.{NoMemory as RunNoMemory}
use Rattle.mm_spec.specs.declared.ComparisonEnd.{ComparisonEnd}
use Rattle.mm_spec.specs.declared.ComparisonEnd.TheVariants as comparison
use Rattle.mm_against.specs.Answered.{EndsAnswer}
use Rattle.mm_line.specs.Lines.{IsLineRefusal, AreReadAs}
use Rattle.mm_line.specs.declared.command_line.Line.{Line}
use Rattle.mm_line.specs.declared.command_line.LineRefused.TheVariants.{Help, Bad}
use Rattle.mmdepend.specs.declared.ending.Ending.{Ending}
use Rattle.mmdepend.specs.declared.ending.Ending.TheVariants.{Ran, Compared, Helped, HelpFailed}
use Rattle.mmdepend.specs.declared.ending.Ending.TheVariants.{Misread, BothInputs, NothingCompared}
use Rattle.mmdepend.specs.declared.ending.Ending.TheVariants.{NotOpened, NoMemory}

-- a prefix of the text was written, or the whole text
abbrev pub IsPrefixWritten : (bytes_before bytes_after : Option (List ℕ)) → List ℕ → Type 0
IsPrefixWritten bytes_before bytes_after text =
    (k : ℕ) × Appends bytes_before bytes_after (take k text)

-- the file that is opened: `None` if no file is named, or if it is `-`
abbrev pub opened_name : Option (List ℕ) → Option (List ℕ)
opened_name None = None
opened_name (Some name) = if bytes_eq name (codes "-") then None else Some name

-- the file that a line names for opening
abbrev pub opened_file_of : Line → Option (List ℕ)
opened_file_of line = opened_name (option_map string_bytes line.file)

-- what the file is compared with, if it is: `None`, the standard input
abbrev pub opened_old_of : Line → Option (List ℕ)
opened_old_of line = opened_name (option_map string_bytes line.against)

-- `remaining` is what is still to be read of an opened file.
module _ {File : Type 0} (remaining : File → Option (List ℕ)) where
  -- A run reads standard input if no file is opened. If a file is opened, it reads that, and
  -- standard input stays as it was.
  abbrev pub Runs : {X : Type 0} → Option X → RunEnd → Line
      → (input_before input_after output_before output_after : Option (List ℕ)) → Type 0
  Runs None end line input_before input_after output_before output_after =
      Ends end (request_of line.plan) input_before input_after output_before output_after
  Runs (Some name) end line input_before input_after output_before output_after =
      Keeps input_before input_after
      × ((opened_file read_file : File)
      × Ends end (request_of line.plan) (remaining opened_file)
      (remaining read_file) output_before output_after)

  -- A comparison reads OLD and NEW each from a file that is opened, or at most one of them from
  -- standard input, which stays as it was if both are files.
  abbrev pub Compares : {X Y : Type 0} → (old : Option X) → (new : Option Y) → ComparisonEnd → Line
      → (input_before input_after output_before output_after : Option (List ℕ)) → Type 0
  Compares None None end line input_before input_after output_before output_after = ⊥
  Compares None (Some new) end line input_before input_after output_before output_after =
      (opened_new read_new : File)
      × EndsAnswer line.plan.and_report end (request_of line.plan) input_before input_after (remaining opened_new)
      (remaining read_new) output_before output_after
  Compares (Some old) None end line input_before input_after output_before output_after =
      (opened_old read_old : File)
      × EndsAnswer line.plan.and_report end (request_of line.plan) (remaining opened_old) (remaining read_old)
      input_before input_after output_before output_after
  Compares (Some old) (Some new) end line input_before input_after output_before output_after =
      Keeps input_before input_after
      × ((opened_old read_old opened_new read_new : File)
      × EndsAnswer line.plan.and_report end (request_of line.plan) (remaining opened_old) (remaining read_old)
      (remaining opened_new) (remaining read_new) output_before output_after)

  -- a file is named for opening
  abbrev pub NamesFile : Line → Type 0
  NamesFile line = IsSome (opened_file_of line) ⊎ IsSome (opened_old_of line)

  -- what the words say, according to the ending, and what is read from standard input and written
  -- to the output
  abbrev pub IsEndingOf : List Text → Ending
      → (input_before input_after output_before output_after : Option (List ℕ)) → Type 0
  IsEndingOf words (Ran end) input_before input_after output_before output_after =
      (line : Line) × AreReadAs words line × (line.against ≡ None)
      × (line.plan.and_report ≡ false)
      × Runs (opened_file_of line) end line input_before input_after output_before output_after
  IsEndingOf words (Compared end) input_before input_after output_before output_after =
      (line : Line) × AreReadAs words line × IsSome line.against
      × Compares (opened_old_of line) (opened_file_of line) end line input_before input_after
      output_before output_after
  IsEndingOf words BothInputs input_before input_after output_before output_after =
      (line : Line) × AreReadAs words line × IsSome line.against
      × (opened_old_of line ≡ None) × (opened_file_of line ≡ None)
      × Keeps input_before input_after × Keeps output_before output_after
  IsEndingOf words NothingCompared input_before input_after output_before output_after =
      (line : Line) × AreReadAs words line × (line.against ≡ None)
      × (line.plan.and_report ≡ true)
      × Keeps input_before input_after × Keeps output_before output_after
  IsEndingOf words NotOpened input_before input_after output_before output_after =
      (line : Line) × AreReadAs words line × NamesFile line × Keeps input_before input_after
      × Keeps output_before output_after
  IsEndingOf words (Helped text) input_before input_after output_before output_after =
      IsLineRefusal words (Help text) × Keeps input_before input_after
      × Appends output_before output_after (string_bytes text)
  IsEndingOf words (HelpFailed text) input_before input_after output_before output_after =
      IsLineRefusal words (Help text) × Keeps input_before input_after
      × IsPrefixWritten output_before output_after (string_bytes text)
  IsEndingOf words (Misread text) input_before input_after output_before output_after =
      IsLineRefusal words (Bad text) × Keeps input_before input_after
      × Keeps output_before output_after
  IsEndingOf words NoMemory input_before input_after output_before output_after =
      Keeps input_before input_after × Keeps output_before output_after

-- the program's status after a run that ended so
abbrev pub run_status_of : RunEnd → ℕ
run_status_of Accepted = 0
run_status_of (Refused f) = 1
run_status_of ReadFailed = 3
run_status_of WriteFailed = 3
run_status_of RunNoMemory = 4

-- the program's status after a comparison that ended so
abbrev pub comparison_status_of : ComparisonEnd → ℕ
comparison_status_of comparison.Compared = 0
comparison_status_of (comparison.OldRefused f) = 1
comparison_status_of (comparison.NewRefused f) = 1
comparison_status_of comparison.ReadFailed = 3
comparison_status_of comparison.WriteFailed = 3
comparison_status_of comparison.NoMemory = 4

-- the program's status
abbrev pub status_of : Ending → ℕ
status_of (Ran end) = run_status_of end
status_of (Compared end) = comparison_status_of end
status_of (Helped text) = 0
status_of (HelpFailed text) = 3
status_of (Misread text) = 2
status_of BothInputs = 2
status_of NothingCompared = 2
status_of NotOpened = 3
status_of NoMemory = 4

-- a message of the program, whose line ends with a line feed (10)
abbrev pub message : List ℕ → List ℕ
message text = codes "mmdepend: " ++ text ++ 10 ∷ []

-- the message after a run that ended so
abbrev pub run_message_of : RunEnd → List ℕ
run_message_of Accepted = []
run_message_of (Refused f) = []
run_message_of ReadFailed = message (codes "reading failed")
run_message_of WriteFailed = message (codes "writing failed")
run_message_of RunNoMemory = message (codes "out of memory")

-- the message after a comparison that ended so
abbrev pub comparison_message_of : ComparisonEnd → List ℕ
comparison_message_of comparison.Compared = []
comparison_message_of (comparison.OldRefused f) = []
comparison_message_of (comparison.NewRefused f) = []
comparison_message_of comparison.ReadFailed = message (codes "reading failed")
comparison_message_of comparison.WriteFailed = message (codes "writing failed")
comparison_message_of comparison.NoMemory = message (codes "out of memory")

-- the message on standard error
abbrev pub message_of : Ending → List ℕ
message_of (Ran end) = run_message_of end
message_of (Compared end) = comparison_message_of end
message_of (Helped text) = []
message_of (HelpFailed text) = message (codes "writing failed")
message_of (Misread text) = string_bytes text
message_of BothInputs =
    message (codes "only one of two databases can be the standard input")
message_of NothingCompared = message (codes "--and-report needs --against")
message_of NotOpened = message (codes "cannot open the file")
message_of NoMemory = message (codes "out of memory")

-- How the program ended: the words, what was read and what was written to the output are those of
-- this ending; its message, or a prefix of it, was written to standard error; and the status is its
-- status.
module _ {File : Type 0} (remaining : File → Option (List ℕ)) where
  pub record Ended (words : List Text) (status : ℕ)
      (input_before input_after output_before output_after errors_before errors_after : Option
      (List ℕ)) : Type 0 where
    pub ending : Ending
    pub is_ending : IsEndingOf remaining words ending input_before input_after
        output_before output_after
    pub message_written : IsPrefixWritten errors_before errors_after (message_of ending)
    pub status_is : status ≡ status_of ending
