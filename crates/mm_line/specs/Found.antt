-- What is known of the entries that clap found: their texts passed the tests of the command.
use Rattle.std.specs.Prelude.{◌≡◌, ◌≢◌, true, List, [], Some, codes, pos}
use Rattle.clap.specs.Lexer.{without_minus}
use Rattle.clap.specs.Matches.{first_value, found_of, one_text}
use Rattle.clap.specs.Values.{IsSignedIn}
use Rattle.clap.specs.Walk.{Text, rows_of}
use Rattle.clap.specs.Simple.{App, matches_of}
use Rattle.clap.specs.Faults.{fault_of}
use Rattle.clap.specs.declared.parser.matches.ArgMatches.{ArgMatches}
use Rattle.clap.specs.declared.error.kind.ErrorKind.{ErrorKind}
use Rattle.clap.specs.declared.error.kind.ErrorKind.TheVariants.{OutOfMemory}
use Rattle.mm_spec.specs.declared.Form.{Form}
use Rattle.mm_line.specs.declared.command_line.LineRefused.{LineRefused}
use Rattle.mm_line.specs.declared.command_line.LineRefused.TheVariants.{Help, Bad, Memory}
use Rattle.mm_line.specs.Lines.{IsCommand, IsHelpOrVersion, form_word, has_known_names}

-- the entry is read as a number from 1 to 64
abbrev pub HasNumber : ArgMatches → Text → Type 0
HasNumber m id =
    (t : Text) × (one_text (found_of m) id ≡ Some (without_minus t)) × IsSignedIn (pos 1) (pos 64) t

-- the entry of `--form` is one of its words
abbrev pub HasForm : ArgMatches → Type 0
HasForm m = (form : Form) × (first_value (found_of m) (codes "form") ≡ Some (form_word form))

-- the entry of `--report` has names of sections alone
abbrev pub HasSections : ArgMatches → Type 0
HasSections m =
    (t : Text) × (first_value (found_of m) (codes "report") ≡ Some t) × (has_known_names t ≡ true)

-- the command finds no fault in the words, and these are its matches
pub record Finds (words : List Text) (m : ArgMatches) : Type 0 where
  pub app : App
  pub command : IsCommand words app
  pub no_fault : fault_of app words ≡ []
  pub rows : rows_of (found_of m) ≡ matches_of app words
  pub workers : HasNumber m (codes "workers")
  pub pieces : HasNumber m (codes "pieces")
  pub sections : HasSections m
  pub form : HasForm m

-- the refusal that an error of this kind leads to
abbrev pub IsRefusalForKind : ErrorKind → LineRefused → Type 0
IsRefusalForKind kind (Help text) = IsHelpOrVersion kind
IsRefusalForKind kind (Bad text) = (¬ IsHelpOrVersion kind) × (kind ≢ OutOfMemory)
IsRefusalForKind kind Memory = kind ≡ OutOfMemory
