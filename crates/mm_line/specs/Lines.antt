-- The command line: which words the command accepts, and what a line says. Both are as `clap`
-- states them: `matches_of` is what it finds in the words, and `fault_of` the kinds of error that
-- the words may have.
use Rattle.std.specs.Prelude.{◌≡◌, ◌==◌, ◌||◌, ℕ, Bool, true, false, ◌⊎◌, List, [], ◌∷◌, map}
use Rattle.std.specs.Prelude.{Option, Some, None, codes, flat_map, pos, ◌++◌, ⊤}
use Rattle.std.specs.List.{slice_split, list_all, filter}
use Rattle.std.specs.Option.{option_map}
use Rattle.std.specs.String.{string_bytes}
use Rattle.std.specs.Borrow.{Bor}
use Rattle.std.specs.Str.Parse.{digits_value, without_leading_plus}
use Rattle.clap.specs.Walk.{Row, Rule, Text, first_of, one_of}
use Rattle.clap.specs.Simple.{App, new_app, new_rule, with_rule, matches_of}
use Rattle.clap.specs.Takes.{takes}
use Rattle.clap.specs.Kinds.{IsAmong}
use Rattle.clap.specs.Faults.{fault_of}
use Rattle.clap.specs.declared.builder.action.ArgAction.TheVariants.{Set, SetTrue}
use Rattle.clap.specs.declared.builder.value_parser.ValueParser.TheVariants.{Signed, Names}
use Rattle.clap.specs.declared.error.kind.ErrorKind.{ErrorKind}
use Rattle.clap.specs.declared.error.kind.ErrorKind.TheVariants.{DisplayHelp, DisplayVersion}
use Rattle.mm_spec.specs.Text.{is_in}
use Rattle.mm_spec.specs.Request.{default_sections}
use Rattle.mm_spec.specs.declared.Sections.{Sections}
use Rattle.mm_spec.specs.declared.Form.{Form}
use Rattle.mm_spec.specs.declared.Form.TheVariants.{One, Two}
use Rattle.mm_plan.specs.Plans.{IsLawfulPlan, only_of}
use Rattle.mm_plan.specs.declared.Cutting.TheVariants.{Count}
use Rattle.mm_line.specs.declared.command_line.Line.{Line}
use Rattle.mm_line.specs.declared.command_line.LineRefused.{LineRefused}
use Rattle.mm_line.specs.declared.command_line.LineRefused.TheVariants.{Help, Bad, Memory}

-- the names that a text has, one after each comma (44)
abbrev pub names_in : Text → List Text
names_in text = slice_split (λ b. b == 44) text

-- the names that `--report` takes
abbrev pub section_names : List Text
section_names =
    codes "all" ∷ codes "matrix" ∷ codes "counts" ∷ codes "usage" ∷ codes "citations"
    ∷ codes "proofs" ∷ codes "statements" ∷ []

-- whether each name of a text is one of these
abbrev pub has_known_names : Text → Bool
has_known_names text = list_all (λ name. is_in name section_names) (names_in text)

-- the parts of a word between `=` (61) that have such names alone
abbrev pub known_parts : Text → List Text
known_parts word = filter has_known_names (slice_split (λ b. b == 61) word)

-- the texts that `--report` takes of these words: the names that it takes, and what of the words
-- has such names alone. So a list of names is taken wherever it stands, as the word after
-- `--report` or behind `--report=`
abbrev pub report_texts : List Text → List Text
report_texts words =
    section_names ++ flat_map known_parts words

-- The sections with these names. `all` stands for those that a report has by default: matrix,
-- counts and usage.
abbrev pub sections_named : List Text → Sections
sections_named names = let is_all = is_in (codes "all") names in
    record {
      matrix = is_all || is_in (codes "matrix") names;
      counts = is_all || is_in (codes "counts") names;
      usage = is_all || is_in (codes "usage") names;
      citations = is_in (codes "citations") names;
      proofs = is_in (codes "proofs") names;
      statements = is_in (codes "statements") names;
    }

-- the sections that the entry of `--report` names, or if there is none, those of a report by
-- default
abbrev pub sections_in : Option Text → Sections
sections_in None = default_sections
sections_in (Some text) = sections_named (names_in text)

-- the words of `--form`
abbrev pub form_word : Form → Text
form_word One = codes "1"
form_word Two = codes "2"

abbrev pub form_words : List Text
form_words = map form_word (One ∷ Two ∷ [])

-- an option with a whole number from 1 to 64, 4 by default
abbrev pub number_rule : Text → Rule
number_rule id = record (new_rule id) {
  long = Some id;
  action = Some Set;
  value_names = 1;
  defaults = codes "4" ∷ [];
  parser = Some (Signed (pos 1) (pos 64));
}

-- an option with one of the given words; the second argument is its default
abbrev pub word_rule : Text → Text → Bor (List (Bor Text)) → Rule
word_rule id default names = record (new_rule id) {
  long = Some id;
  action = Some Set;
  value_names = 1;
  defaults = default ∷ [];
  parser = Some (Names names);
}

-- the option `--report` with the texts that it takes, `all` by default
abbrev pub report_rule : Bor (List (Bor Text)) → Rule
report_rule texts = word_rule (codes "report") (codes "all") texts

-- the rule of `--report` for these words, wherever in memory its texts are
abbrev pub IsReportRule : List Text → Rule → Type 0
IsReportRule words rule =
    (texts : Bor (List (Bor Text))) × (map (λ t. t.now) texts.now ≡ report_texts words)
    × (rule ≡ report_rule texts)

-- an option with any text
abbrev pub text_rule : Text → Rule
text_rule id = record (new_rule id) { long = Some id; action = Some Set; value_names = 1 }

abbrev pub form_rule : Bor (List (Bor Text)) → Rule
form_rule names = word_rule (codes "form") (codes "1") names

-- the rule of `--form`, wherever in memory its words are
abbrev pub IsFormRule : Rule → Type 0
IsFormRule rule =
    (names : Bor (List (Bor Text))) × (map (λ n. n.now) names.now ≡ form_words)
    × (rule ≡ form_rule names)

abbrev pub file_rule : Rule
file_rule = record (new_rule (codes "FILE")) { action = Some Set }

-- a flag
abbrev pub flag_rule : Text → Rule
flag_rule id = record (new_rule id) { long = Some id; action = Some SetTrue }

-- the program's name, and that it has a version
abbrev pub app_with_name : App
app_with_name =
    let app = new_app (codes "mmdepend") in
    record app { top = record app.top { has_version = true } }

-- mmdepend [--workers N] [--pieces N] [--only T] [--report PART] [--form N] [--essential] [--open]
-- [--against OLD] [--and-report] [FILE]
unfoldable pub command_of : (report_option form_option : Rule) → App
command_of report_option form_option =
    with_rule
    (with_rule
    (with_rule
    (with_rule
    (with_rule
    (with_rule
    (with_rule
    (with_rule
    (with_rule
    (with_rule app_with_name (number_rule (codes "workers"))) (number_rule (codes "pieces")))
    (text_rule (codes "only"))) report_option) form_option) (flag_rule (codes "essential")))
    (flag_rule (codes "open"))) (text_rule (codes "against"))) (flag_rule (codes "and-report")))
    file_rule

-- the command line's description for these words, wherever in memory the texts of `--report` and
-- the words of `--form` are
pub record IsCommand (words : List Text) (app : App) : Type 0 where
  pub report_option : Rule
  pub is_report : IsReportRule words report_option
  pub form_option : Rule
  pub is_form : IsFormRule form_option
  pub app_is_command : app ≡ command_of report_option form_option

-- the number that an entry spells
abbrev pub number_of : Text → List Row → Option ℕ
number_of id rows = option_map (λ t. digits_value 10 (without_leading_plus t)) (one_of id rows)

-- a flag is set if its entry is `true`, and not set if its entry is `false` or it has none
abbrev pub IsFlag : Option Text → Bool → Type 0
IsFlag entry set =
    (entry ≡ None → set ≡ false) × (entry ≡ Some (codes "true") → set ≡ true)
    × (entry ≡ Some (codes "false") → set ≡ false)

-- the plan is lawful, and each field is its entry
pub record IsLine (rows : List Row) (line : Line) : Type 0 where
  pub pieces : (n : ℕ) × (line.plan.cuts ≡ Count n) × (number_of (codes "pieces") rows ≡ Some n)
  pub workers : number_of (codes "workers") rows ≡ Some line.plan.workers
  pub only : first_of (codes "only") rows ≡ only_of line.plan
  pub known_names : (text : Text) × (first_of (codes "report") rows ≡ Some text)
      × (has_known_names text ≡ true)
  pub choice : line.plan.choice ≡ sections_in (first_of (codes "report") rows)
  pub form : first_of (codes "form") rows ≡ Some (form_word line.plan.form)
  pub essential : IsFlag (one_of (codes "essential") rows) line.plan.essential
  pub with_open : IsFlag (one_of (codes "open") rows) line.plan.with_open
  pub and_report : IsFlag (one_of (codes "and-report") rows) line.plan.and_report
  pub against : first_of (codes "against") rows ≡ option_map string_bytes line.against
  pub file : first_of (codes "FILE") rows ≡ option_map string_bytes line.file
  pub lawful : IsLawfulPlan line.plan

-- the command finds no fault in the words, and the line is what they say
abbrev pub AreReadAs : List Text → Line → Type 0
AreReadAs words line =
    (app : App) × IsCommand words app × (fault_of app words ≡ [])
    × IsLine (matches_of app words) line

-- the command doesn't accept the words, and the fault satisfies the predicate
abbrev pub AreRefusedFor : List Text → (ErrorKind → Type 0) → Type 0
AreRefusedFor words P =
    (app : App) × IsCommand words app × (takes app words ≡ false) × (kind : ErrorKind)
    × IsAmong kind (fault_of app words) × P kind

-- help or the version is requested
abbrev pub IsHelpOrVersion : ErrorKind → Type 0
IsHelpOrVersion kind = (kind ≡ DisplayHelp) ⊎ (kind ≡ DisplayVersion)

-- Help or the version is requested, or the words have another fault. Nothing is said of `Memory`.
abbrev pub IsLineRefusal : List Text → LineRefused → Type 0
IsLineRefusal words (Help text) = AreRefusedFor words IsHelpOrVersion
IsLineRefusal words (Bad text) = AreRefusedFor words (λ kind. ¬ IsHelpOrVersion kind)
IsLineRefusal words Memory = ⊤
