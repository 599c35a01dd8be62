-- What the words of a command line come to.
use Rattle.std.proofs.Common.{◌≡◌, ◌∙◌, ◌⊎◌, ◌<◌, ◌≤◌, ◌+◌, ◌==◌, eqb-true, eq-eqb, option_map, inl}
use Rattle.std.proofs.Common.{inr, ℕ, zero, suc, Bool, true, false, true≢false, ◌&&◌, ◌||◌, refl}
use Rattle.std.proofs.Common.{sym, ap, ap₂, subst, arith, codes, map, length, slice_index_or}
use Rattle.std.proofs.Common.{List, [], ◌∷◌, ◌++◌, Some, None}
use Rattle.std.proofs.lemmas.Bool.{and_parts, or_cases, or_left, or_right}
use Rattle.std.proofs.lemmas.Grind.{common_steps}
use Rattle.std.proofs.lemmas.List.{length-map}
use Rattle.std.proofs.lemmas.Slice.Eq.{bytes_eq-Decides}
use Rattle.std.specs.Prelude.{not, pos}
use Rattle.std.specs.List.{list_all, list_any, filter, slice_split}
use Rattle.std.specs.Prelude.{flat_map}
use Rattle.std.specs.Borrow.{Bor}
use Rattle.std.specs.Str.{bytes_eq}
use Rattle.std.specs.Str.Parse.{digits_value, without_leading_plus}
use Rattle.std.specs.String.{string_bytes}
use Rattle.std.proofs.Math.Bool.{not-not}
use Rattle.clap.specs.Values.{kind_of}
use Rattle.clap.specs.Texts.{items_of}
use Rattle.clap.specs.Matches.{first_value, found_of, one_text}
use Rattle.clap.specs.Walk.{Row, Rule, Text, first_of, is_empty, one_of, is_simple_arg, rule_of}
use Rattle.clap.specs.Walk.{rows_of}
use Rattle.clap.specs.Simple.{App, HasMatchesOf, app_of, built, is_simple, matches_of, with_rule}
use Rattle.clap.specs.Facts.{args_of, groups_of}
use Rattle.clap.specs.Takes.{takes}
use Rattle.clap.specs.Kinds.{HasKind, IsAmong}
use Rattle.clap.specs.Faults.{fault_of, is_free_app, is_simple_and_free}
use Rattle.clap.specs.Built.{AddsArg, AddsInTurn, IsParsedFrom, NamesNoGroup}
use Rattle.clap.specs.declared.builder.arg.Arg.{Arg}
use Rattle.clap.specs.declared.builder.command.Command.{Command}
use Rattle.clap.specs.declared.builder.command.Command.TheViews.{out-Command}
use Rattle.clap.specs.declared.builder.action.ArgAction.TheVariants.{Set}
use Rattle.clap.specs.declared.builder.value_parser.ValueParser.{ValueParser}
use Rattle.clap.specs.declared.builder.value_parser.ValueParser.TheVariants.{Signed, Names}
use Rattle.clap.specs.declared.parser.matches.Found.{Found}
use Rattle.clap.specs.declared.parser.matches.ArgMatches.{ArgMatches}
use Rattle.clap.specs.declared.error.Error.{Error}
use Rattle.clap.specs.declared.error.kind.ErrorKind.TheVariants.{DisplayHelp, DisplayVersion}
use Rattle.clap.specs.declared.error.kind.ErrorKind.TheVariants.{OutOfMemory}
use Rattle.clap.specs.declared.error.kind.ErrorKind.{ErrorKind}
use Rattle.clap.proofs.WalkLemmas.{first_value-rows, list_any-map, one_text-rows}
use Rattle.mm_spec.specs.declared.Form.{Form}
use Rattle.mm_spec.specs.declared.Form.TheVariants.{One, Two}
use Rattle.mm_spec.specs.Derivation.{is_member}
use Rattle.mm_line.specs.Lines.{IsCommand, IsFormRule, IsFlag, IsHelpOrVersion, IsLineRefusal}
use Rattle.mm_line.specs.Lines.{IsReportRule, has_known_names, known_parts, report_rule}
use Rattle.mm_line.specs.Lines.{report_texts}
use Rattle.mm_line.specs.Lines.{sections_in, command_of, flag_rule, number_rule}
use Rattle.mm_line.specs.Lines.{text_rule, file_rule, form_rule, form_word, form_words, AreReadAs}
use Rattle.mm_line.specs.Found.{Finds, HasForm, HasNumber, HasSections, IsRefusalForKind}
use Rattle.mm_line.proofs.EntryLaw.{Defaulted, default_is_read, empty_is_nil, rule_of_argument_is}
use Rattle.mm_line.proofs.EntryLaw.{simple_leaves_out}
use Rattle.mm_plan.specs.declared.Cutting.TheVariants.{Count}
use Rattle.mm_plan.specs.Plans.{IsLawfulCutting, only_of}
use Rattle.mm_line.specs.declared.command_line.Line.{Line}
use Rattle.mm_line.specs.declared.command_line.LineRefused.{LineRefused}
use Rattle.mm_line.specs.declared.command_line.LineRefused.TheVariants.{Help, Bad, Memory}

-- a command with one rule more
app_with_added_rule : (before after : Command) (a : Arg) (app : App) (r : Rule)
    → AddsArg before a after
    → app_of before ≡ app → rule_of a ≡ r → r.is_simple ≡ true → app_of after ≡ with_rule app r
app_with_added_rule before after a app r is_added app_is rule rule_is_simple =
    is_added.shape
    (simple_leaves_out a (ap (λ (x : Rule). x.is_simple) rule ∙ rule_is_simple)).not_global
    ∙ ap (λ (x : App). with_rule x (rule_of a)) app_is ∙ ap (with_rule app) rule

abbrev pub with_rules : App → List Rule → App
with_rules app [] = app
with_rules app (r ∷ rules) = with_rules (with_rule app r) rules

-- a command with a rule more for each argument
pub app_with_added_rules : (args : List Arg) (rules : List Rule) (before after : Command)
    (app : App)
    → AddsInTurn AddsArg before args after → app_of before ≡ app → map rule_of args ≡ rules
    → list_all (λ (r : Rule). r.is_simple) rules ≡ true → app_of after ≡ with_rules app rules
app_with_added_rules [] [] before after app are_added app_is rules_are rules_are_simple =
    ap app_of (sym are_added) ∙ app_is
app_with_added_rules [] (r ∷ rules) before after app are_added app_is rules_are rules_are_simple =
    cc
app_with_added_rules (a ∷ args) [] before after app are_added app_is rules_are rules_are_simple = cc
app_with_added_rules (a ∷ args) (r ∷ rules) before after app are_added app_is rules_are
    rules_are_simple =
    let first_and_later =
    and_parts r.is_simple (list_all (λ (r : Rule). r.is_simple) rules) rules_are_simple in
    let first_rule_is : rule_of a ≡ r = cc in
    let later_rules_are : map rule_of args ≡ rules = cc in
    app_with_added_rules args rules are_added.0 after (with_rule app r) are_added.2
    (app_with_added_rule before are_added.0 a app r are_added.1 app_is first_rule_is
    first_and_later.0)
    later_rules_are first_and_later.1

pub added_rules_are_command : (words : List Text) (c : Command) (report_option form_option : Rule)
    → IsReportRule words report_option → IsFormRule form_option
    → app_of c ≡ command_of report_option form_option → IsCommand words (app_of c)
added_rules_are_command words c report_option form_option is_report_rule is_form_rule app_is =
    record {
      report_option = report_option;
      is_report = is_report_rule;
      form_option = form_option;
      is_form = is_form_rule;
      app_is_command = app_is;
    }

command_is_simple_and_free : (words : List Text) (report form : Rule)
    → IsReportRule words report → IsFormRule form
    → is_simple_and_free (command_of report form) ≡ true
unfolding command_of
command_is_simple_and_free words report form is_report_rule is_form_rule =
    subst (λ (r : Rule). is_simple_and_free (command_of r form) ≡ true) (sym is_report_rule.2)
    (subst
    (λ (r : Rule). is_simple_and_free (command_of (report_rule is_report_rule.0) r) ≡ true)
    (sym is_form_rule.2) refl)

pub command_app_is_simple_and_free : (words : List Text) (app : App) → IsCommand words app
    → is_simple_and_free app ≡ true
command_app_is_simple_and_free words app is_command_app =
    subst (λ (a : App). is_simple_and_free a ≡ true) (sym is_command_app.app_is_command)
    (command_is_simple_and_free words is_command_app.report_option is_command_app.form_option
    is_command_app.is_report is_command_app.is_form)

help_is_not_memory : (kind : ErrorKind) → IsHelpOrVersion kind → kind ≡ OutOfMemory → ⊥
help_is_not_memory kind (inl is_asking) is_memory =
    let kinds_equal : DisplayHelp ≡ OutOfMemory = sym is_asking ∙ is_memory in cc
help_is_not_memory kind (inr is_asking) is_memory =
    let kinds_equal : DisplayVersion ≡ OutOfMemory = sym is_asking ∙ is_memory in cc

pub refusal_is_line_refusal : (app : App) (words : List Text) (e : Error) (r : LineRefused)
    → IsCommand words app
    → (takes app words ≡ true → kind_of e ≡ OutOfMemory)
    → HasKind (fault_of app words) e → IsRefusalForKind (kind_of e) r → IsLineRefusal words r
refusal_is_line_refusal app words e Memory app_is passes kind is_for = tt
refusal_is_line_refusal app words e (Help text) app_is passes kind is_for =
    (app, app_is, not_taken (takes app words) refl, kind_of e, among_faults kind, is_for)
  where
    not_taken : (b : Bool) → takes app words ≡ b → b ≡ false
    not_taken true test_is = absurd (help_is_not_memory (kind_of e) is_for (passes test_is))
    not_taken false test_is = refl

    among_faults : HasKind (fault_of app words) e → IsAmong (kind_of e) (fault_of app words)
    among_faults (inl is_memory) = absurd (help_is_not_memory (kind_of e) is_for is_memory)
    among_faults (inr is_among) = is_among
refusal_is_line_refusal app words e (Bad text) app_is passes kind is_for =
    (app, app_is, not_taken (takes app words) refl, kind_of e, among_faults kind, is_for.0)
  where
    not_taken : (b : Bool) → takes app words ≡ b → b ≡ false
    not_taken true test_is = absurd (is_for.1 (passes test_is))
    not_taken false test_is = refl

    among_faults : HasKind (fault_of app words) e → IsAmong (kind_of e) (fault_of app words)
    among_faults (inl is_memory) = absurd (is_for.1 is_memory)
    among_faults (inr is_among) = is_among

tested_different_differ : (a b : Text) → bytes_eq a b ≡ false → a ≡ b → ⊥
tested_different_differ a b tested_different texts_equal =
    true≢false (sym ((bytes_eq-Decides a b).1 texts_equal) ∙ tested_different)

-- ---- the entries of words that the command takes

argument_at_place : (xs : List Arg) (k : ℕ) → k < length xs
    → (a : Arg) × (slice_index_or xs k a ≡ a)
argument_at_place [] k k_lt_length = absurd (omega arith)
argument_at_place (x ∷ xs) zero k_lt_length = (x, refl)
argument_at_place (x ∷ xs) (suc k) k_lt_length = argument_at_place xs k (omega arith)

each_argument_is_simple : (xs : List Arg) → list_all (λ r. r.is_simple) (map rule_of xs) ≡ true
    → (k : ℕ) (d : Arg) → k < length xs → is_simple_arg (slice_index_or xs k d) ≡ true
each_argument_is_simple [] rules_are_simple k d k_lt_length = absurd (omega arith)
each_argument_is_simple (x ∷ xs) rules_are_simple zero d k_lt_length =
    (and_parts (is_simple_arg x) (list_all (λ r. r.is_simple) (map rule_of xs)) rules_are_simple).0
each_argument_is_simple (x ∷ xs) rules_are_simple (suc k) d k_lt_length =
    each_argument_is_simple xs
    (and_parts (is_simple_arg x) (list_all (λ r. r.is_simple) (map rule_of xs)) rules_are_simple).1
    k d
    (omega arith)

first_and_third : (a b c d : Bool) → (a && (b && (c && d))) ≡ true → (a ≡ true) × (not c ≡ false)
first_and_third a b c d all_four = grind (arith, common_steps, and_parts)

one_of_known_is_known : (t : Text) (ws : List Text) → list_all has_known_names ws ≡ true
    → list_any (λ (w : Text). bytes_eq w t) ws ≡ true → has_known_names t ≡ true
one_of_known_is_known t [] all_known is_one = absurd (true≢false (sym is_one))
one_of_known_is_known t (w ∷ ws) all_known is_one =
    let known = and_parts (has_known_names w) (list_all has_known_names ws) all_known in
    elim (or_cases (bytes_eq w t) _ is_one) [
      | inl equal ↦ subst (λ (x : Text). has_known_names x ≡ true) ((bytes_eq-Decides w t).0 equal)
          known.0
      | inr later ↦ one_of_known_is_known t ws known.1 later
    ]

filter_passes : (ws : List Text) → list_all has_known_names (filter has_known_names ws) ≡ true
filter_passes [] = refl
filter_passes (w ∷ ws) = by_test (has_known_names w) refl (filter_passes ws)
  where
    by_test : (b : Bool) → has_known_names w ≡ b
        → list_all has_known_names (filter has_known_names ws) ≡ true
        → list_all has_known_names (filter has_known_names (w ∷ ws)) ≡ true
    by_test true known later = rw (known, known, later) refl
    by_test false unknown later = rw unknown later

all_of_both : (vs ws : List Text) → list_all has_known_names vs ≡ true
    → list_all has_known_names ws ≡ true → list_all has_known_names (vs ++ ws) ≡ true
all_of_both [] ws first second = second
all_of_both (v ∷ vs) ws first second =
    let known = and_parts (has_known_names v) (list_all has_known_names vs) first in
    rw known.0 (all_of_both vs ws known.1 second)

all_parts_are_known : (words : List Text)
    → list_all has_known_names (flat_map known_parts words) ≡ true
all_parts_are_known [] = refl
all_parts_are_known (word ∷ words) =
    all_of_both (known_parts word) (flat_map known_parts words)
    (filter_passes (slice_split (λ b. b == 61) word)) (all_parts_are_known words)

-- the texts that `--report` takes have names of sections alone
report_texts_are_known : (words : List Text) → list_all has_known_names (report_texts words) ≡ true
report_texts_are_known words = all_parts_are_known words

known_word_is_form : (t : Text) → list_any (λ (w : Text). bytes_eq w t) form_words ≡ true
    → (form : Form) × (t ≡ form_word form)
known_word_is_form t is_some_form = form_if_first (or_cases (bytes_eq (codes "1") t) _ is_some_form)
  where
    form_if_second : (bytes_eq (codes "2") t ≡ true) ⊎ (false ≡ true)
        → (form : Form) × (t ≡ form_word form)
    form_if_second (inl word_is) = (Two, sym ((bytes_eq-Decides (codes "2") t).0 word_is))
    form_if_second (inr word_is) = absurd (true≢false (sym word_is))

    form_if_first : (bytes_eq (codes "1") t ≡ true) ⊎ ((bytes_eq (codes "2") t || false) ≡ true)
        → (form : Form) × (t ≡ form_word form)
    form_if_first (inl word_is) = (One, sym ((bytes_eq-Decides (codes "1") t).0 word_is))
    form_if_first (inr word_is) = form_if_second (or_cases (bytes_eq (codes "2") t) false word_is)

-- the indices of the rules with this id, if the first rule has the index n
abbrev indices_of : Text → ℕ → List Rule → List ℕ
indices_of id n [] = []
indices_of id n (r ∷ rs) =
    elim (bytes_eq r.id id) [
      | true ↦ n
          ∷ indices_of id (suc n) rs
      | false ↦ indices_of id (suc n) rs
    ]

index_is_listed : (id : Text) (rs : List Rule) (d : Rule) (n j : ℕ) → j < length rs
    → bytes_eq (slice_index_or rs j d).id id ≡ true
    → is_member (indices_of id n rs) (n + j) ≡ true
index_is_listed id [] d n j j_lt_length has_id = absurd (omega arith)
index_is_listed id (r ∷ rs) d n zero j_lt_length has_id =
    subst (λ b. is_member
    (elim b [ true ↦ n ∷ indices_of id (suc n) rs | false ↦ indices_of id (suc n) rs ])
    (n + 0)
    ≡ true) (sym has_id) (or_left (n + 0 == n) _ (eq-eqb (n + 0) n (omega arith)))
index_is_listed id (r ∷ rs) d n (suc j) j_lt_length has_id =
    listed_by_head (bytes_eq r.id id)
    (let index_is : suc n + j ≡ n + suc j = omega arith in
    subst (λ k. is_member (indices_of id (suc n) rs) k ≡ true) index_is
    (index_is_listed id rs d (suc n) j (omega arith) has_id))
  where
    listed_by_head : (b : Bool) → is_member (indices_of id (suc n) rs) (n + suc j) ≡ true
        → is_member
        (elim b [ true ↦ n ∷ indices_of id (suc n) rs | false ↦ indices_of id (suc n) rs ])
        (n + suc j)
        ≡ true
    listed_by_head true is_listed_later = or_right (n + suc j == n) _ is_listed_later
    listed_by_head false is_listed_later = is_listed_later

-- if only rule k has the id, each rule with the id is rule k
listed_index_is_only : (rs : List Rule) (d : Rule) (id : Text) (k : ℕ) → indices_of id 0 rs ≡ k ∷ []
    → (j : ℕ)
    → j < length rs → bytes_eq (slice_index_or rs j d).id id ≡ true → j ≡ k
listed_index_is_only rs d id k only_k_has_id j j_lt_length has_id =
    equal_if_listed (or_cases (j == k) false
    (subst (λ (l : List ℕ). is_member l j ≡ true) only_k_has_id
    (let zero_plus_j : 0 + j ≡ j = omega arith in
    subst (λ i. is_member (indices_of id 0 rs) i ≡ true) zero_plus_j
    (index_is_listed id rs d 0 j j_lt_length has_id))))
  where
    equal_if_listed : ((j == k) ≡ true) ⊎ (false ≡ true) → j ≡ k
    equal_if_listed (inl is_that_index) = eqb-true j k is_that_index
    equal_if_listed (inr is_that_index) = absurd (true≢false (sym is_that_index))

module _ (texts forms : Bor (List (Bor Text))) where
  abbrev pub the_rules : List Rule
  the_rules =
      number_rule (codes "workers") ∷ number_rule (codes "pieces") ∷ text_rule (codes "only")
      ∷ report_rule texts ∷ form_rule forms ∷ flag_rule (codes "essential")
      ∷ flag_rule (codes "open") ∷ text_rule (codes "against") ∷ flag_rule (codes "and-report")
      ∷ file_rule ∷ []

  module _ (c : Command)
      (app_is : app_of c ≡ command_of (report_rule texts) (form_rule forms)) where
    rules_are : map rule_of (args_of c) ≡ the_rules
    unfolding command_of
    rules_are = ap (λ (a : App). a.top.rules) app_is

    counts_equal : length (args_of c) ≡ length the_rules
    counts_equal = sym (length-map (args_of c) rule_of) ∙ ap length rules_are

    top_is_plain : (is_empty (out-Command c).groups.items ≡ true)
        × (not (not (out-Command c).has_globals) ≡ false)
    unfolding command_of
    top_is_plain =
        first_and_third (is_empty (out-Command c).groups.items)
        (not (out-Command c).allow_external_subcommands) (not (out-Command c).has_globals) _
        (ap (λ (a : App). a.top.is_plain) app_is)

    has_no_globals : (out-Command c).has_globals ≡ false
    has_no_globals = sym (not-not (out-Command c).has_globals) ∙ top_is_plain.1

    no_groups : groups_of c ≡ []
    no_groups = empty_is_nil (out-Command c).groups.items top_is_plain.0

    each_is_simple : (k : ℕ) (d : Arg) → k < length (args_of c)
        → is_simple_arg (slice_index_or (args_of c) k d) ≡ true
    each_is_simple =
        each_argument_is_simple (args_of c) (ap (list_all (λ (r : Rule). r.is_simple)) rules_are)

    names_no_group : NamesNoGroup c
    names_no_group k d k_lt_count =
        (simple_leaves_out (slice_index_or (args_of c) k d)
        (each_is_simple k d k_lt_count)).no_groups

    -- an argument with a default, by its rule
    defaulted : (k : ℕ) (id value : Text) (q : ValueParser) → k < length the_rules
        → ((a : Arg)
        → slice_index_or the_rules k (rule_of a) ≡ slice_index_or the_rules k file_rule)
        → (slice_index_or the_rules k file_rule).id ≡ id
        → (slice_index_or the_rules k file_rule).action ≡ Some Set
        → (slice_index_or the_rules k file_rule).range ≡ None
        → (slice_index_or the_rules k file_rule).defaults ≡ value ∷ []
        → (slice_index_or the_rules k file_rule).parser ≡ Some q
        → ((j : ℕ) → j < length the_rules
        → bytes_eq (slice_index_or the_rules j file_rule).id id ≡ true → j ≡ k)
        → (id ≡ [] → ⊥) → ((id ≡ codes "help") ⊎ (id ≡ codes "version") → ⊥)
        → (a : Arg) × Defaulted c k a id q
        × (a.ignore_case ≡ (slice_index_or the_rules k file_rule).ignore_case)
    defaulted k id value q k_lt_rules _ id_is action range default parser only_k_has_id
        id_is_nonempty is_not_automatic =
        let index_lt_count : k < length (args_of c) =
        subst (λ (n : ℕ). k < n) (sym counts_equal) k_lt_rules in
        let argument_there = argument_at_place (args_of c) k index_lt_count in
        let a = argument_there.0 in
        let rule_is : rule_of a ≡ slice_index_or the_rules k file_rule =
        ap rule_of (sym argument_there.1)
        ∙ rule_of_argument_is (args_of c) the_rules k a file_rule rules_are index_lt_count in
        let id_of_argument_is : a.id.now ≡ id = ap (λ (r : Rule). r.id) rule_is ∙ id_is in (
          a,
          record {
            index_lt_count = index_lt_count;
            argument_is = argument_there.1;
            id_is = id_of_argument_is;
            simple =
                subst (λ (y : Arg). is_simple_arg y ≡ true) argument_there.1
                (each_is_simple k a index_lt_count);
            action = ap (λ (r : Rule). r.action) rule_is ∙ action;
            range = ap (λ (r : Rule). r.range) rule_is ∙ range;
            default =
                (let one_default : length (items_of a.default_vals)
                ≡ 1 = sym (length-map (items_of a.default_vals) (λ s. s.now))
                ∙ ap length (ap (λ (r : Rule). r.defaults) rule_is ∙ default) in
                omega (arith, one_default));
            parser = ap (λ (r : Rule). r.parser) rule_is ∙ parser;
            id_is_unique =
                λ j e j_lt_count j_has_id. only_k_has_id j
                (subst (λ (n : ℕ). j < n) counts_equal j_lt_count)
                (subst (λ (r : Rule). bytes_eq r.id id ≡ true)
                (rule_of_argument_is (args_of c) the_rules j e file_rule rules_are j_lt_count)
                j_has_id);
            id_is_nonempty = id_is_nonempty;
            is_not_automatic =
                λ is_automatic. is_not_automatic
                (elim is_automatic [
                  | inl is_help ↦ inl (sym id_of_argument_is ∙ is_help)
                  | inr is_version ↦ inr (sym id_of_argument_is ∙ is_version)
                ]);
          },
          ap (λ (r : Rule). r.ignore_case) rule_is,
        )

    module _ (m : ArgMatches) (p : IsParsedFrom c m) where
      built_has_none : groups_of p.built ≡ []
      built_has_none = (p.from.same_groups names_no_group).1 ∙ no_groups

      workers_read : HasNumber m (codes "workers")
      workers_read =
          let argument =
          defaulted 0 (codes "workers") (codes "4") (Signed (pos 1) (pos 64)) (omega arith)
          (λ _. refl) refl refl refl refl refl
          (listed_index_is_only the_rules file_rule (codes "workers") 0 refl)
          (tested_different_differ _ _ refl)
          (λ is_automatic_id. elim is_automatic_id [
            | inl is_help ↦ tested_different_differ _ _ refl is_help
            | inr is_version ↦ tested_different_differ _ _ refl is_version
          ]) in
          let default_read =
          default_is_read c m p has_no_globals built_has_none 0 argument.0 (codes "workers")
          (Signed (pos 1) (pos 64)) argument.1 in
          (default_read.text, default_read.text_is_read, default_read.text_is_accepted)

      pieces_read : HasNumber m (codes "pieces")
      pieces_read =
          let argument =
          defaulted 1 (codes "pieces") (codes "4") (Signed (pos 1) (pos 64)) (omega arith)
          (λ _. refl) refl refl refl refl refl
          (listed_index_is_only the_rules file_rule (codes "pieces") 1 refl)
          (tested_different_differ _ _ refl)
          (λ is_automatic_id. elim is_automatic_id [
            | inl is_help ↦ tested_different_differ _ _ refl is_help
            | inr is_version ↦ tested_different_differ _ _ refl is_version
          ]) in
          let default_read =
          default_is_read c m p has_no_globals built_has_none 1 argument.0 (codes "pieces")
          (Signed (pos 1) (pos 64)) argument.1 in
          (default_read.text, default_read.text_is_read, default_read.text_is_accepted)

      form_read : map (λ n. n.now) forms.now ≡ form_words → HasForm m
      form_read names_are =
          let argument =
          defaulted 4 (codes "form") (codes "1") (Names forms) (omega arith)
          (λ _. refl) refl refl refl refl refl
          (listed_index_is_only the_rules file_rule (codes "form") 4 refl)
          (tested_different_differ _ _ refl)
          (λ is_automatic_id. elim is_automatic_id [
            | inl is_help ↦ tested_different_differ _ _ refl is_help
            | inr is_version ↦ tested_different_differ _ _ refl is_version
          ]) in
          let default_read =
          default_is_read c m p has_no_globals built_has_none 4 argument.0 (codes "form")
          (Names forms)
          argument.1 in
          let is_accepted : list_any (λ n. bytes_eq n.now default_read.text) forms.now ≡ true =
          rw argument.2 at default_read.text_is_accepted in
          let word =
          known_word_is_form default_read.text
          (ap (list_any (λ (w : Text). bytes_eq w default_read.text)) (sym names_are)
          ∙ (sym (list_any-map (λ (w : Text). bytes_eq w default_read.text) (λ n. n.now)
          forms.now)
          ∙ is_accepted)) in
          (word.0, default_read.text_is_first ∙ ap Some word.1)

      report_read : list_all has_known_names (map (λ t. t.now) texts.now) ≡ true → HasSections m
      report_read all_known =
          let argument =
          defaulted 3 (codes "report") (codes "all") (Names texts) (omega arith)
          (λ _. refl) refl refl refl refl refl
          (listed_index_is_only the_rules file_rule (codes "report") 3 refl)
          (tested_different_differ _ _ refl)
          (λ is_automatic_id. elim is_automatic_id [
            | inl is_help ↦ tested_different_differ _ _ refl is_help
            | inr is_version ↦ tested_different_differ _ _ refl is_version
          ]) in
          let default_read =
          default_is_read c m p has_no_globals built_has_none 3 argument.0 (codes "report")
          (Names texts)
          argument.1 in
          let is_accepted : list_any (λ t. bytes_eq t.now default_read.text) texts.now ≡ true =
          rw argument.2 at default_read.text_is_accepted in (
            default_read.text,
            default_read.text_is_first,
            one_of_known_is_known default_read.text (map (λ t. t.now) texts.now) all_known
                (sym (list_any-map (λ (w : Text). bytes_eq w default_read.text) (λ t. t.now)
                texts.now)
                ∙ is_accepted),
          )

pub parsed_matches_are_found : (c : Command) (m : ArgMatches) (words : List Text)
    → IsCommand words (app_of c)
    → IsParsedFrom c m → fault_of (app_of c) words ≡ [] → HasMatchesOf (app_of c) words m
    → Finds words m
parsed_matches_are_found c m words is_command_app p no_fault has_matches =
    let texts = is_command_app.is_report.0 in
    let forms = is_command_app.is_form.0 in
    let app_is : app_of c ≡ command_of (report_rule texts) (form_rule forms) =
    is_command_app.app_is_command
    ∙ ap₂ command_of is_command_app.is_report.2 is_command_app.is_form.2 in
    record {
      app = app_of c;
      command = is_command_app;
      no_fault = no_fault;
      rows =
          (has_matches
          (and_parts (is_simple (app_of c)) (is_free_app (built (app_of c)))
          (command_app_is_simple_and_free words (app_of c) is_command_app)).0).0;
      workers = workers_read texts forms c app_is m p;
      pieces = pieces_read texts forms c app_is m p;
      sections =
          report_read texts forms c app_is m p
          (ap (list_all has_known_names) is_command_app.is_report.1 ∙ report_texts_are_known words);
      form = form_read texts forms c app_is m p is_command_app.is_form.1;
    }

-- ---- what a line says

module _ (f : Found) (rows : List Row) (app_is : rows_of f ≡ rows) where
  first_value_of_rows_is : (id : Text) → first_value f id ≡ first_of id rows
  first_value_of_rows_is id = first_value-rows f id ∙ ap (first_of id) app_is

  one_text_of_rows_is : (id : Text) → one_text f id ≡ one_of id rows
  one_text_of_rows_is id = one_text-rows f id ∙ ap (one_of id) app_is

abbrev digits : Text → ℕ
digits t = digits_value 10 (without_leading_plus t)

pub line_is_read : (words : List Text) (m : ArgMatches) → Finds words m → (line : Line) (n : ℕ)
    → line.plan.cuts ≡ Count n
    → option_map digits (one_text (found_of m) (codes "pieces")) ≡ Some n → 1 ≤ n → n ≤ 64
    → option_map digits (one_text (found_of m) (codes "workers")) ≡ Some line.plan.workers
    → 1 ≤ line.plan.workers → line.plan.workers ≤ 64
    → only_of line.plan ≡ first_value (found_of m) (codes "only")
    → line.plan.choice ≡ sections_in (first_value (found_of m) (codes "report"))
    → first_value (found_of m) (codes "form") ≡ Some (form_word line.plan.form)
    → IsFlag (one_text (found_of m) (codes "essential")) line.plan.essential
    → IsFlag (one_text (found_of m) (codes "open")) line.plan.with_open
    → IsFlag (one_text (found_of m) (codes "and-report")) line.plan.and_report
    → option_map string_bytes line.against ≡ first_value (found_of m) (codes "against")
    → option_map string_bytes line.file ≡ first_value (found_of m) (codes "FILE")
    → AreReadAs words line
line_is_read words m f line n cuts_are pieces_are one_le_pieces pieces_le_64 workers_are
    one_le_workers workers_le_64 only_is choice_is form_is essential_is with_open_is and_report_is
    against_is file_is =
    let rows = matches_of f.app words in
    let first_values_are = first_value_of_rows_is (found_of m) rows f.rows in
    let one_texts_are = one_text_of_rows_is (found_of m) rows f.rows in (
      f.app,
      f.command,
      f.no_fault,
      record {
        pieces = (
          n,
          cuts_are,
          ap (option_map digits) (sym (one_texts_are (codes "pieces")))
              ∙ pieces_are,
        );
        workers = ap (option_map digits) (sym (one_texts_are (codes "workers"))) ∙ workers_are;
        only = sym (first_values_are (codes "only")) ∙ sym only_is;
        known_names = (
          f.sections.0,
          sym (first_values_are (codes "report")) ∙ f.sections.1,
          f.sections.2,
        );
        choice = choice_is ∙ ap sections_in (first_values_are (codes "report"));
        form = sym (first_values_are (codes "form")) ∙ form_is;
        essential =
            subst (λ entry. IsFlag entry line.plan.essential) (one_texts_are (codes "essential"))
            essential_is;
        with_open =
            subst (λ entry. IsFlag entry line.plan.with_open) (one_texts_are (codes "open"))
            with_open_is;
        and_report =
            subst (λ entry. IsFlag entry line.plan.and_report) (one_texts_are (codes "and-report"))
            and_report_is;
        against = sym (first_values_are (codes "against")) ∙ sym against_is;
        file = sym (first_values_are (codes "FILE")) ∙ sym file_is;
        lawful = (
          subst IsLawfulCutting (sym cuts_are) (one_le_pieces, pieces_le_64),
          one_le_workers,
          workers_le_64,
        );
      },
    )
