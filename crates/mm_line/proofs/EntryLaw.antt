-- The entry of an argument with a default has a text that passed the argument's parser.
use Rattle.std.proofs.Common.{◌≡◌, ◌∙◌, ◌⊎◌, ◌<◌, ◌≤◌, inl, inr, ℕ, zero, suc, Bool, true, false}
use Rattle.std.proofs.Common.{true≢false, refl, sym, ap, subst, arith, List, [], ◌∷◌, map, length}
use Rattle.std.proofs.Common.{slice_index_or, Option, Some, None, option_map, slice_get, eqb-true}
use Rattle.std.proofs.lemmas.List.{get_or-map}
use Rattle.std.proofs.lemmas.List.Elements.{All-get_or}
use Rattle.std.proofs.lemmas.Slice.Eq.{bytes_eq-Decides}
use Rattle.std.specs.Prelude.{not, is_some, find}
use Rattle.std.specs.List.{All}
use Rattle.std.specs.Str.{bytes_eq}
use Rattle.std.specs.Borrow.{Bor}
use Rattle.std.proofs.lemmas.Bool.{and_parts, not-true}
use Rattle.clap.specs.Texts.{items_of}
use Rattle.clap.specs.Values.{Accepts, read_as, reading_of}
use Rattle.clap.specs.Walk.{Rule, Text, is_empty, is_simple_arg, rule_of}
use Rattle.clap.specs.Matches.{first_value, found_of, matched_of, one_text}
use Rattle.clap.specs.Facts.{Entry, EntryPasses, HasId, HasIn, PassesArg, WantsDefault, args_of}
use Rattle.clap.specs.Facts.{groups_of, least_values, parser_of, parser_of_value}
use Rattle.clap.specs.Built.{IsAuto, IsParsedFrom, SameRules}
use Rattle.clap.specs.declared.builder.action.ArgAction.TheVariants.{Set, Count}
use Rattle.clap.specs.declared.builder.arg.Arg.{Arg}
use Rattle.clap.specs.declared.builder.command.Command.{Command}
use Rattle.clap.specs.declared.builder.command.Command.TheViews.{out-Command}
use Rattle.clap.specs.declared.builder.value_parser.ValueParser.{ValueParser}
use Rattle.clap.specs.declared.builder.value_parser.Reading.{Reading}
use Rattle.clap.specs.declared.parser.matches.ArgMatches.{ArgMatches}
use Rattle.clap.specs.declared.parser.matches.Found.{Found}
use Rattle.clap.specs.declared.parser.matches.MatchedArg.{MatchedArg}
use Rattle.clap.proofs.CallerLemmas.{default_present, entry_by_id, same_rules_by_id}

pub empty_is_nil : {X : Type 0} (xs : List X) → is_empty xs ≡ true → xs ≡ []
empty_is_nil [] is_empty_xs = refl
empty_is_nil (x ∷ xs) is_empty_xs =
    absurd (let length_is_zero = eqb-true (length (x ∷ xs)) 0 is_empty_xs in
    omega (arith, length_is_zero))

not_some_option_is_none : {X : Type 0} (o : Option X) → not (is_some o) ≡ true → o ≡ None
not_some_option_is_none None is_none = refl
not_some_option_is_none (Some x) is_none = absurd (true≢false (sym is_none))

-- what a simple argument leaves out
pub record LeavesOptionsOut (a : Arg) : Type 0 where
  pub no_default_ifs : a.default_vals_ifs.items ≡ []
  pub no_groups : a.groups.items ≡ []
  pub no_delimiter : a.val_delim ≡ None
  pub not_global : a.global ≡ false

-- each test of `is_simple_arg` passes, in its order; `from_` names the tests from one on
pub simple_leaves_out : (a : Arg) → is_simple_arg a ≡ true → LeavesOptionsOut a
simple_leaves_out a is_simple_a =
    let from_ifs = (and_parts (is_empty a.overrides.items) _ is_simple_a).1 in
    let from_groups = (and_parts (is_empty a.default_vals_ifs.items) _ from_ifs).1 in
    let from_delimiter = (and_parts (is_empty a.groups.items) _ from_groups).1 in
    let from_terminator = (and_parts (not (is_some a.val_delim)) _ from_delimiter).1 in
    let from_hyphens = (and_parts (not (is_some a.terminator)) _ from_terminator).1 in
    let from_numbers = (and_parts (not a.allow_hyphen_values) _ from_hyphens).1 in
    let from_equals = (and_parts (not a.allow_negative_numbers) _ from_numbers).1 in
    let from_last = (and_parts (not a.require_equals) _ from_equals).1 in
    let from_global = (and_parts (not a.last) _ from_last).1 in
    record {
      no_default_ifs =
          empty_is_nil a.default_vals_ifs.items
          (and_parts (is_empty a.default_vals_ifs.items) _ from_ifs).0;
      no_groups = empty_is_nil a.groups.items (and_parts (is_empty a.groups.items) _ from_groups).0;
      no_delimiter =
          not_some_option_is_none a.val_delim
          (and_parts (not (is_some a.val_delim)) _ from_delimiter).0;
      not_global = not-true a.global from_global;
    }

-- the argument at a place, and its rule
pub rule_of_argument_is : (xs : List Arg) (rules : List Rule) (k : ℕ) (d : Arg) (r : Rule)
    → map rule_of xs ≡ rules → k < length xs
    → rule_of (slice_index_or xs k d) ≡ slice_index_or rules k r
rule_of_argument_is xs rules k d r rules_are k_lt_length =
    sym (get_or-map rule_of xs k d r k_lt_length)
    ∙ ap (λ (l : List Rule). slice_index_or l k r) rules_are

-- an entry is found by its id
entry_is_found : (xs : List Entry) (id : Text) → HasIn xs id
    → is_some (find (λ e. bytes_eq e.0.now id) xs) ≡ true
entry_is_found [] id has_entry = let index_lt_zero = has_entry.1 in absurd (omega arith)
entry_is_found (x ∷ xs) id has_entry =
    found_by_first_id (bytes_eq x.0.now id) refl has_entry (entry_is_found xs id)
  where
    in_rest : HasIn (x ∷ xs) id → bytes_eq x.0.now id ≡ false → HasIn xs id
    in_rest (zero, index_lt_length, has_id) first_has_other_id =
        absurd (true≢false (sym (has_id x) ∙ first_has_other_id))
    in_rest (suc i, index_lt_length, has_id) first_has_other_id = (i, omega arith, has_id)

    found_by_first_id : (b : Bool) → bytes_eq x.0.now id ≡ b → HasIn (x ∷ xs) id
        → (HasIn xs id → is_some (find (λ e. bytes_eq e.0.now id) xs) ≡ true)
        → is_some (find (λ e. bytes_eq e.0.now id) (x ∷ xs)) ≡ true
    found_by_first_id true test_is has_entry found_later = rw test_is refl
    found_by_first_id false test_is has_entry found_later =
        rw test_is (found_later (in_rest has_entry test_is))

first_text_is : (f : Found) (id : Text) (x : MatchedArg) (how : Reading) (t : Text)
    → matched_of f id ≡ Some x → x.reading ≡ how
    → option_map (λ s. read_as how s.now) (slice_get x.vals.items 0) ≡ Some t
    → one_text f id ≡ Some t
first_text_is f id x how t matched_is reading_is value_is = rw (matched_is, reading_is) value_is

first_value_is : (f : Found) (id : Text) (x : MatchedArg) (t : Text) → matched_of f id ≡ Some x
    → option_map (λ s. s.now) (slice_get x.vals.items 0) ≡ Some t → first_value f id ≡ Some t
first_value_is f id x t matched_is value_is = rw matched_is value_is

first_of_values_holds : (P : Bor Text → Type 0) (how : Reading) (vs : List (Bor Text)) → All P vs
    → 0 < length vs
    → (v : Bor Text)
    × (option_map (λ s. read_as how s.now) (slice_get vs 0) ≡ Some (read_as how v.now))
    × (option_map (λ s. s.now) (slice_get vs 0) ≡ Some v.now) × P v
first_of_values_holds P how [] all_hold some_value = absurd (omega arith)
first_of_values_holds P how (v ∷ vs) all_hold some_value =
    (v, refl, refl, All-get_or P (v ∷ vs) 0 v (omega arith) all_hold)

-- what is known of an argument of a command and its default
pub record Defaulted (c : Command) (k : ℕ) (a : Arg) (id : Text) (q : ValueParser) : Type 0 where
  pub index_lt_count : k < length (args_of c)
  pub argument_is : slice_index_or (args_of c) k a ≡ a
  pub id_is : a.id.now ≡ id
  pub simple : is_simple_arg a ≡ true
  pub action : a.action ≡ Some Set
  pub range : a.num_vals ≡ None
  pub default : 0 < length (items_of a.default_vals)
  pub parser : a.value_parser ≡ Some q
  pub id_is_unique : (j : ℕ) (e : Arg) → j < length (args_of c)
      → bytes_eq (slice_index_or (args_of c) j e).id.now id ≡ true → j ≡ k
  pub id_is_nonempty : id ≡ [] → ⊥
  pub is_not_automatic : IsAuto a → ⊥

module _ (c : Command) (m : ArgMatches) (p : IsParsedFrom c m)
    (globals : (out-Command c).has_globals ≡ false) (no_groups : groups_of p.built ≡ []) where
  -- what the parser takes, and how it is read
  pub record IsReadWith (id : Text) (q : ValueParser) (ignore_case : Bool) : Type 0 where
    pub text : Text
    pub text_is_read : one_text (found_of m) id ≡ Some (read_as (reading_of q) text)
    pub text_is_first : first_value (found_of m) id ≡ Some text
    pub text_is_accepted : Accepts ignore_case q text

  module _ (k : ℕ) (a : Arg) (id : Text) (q : ValueParser) (d : Defaulted c k a id q) where
    id_at_index : (slice_index_or (args_of c) k a).id.now ≡ id
    id_at_index = ap (λ (y : Arg). y.id.now) d.argument_is ∙ d.id_is

    same_rules : (j : ℕ) (x : Arg) → j < length (args_of p.built)
        → slice_index_or (args_of p.built) j x ≡ x → bytes_eq x.id.now id ≡ true → SameRules a x
    same_rules j x j_lt_count argument_is_x has_id =
        subst (λ (y : Arg). SameRules y x) d.argument_is
        (same_rules_by_id c m p k a d.index_lt_count
        (λ i y i_lt_count i_has_id. d.id_is_unique i y i_lt_count
        (subst (λ (w : Text). bytes_eq (slice_index_or (args_of c) i y).id.now w ≡ true) id_at_index
        i_has_id))
        (λ is_automatic. d.is_not_automatic (subst IsAuto d.argument_is is_automatic))
        j x j_lt_count argument_is_x
        (subst (λ (w : Text). bytes_eq x.id.now w ≡ true) (sym id_at_index) has_id))

    parser_is : (x : Arg) → SameRules a x → parser_of x ≡ q
    parser_is x rules_agree = ap parser_of_value (rules_agree.parser q d.parser)

    one_at_least : 1 ≤ least_values a
    one_at_least = rw d.range (omega arith)

    module _ (e : Entry) (eid : e.0.now ≡ id) (pass : EntryPasses p.built e) where
      has_same_id : (x : Arg) → bytes_eq x.id.now e.0.now ≡ true → bytes_eq x.id.now id ≡ true
      has_same_id x has_entry_id = subst (λ (w : Text). bytes_eq x.id.now w ≡ true) eid has_entry_id

      no_group : e.1.is_group ≡ true → ⊥
      no_group is_group = absurd_by_group_kind (pass.3 is_group)
        where
          absurd_by_group_kind : (e.0.now ≡ []) ⊎ (0 < length (groups_of p.built)) → ⊥
          absurd_by_group_kind (inl id_is_empty) = d.id_is_nonempty (sym eid ∙ id_is_empty)
          absurd_by_group_kind (inr some_groups) =
              let zero_lt_zero : 0 < 0 = rw no_groups at some_groups in
              absurd (omega arith)

      values : All (λ v. PassesArg p.built e.0.now v.now) e.1.vals.items
      values = elim pass.0 [
        | inl is_group ↦ absurd (no_group is_group)
        | inr values_pass ↦ values_pass
      ]

      nonempty : 0 < length e.1.vals.items
      nonempty = elim pass.1 [
        | inl group_entry ↦ absurd (no_group group_entry.0)
        | inr (inl has_values) ↦ has_values
        | inr (inr (inl counts)) ↦
            let counting = counts.1 in
            let rules_agree =
            same_rules counting.0 counting.1 counting.2 counting.3
            (has_same_id counting.1 counting.4.0) in
            let is_set : counting.1.action ≡ Some Set = rules_agree.action Set d.action in
            let absurd_equation : Set ≡ Count = rw is_set at counting.4.1 in
            cc
        | inr (inr (inr may_be_empty)) ↦
            let rules_agree =
            same_rules may_be_empty.0 may_be_empty.1 may_be_empty.2 may_be_empty.3
            (has_same_id may_be_empty.1 may_be_empty.4.0) in
            elim may_be_empty.4.1 [
              | inl none_needed ↦
                  let least_is_one = rules_agree.least d.action one_at_least in
                  absurd (omega arith)
              | inr has_delimiter ↦
                  let absurd_equation : false ≡ true =
                  rw (rules_agree.val_delim, (simple_leaves_out a d.simple).no_delimiter) at
                  has_delimiter in
                  cc
            ]
      ]

      reading : e.1.reading ≡ reading_of q
      reading = elim pass.4 [
        | inl is_group ↦ absurd (no_group is_group)
        | inr read_by ↦ sym read_by.4.1
            ∙ ap reading_of
            (parser_is read_by.1 (same_rules read_by.0 read_by.1 read_by.2 read_by.3
            (has_same_id read_by.1 read_by.4.0)))
      ]

      accepts : (t : Text) → PassesArg p.built e.0.now t → Accepts a.ignore_case q t
      accepts t passes =
          let rules_agree =
          same_rules passes.0 passes.1 passes.2 passes.3 (has_same_id passes.1 passes.4.0) in
          subst (λ (b : Bool). Accepts b q t) rules_agree.ignore_case
          (subst (λ (w : ValueParser). Accepts passes.1.ignore_case w t)
          (parser_is passes.1 rules_agree) passes.4.1)

      reads : matched_of (found_of m) id ≡ Some e.1 → IsReadWith id q a.ignore_case
      reads matched_is =
          let first_value_found =
          first_of_values_holds (λ v. PassesArg p.built e.0.now v.now)
          (reading_of q) e.1.vals.items values nonempty in
          record {
            text = first_value_found.0.now;
            text_is_read =
                first_text_is (found_of m) id e.1 (reading_of q) _ matched_is reading
                first_value_found.1;
            text_is_first = first_value_is (found_of m) id e.1 _ matched_is first_value_found.2;
            text_is_accepted = accepts first_value_found.0.now first_value_found.3;
          }

    pub default_is_read : IsReadWith id q a.ignore_case
    default_is_read =
        let wants_default : WantsDefault (slice_index_or (args_of c) k a) =
        subst WantsDefault (sym d.argument_is)
        ((simple_leaves_out a d.simple).no_default_ifs, d.default) in
        let has_id : HasId (found_of m) id =
        subst (HasId (found_of m)) id_at_index
        (default_present c m p globals k a d.index_lt_count wants_default) in
        reads_by_entry (find (λ e. bytes_eq e.0.now id) (found_of m).entries.items) refl
        (entry_is_found (found_of m).entries.items id has_id)
      where
        reads_by_entry : (o : Option Entry)
            → find (λ e. bytes_eq e.0.now id) (found_of m).entries.items ≡ o
            → is_some o ≡ true → IsReadWith id q a.ignore_case
        reads_by_entry None entry_is is_found = absurd (true≢false (sym is_found))
        reads_by_entry (Some x) entry_is is_found =
            let matched_is : matched_of (found_of m) id ≡ Some x.1 =
            ap (option_map (λ (y : Entry). y.1)) entry_is in
            let first_value_found =
            entry_by_id (EntryPasses p.built) (found_of m).entries.items id x.1
            (p.parsed (p.from.globals ∙ globals)).values matched_is in
            reads first_value_found.0
            ((bytes_eq-Decides first_value_found.0.0.now id).0 first_value_found.2)
            first_value_found.3
            (matched_is ∙ ap (λ (y : MatchedArg). Some y) (sym first_value_found.1))
