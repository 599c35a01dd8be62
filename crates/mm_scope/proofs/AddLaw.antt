-- What the code knows after one lawful statement more.
use Rattle.std.proofs.Common.{rules, arith, subst, Result, OnOk, ◌≡◌, ℕ, ◌<◌, Bool, true, false}
use Rattle.std.proofs.Common.{◌||◌, not, List, [], ◌∷◌, ◌++◌, length, take, flat_map, bytes_eq}
use Rattle.std.proofs.Common.{Option, None, Some, is_some, refl, sym, ap, ◌∙◌, le_refl, take_all}
use Rattle.std.proofs.Common.{append-nil, true≢false, if◌then◌else◌}
use Rattle.std.proofs.lemmas.Grind.{common_steps}
use Rattle.std.proofs.lemmas.Slice.Eq.{bytes_eq-Decides}
use Rattle.std.specs.List.{list_any}
use Rattle.mm_spec.specs.Text.{Bytes, Token, is_in, words}
use Rattle.mm_spec.specs.Statement.{Statement, constants, variables, floating, is_closing, label_of}
use Rattle.mm_spec.specs.Scope.{Names, names_before, depth, active_statements, variables_of}
use Rattle.mm_spec.specs.Scope.{constants_of, label_words, typings_of}
use Rattle.mm_spec.specs.Lawful.{least, scope_faults, faults_at_each, constant_codes}
use Rattle.mm_spec.specs.Lawful.{variable_codes, label_faults, floating_faults}
use Rattle.mm_spec.specs.declared.Word as spec
use Rattle.std.proofs.Math.Bool.{or-false, or-true}
use Rattle.mm_spec.proofs.FaultlessLaw.{both_are_empty, no_least_no_faults}
use Rattle.mm_outline.specs.Blocks.{BlockLists, IsBlocks, never, pushed}
use Rattle.mm_scope.specs.WordEntry.{WordEntry, entry_of, declared_entry, typed_entry, IsEntryOf}
use Rattle.mm_scope.specs.WordEntry.{gives_other_typecode, is_constant_entry, entry_after}
use Rattle.mm_scope.specs.WordEntry.{label_after}
use Rattle.mm_outline.specs.Parts.{statement_between}
use Rattle.mm_scope.specs.ReadSoFar.{KnowsStatements}
use Rattle.mm_database.specs.declared.names.SymbolEntry.{SymbolEntry}
use Rattle.mm_outline.specs.declared.parts.Kind.{Kind}
use Rattle.mm_outline.specs.declared.parts.Kind.TheVariants as kind
use Rattle.mm_outline.proofs.BlocksLaw.{blocks_after_other, blocks_after_opening}
use Rattle.mm_outline.proofs.BlocksLaw.{blocks_after_closing}
use Rattle.mm_scope.proofs.JudgeLaw.{bytes_eq_sym}
use Rattle.mm_outline.proofs.FaultlessLaw.{faultless_constant_is_new, faultless_floating_is_new}
use Rattle.mm_outline.proofs.FaultlessLaw.{faultless_variable_is_new}
use Rattle.mm_scope.proofs.KnowsLaw.{no_active_statement_has_word}
use Rattle.mm_outline.proofs.ActiveWordsLaw.{typed_word_is_typing}
use Rattle.mm_scope.proofs.LabelsLaw.{labels_after_statement, label_stands_for_nothing}
use Rattle.mm_scope.proofs.WordEntryLaw.{entry_is_unchanged, entry_of_new_constant}
use Rattle.mm_scope.proofs.WordEntryLaw.{entry_of_new_variable, entry_of_typed_variable}
use Rattle.mm_scope.proofs.WordEntryLaw.{in_flat_map_push}

module _ (db : List Statement) (db_lt_never : length db < never) (w : Bytes) where
  abbrev n : Names
  n = names_before db (length db)

  -- all statements are taken
  take_length_is_db : take (length db) db ≡ db
  take_length_is_db = take_all (length db) db (le_refl (length db))

  -- a word that is not declared yet has no entry, or that of a variable
  no_constant_entry : {x : Option WordEntry} → IsEntryOf db w x → is_in w n.constants ≡ false
      → is_constant_entry x ≡ false
  no_constant_entry x_is_entry w_is_no_constant =
      sym x_is_entry.constant_is_known
      ∙ sym (ap (λ xs. is_in w (flat_map constants_of xs)) take_length_is_db) ∙ w_is_no_constant

  -- nothing is in the empty list behind a list
  in_append_nil : (xs : List Bytes) {b : Bool} → is_in w xs ≡ b → is_in w (xs ++ []) ≡ b
  in_append_nil xs in_xs_is_b = rw (append-nil xs) in_xs_is_b

  -- the entry of a word after a `$c`
  entry_after_constants : (k : ℕ) (xs : List Token) (e : ℕ) (x : Option WordEntry)
      → IsEntryOf db w x
      → faults_at_each (constant_codes n) [] xs ≡ []
      → IsEntryOf (db ++ constants k xs e ∷ []) w (entry_after (length db) (constants k xs e) w x)
  entry_after_constants k xs e x x_is_entry no_fault =
      is_entry x (is_in w (words xs)) x_is_entry refl
    where
      is_entry : (x : Option WordEntry) (b : Bool) → IsEntryOf db w x → is_in w (words xs) ≡ b
          → IsEntryOf (db ++ constants k xs e ∷ []) w
          (if b then declared_entry false (length db) w x else x)
      is_entry x false x_is_entry w_in_xs =
          entry_is_unchanged db (constants k xs e) w x x_is_entry
          (in_append_nil (words xs) w_in_xs) refl
          refl
      is_entry None true x_is_entry w_in_xs =
          entry_of_new_constant db (constants k xs e) w x_is_entry
          (in_append_nil (words xs) w_in_xs) refl refl (length db)
      is_entry (Some o) true x_is_entry w_in_xs =
          let undeclared = faultless_constant_is_new n xs no_fault w w_in_xs in
          let is_no_constant = no_constant_entry x_is_entry undeclared.0 in
          let is_no_variable = sym x_is_entry.variable_is_known
          ∙ sym (ap (λ xs. is_in w (flat_map variables_of xs)) take_length_is_db)
          ∙ undeclared.1 in
          absurd (true≢false (sym (ap not is_no_variable) ∙ is_no_constant))

  -- the entry of a word after a `$v`
  entry_after_variables : (k : ℕ) (xs : List Token) (e : ℕ) (x : Option WordEntry)
      → IsEntryOf db w x
      → faults_at_each (variable_codes n) [] xs ≡ []
      → IsEntryOf (db ++ variables k xs e ∷ []) w (entry_after (length db) (variables k xs e) w x)
  entry_after_variables k xs e x x_is_entry no_fault = is_entry (is_in w (words xs)) refl
    where
      is_entry : (b : Bool) → is_in w (words xs) ≡ b
          → IsEntryOf (db ++ variables k xs e ∷ []) w
          (if b then declared_entry true (length db) w x else x)
      is_entry false w_in_xs =
          entry_is_unchanged db (variables k xs e) w x x_is_entry refl
          (in_append_nil (words xs) w_in_xs) refl
      is_entry true w_in_xs =
          let undeclared = faultless_variable_is_new n xs no_fault w w_in_xs in
          entry_of_new_variable db (variables k xs e) w x x_is_entry
          (no_constant_entry x_is_entry undeclared.0) undeclared.1 refl
          (in_append_nil (words xs) w_in_xs) refl

  -- the entry of a word after a `$f`
  entry_after_floating : (l : Token) (k : ℕ) (c v : Token) (e : ℕ) (x : Option WordEntry)
      → IsEntryOf db w x → floating_faults n k (c ∷ v ∷ []) ≡ []
      → IsEntryOf (db ++ floating l k (c ∷ v ∷ []) e ∷ []) w
      (entry_after (length db) (floating l k (c ∷ v ∷ []) e) w x)
  entry_after_floating l k c v e x x_is_entry no_fault =
      is_entry x (bytes_eq v.word w) x_is_entry refl
    where
      is_entry : (x : Option WordEntry) (b : Bool) → IsEntryOf db w x → bytes_eq v.word w ≡ b
          → IsEntryOf (db ++ floating l k (c ∷ v ∷ []) e ∷ []) w
          (if b then typed_entry (length db) c.word x else x)
      is_entry x false x_is_entry v_eq_w =
          entry_is_unchanged db (floating l k (c ∷ v ∷ []) e) w x x_is_entry refl refl
          (ap (λ b. b || false) (bytes_eq_sym w v.word ∙ v_eq_w))
      is_entry None true x_is_entry v_eq_w =
          absurd (true≢false
          (sym (faultless_floating_is_new n k c v no_fault).0
          ∙ ap (λ u. is_in u n.active_variables) ((bytes_eq-Decides v.word w).0 v_eq_w)
          ∙ no_active_statement_has_word db variables_of w x_is_entry.variable_is_known))
      is_entry (Some o) true x_is_entry v_eq_w =
          let v_is_w = (bytes_eq-Decides v.word w).0 v_eq_w in
          let untyped = faultless_floating_is_new n k c v no_fault in
          entry_of_typed_variable db (floating l k (c ∷ v ∷ []) e) w o x_is_entry db_lt_never c.word
          (sym (typed_word_is_typing w (active_statements db (length db)))
          ∙ ap (λ u. list_any (λ t. bytes_eq u t.variable) n.active_typings) (sym v_is_w)
          ∙ untyped.1)
          (sym (ap (λ xs. list_any (gives_other_typecode c.word w) (flat_map typings_of xs))
          take_length_is_db)
          ∙ ap (λ u. list_any (gives_other_typecode c.word u) n.all_typings) (sym v_is_w)
          ∙ untyped.2)
          refl refl (ap (λ u. record { typecode = c.word; variable = u } ∷ []) v_is_w)

  -- what is known of the word after a lawful statement
  pub entry_after_statement : (s : Statement) (d : ℕ) (x : Option WordEntry) → IsEntryOf db w x
      → scope_faults n d s ≡ [] → IsEntryOf (db ++ s ∷ []) w (entry_after (length db) s w x)
  entry_after_statement (constants k xs e) d x x_is_entry no_fault =
      entry_after_constants k xs e x x_is_entry (both_are_empty _ _ no_fault).1
  entry_after_statement (variables k xs e) d x x_is_entry no_fault =
      entry_after_variables k xs e x x_is_entry (both_are_empty _ _ no_fault).1
  entry_after_statement (floating l k (c ∷ v ∷ []) e) d x x_is_entry no_fault =
      entry_after_floating l k c v e x x_is_entry
      (both_are_empty _ _ no_fault).1
  entry_after_statement (floating l k xs e) d x x_is_entry no_fault =
      absurd (let floating_has_no_fault =
      (both_are_empty (label_faults n l) (floating_faults n k xs) no_fault).1 in cc)
  entry_after_statement s d x x_is_entry no_fault =
      entry_is_unchanged db s w x x_is_entry refl refl refl

  -- whether it is a label after the statement
  pub is_label_after_statement : (s : Statement) (m : ℕ) (o : Option ℕ)
      → is_in w (flat_map label_words db) ≡ is_some o
      → is_in w (flat_map label_words (db ++ s ∷ [])) ≡ is_some (label_after m (label_of s) w o)
  is_label_after_statement s m o is_label_before =
      rw (in_flat_map_push db s w label_words, is_label_before) (is_label_after (label_of s))
    where
      tests_agree : (l : Token) (b : Bool)
          → (is_some o || (b || false)) ≡ is_some (if b then Some m else o)
      tests_agree l true = or-true (is_some o)
      tests_agree l false = or-false (is_some o)

      is_label_after : (q : Option Token)
          → (is_some o || is_in w (elim q [ None ↦ [] | Some l ↦ l.word ∷ [] ] ++ []))
          ≡ is_some (label_after m q w o)
      is_label_after None = or-false (is_some o)
      is_label_after (Some l) =
          tests_agree l (bytes_eq w l.word)
          ∙ ap (λ b. is_some (if b then Some m else o)) (bytes_eq_sym w l.word)

-- the blocks after a statement
blocks_after : (text : List ℕ) (ws : List spec.Word) (db : List Statement) (b : BlockLists)
    → IsBlocks db b → length db < never → (k : Kind) (p m e : ℕ)
    → (is_closing (statement_between text ws k p m e) ≡ true → 0 < depth db (length db))
    → IsBlocks (db ++ statement_between text ws k p m e ∷ []) (pushed k b)
blocks_after text ws db b are_blocks db_lt_never kind.Open p m e closed_block_was_open =
    grind (arith, common_steps, blocks_after_opening)
blocks_after text ws db b are_blocks db_lt_never kind.Close p m e closed_block_was_open =
    grind (arith, common_steps, blocks_after_closing)
blocks_after text ws db b are_blocks db_lt_never k p m e closed_block_was_open =
    blocks_after_other db (statement_between text ws k p m e) b are_blocks db_lt_never refl refl

-- the code knows what it has to know after one lawful statement more
pub knows_after_statement : (text : List ℕ) (ws : List spec.Word) {db : List Statement}
    {look : List ℕ → Option SymbolEntry} {labels : List ℕ → Option ℕ} {b : BlockLists}
    → KnowsStatements db look labels b → length db < never → (k : Kind) (p m e : ℕ)
    → least (scope_faults (names_before db (length db)) (depth db (length db))
    (statement_between text ws k p m e))
    ≡ None
    → (is_closing (statement_between text ws k p m e) ≡ true → 0 < depth db (length db))
    → {c : BlockLists} → c ≡ pushed k b → {statement : ℕ} → statement ≡ length b.block_of
    → (new : List ℕ → Option SymbolEntry)
    → ((w : List ℕ)
    → entry_of (new w) ≡ entry_after statement (statement_between text ws k p m e) w
    (entry_of (look w)))
    → (new_labels : List ℕ → Option ℕ)
    → ((w : List ℕ)
    → new_labels w ≡ label_after statement (label_of (statement_between text ws k p m e)) w (labels
    w))
    → KnowsStatements (db ++ statement_between text ws k p m e ∷ []) new new_labels c
knows_after_statement text ws {db = db} {look = look} {labels = labels} {b = b} knows db_lt_never k
    p m e no_fault closes_open_block c_is_pushed statement_is_length new entries_after new_labels
    labels_after =
    let s = statement_between text ws k p m e in
    let d = depth db (length db) in
    let statement_is_db_length = statement_is_length ∙ knows.blocks.count in
    let no_faults = no_least_no_faults (scope_faults (names_before db (length db)) d s) no_fault in
    record {
      blocks = rw c_is_pushed
          (blocks_after text ws db b knows.blocks db_lt_never k p m e closes_open_block);
      symbols =
          λ w. subst (IsEntryOf (db ++ s ∷ []) w)
          (search (rules, arith))
          (entry_after_statement db db_lt_never w s d (entry_of (look w)) (knows.symbols w)
          no_faults);
      labels_known = λ w. rw (labels_after w)
          (is_label_after_statement db db_lt_never w s _ (labels w) (knows.labels_known w));
      labels_are =
          labels_after_statement db s labels new_labels knows.labels_are
          (search (rules, arith))
          (label_stands_for_nothing db labels knows.labels_known d s no_faults);
    }

-- two clauses of one result
pub on_ok_both : {T E P Q R : Type 0} (r : Result T E) → OnOk r P → OnOk r Q → (P → Q → R)
    → OnOk r R
on_ok_both r h1 h2 h3 = grind (arith, common_steps)
