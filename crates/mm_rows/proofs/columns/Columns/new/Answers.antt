use Rattle.std.proofs.Common.{cond, ◌≡◌, ◌∙◌, ℕ, Bool, ◌+◌, ◌<◌, ◌++◌, ◌∷◌, [], true, false, List}
use Rattle.std.proofs.Common.{None, length, take, get_or, sym, ap, subst, arith, append-nil}
use Rattle.std.specs.Option.{option_map}
use Rattle.std.specs.List.{list_any, range_with_len, filter}
use Rattle.std.proofs.lemmas.List.{take_all, take_more}
use Rattle.std.proofs.lemmas.List.Elements.{filter-append}
use Rattle.mm_spec.specs.Scope.{statement_at}
use Rattle.mm_spec.specs.Assertion.{has_typecode}
use Rattle.mm_spec.specs.Output.{columns, is_column}
use Rattle.mm_cites.specs.Citing.{IsStatementList}
use Rattle.mm_cites.proofs.RisingLaw.{filtered_passes, filtered_range_is_statement_list}
use Rattle.mm_rows.proofs.ColumnLaw.{axiom_is_assertion, columns_are_chosen_axioms}
use Rattle.mm_rows.proofs.columns.Columns.new.Goals as goal
use Rattle.mm_rows.proofs.columns.Columns.new.Goals.{then-has_chosen_typecode+in_ok-push}
use Rattle.mm_rows.proofs.columns.Columns.new.Goals.{else-has_chosen_typecode}

pub has_chosen_typecode-requires : goal.has_chosen_typecode-requires
has_chosen_typecode-requires g c =
    let db = c.args.database.now.statements in
    let is_axiom = λ (j : ℕ). list_any (is_column None) (statement_at db j) in
    let i = c.loop-statement.statement-index in
    let i_lt_axioms : i < length c.axioms-axioms.result.now = omega arith in
    axiom_is_assertion db (get_or c.axioms-axioms.result.now i 0)
    (subst (λ (l : List ℕ). list_any (is_column None) (statement_at db (get_or l i 0)) ≡ true)
    (sym c.axioms-axioms.ensures.axioms)
    (filtered_passes is_axiom (range_with_len 0 (length db)) i 0
    (subst (λ (l : List ℕ). i < length l) c.axioms-axioms.ensures.axioms i_lt_axioms)))

pub loop-statement-preserved : goal.loop-statement-preserved
loop-statement-preserved g c =
    let db = c.args.database.now.statements in
    let is_chosen =
    λ (j : ℕ). list_any (has_typecode (option_map (λ w. w.now) c.args.only)) (statement_at db j) in
    let axioms = c.axioms-axioms.result.now in
    let i = c.loop-statement.statement-index in
    let x = get_or axioms i 0 in
    let one_more_is_taken : filter is_chosen (take (i + 1) axioms)
    ≡ filter is_chosen (take i axioms) ++ cond (is_chosen x) (x ∷ []) [] =
    ap (filter is_chosen) (take_more axioms i 0 (omega arith))
    ∙ filter-append is_chosen (take i axioms) (x ∷ []) in
    elim c.if-has_chosen_typecode.branch [
      | then-has_chosen_typecode+in_ok-push w ↦
          let x_is_chosen : is_chosen x ≡ true =
          sym c.has_chosen_typecode.ensures ∙ w.if-has_chosen_typecode.true in
          ap (λ v. v.items) w.statements-is ∙ w.in_ok-push.ensures.items
          ∙ ap (λ l. l ++ x ∷ []) c.loop-statement.invariant
          ∙ sym (one_more_is_taken
          ∙ ap (λ (b : Bool). filter is_chosen (take i axioms) ++ cond b (x ∷ []) []) x_is_chosen)
      | else-has_chosen_typecode w ↦
          let x_is_not_chosen : is_chosen x ≡ false =
          sym c.has_chosen_typecode.ensures ∙ w.if-has_chosen_typecode.false in
          ap (λ v. v.items) w.statements-is ∙ c.loop-statement.invariant
          ∙ sym (one_more_is_taken
          ∙ ap (λ (b : Bool). filter is_chosen (take i axioms) ++ cond b (x ∷ []) [])
          x_is_not_chosen
          ∙ append-nil (filter is_chosen (take i axioms)))
    ]

pub invariant_of-result : goal.invariant_of-result
invariant_of-result g c =
    let db = c.args.database.now.statements in
    let only = option_map (λ w. w.now) c.args.only in
    let is_chosen = λ (j : ℕ). list_any (has_typecode only) (statement_at db j) in
    let axioms = c.axioms-axioms.result.now in
    let taken_are_all : take c.loop-statement.statement-index axioms ≡ axioms =
    take_all c.loop-statement.statement-index axioms (omega arith) in
    let statements_are_columns : c.loop-statement.statements.items ≡ columns db only =
    c.loop-statement.invariant
    ∙ ap (filter is_chosen) (taken_are_all ∙ c.axioms-axioms.ensures.axioms)
    ∙ columns_are_chosen_axioms only db in
    subst IsStatementList (sym statements_are_columns)
    (filtered_range_is_statement_list (λ j. list_any (is_column only) (statement_at db j))
    (length db) c.axioms-axioms.ensures.few_statements)

pub returns : goal.returns
returns g c =
    let db = c.args.database.now.statements in
    let only = option_map (λ w. w.now) c.args.only in
    let is_chosen = λ (j : ℕ). list_any (has_typecode only) (statement_at db j) in
    let axioms = c.axioms-axioms.result.now in
    let taken_are_all : take c.loop-statement.statement-index axioms ≡ axioms =
    take_all c.loop-statement.statement-index axioms (omega arith) in
    c.loop-statement.invariant
    ∙ ap (filter is_chosen) (taken_are_all ∙ c.axioms-axioms.ensures.axioms)
    ∙ columns_are_chosen_axioms only db
