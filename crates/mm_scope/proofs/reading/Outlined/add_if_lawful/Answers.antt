use Rattle.std.proofs.Common.{rules, refl, None, ◌≡◌, ◌++◌, length, slice_range, sym}
use Rattle.std.proofs.Common.{take, ap, ◌∙◌, List, [], ◌∷◌, subst}
use Rattle.mm_lists.specs.Lists.{with_end}
use Rattle.mm_scope.specs.Formulas.{AreFormulas}
use Rattle.std.proofs.lemmas.List.{length-map}
use Rattle.mm_spec.specs.Scope.{depth, names_before}
use Rattle.mm_spec.specs.Statement.{symbols_of}
use Rattle.mm_spec.specs.Lawful.{least, scope_faults}
use Rattle.mm_outline.specs.Parts.{statement_of}
use Rattle.mm_outline.specs.Statements.{statements}
use Rattle.mm_spec.specs.Text.{Bytes}
use Rattle.mm_spec.specs.Frame.{first_occurrences}
use Rattle.mm_scope.specs.Formulas.{numbers_in}
use Rattle.mm_scope.specs.Scopes.{declared_words, names_in}
use Rattle.mm_database.specs.Names.{names_of}
use Rattle.mm_scope.proofs.KnowsLaw.{least_before_next}
use Rattle.mm_scope.proofs.NumberedLaw.{declared, formulas_with_statement}
use Rattle.mm_scope.proofs.NumberedLaw.{declared_names_are_symbol_names}
use Rattle.mm_scope.proofs.NumberingLaw.{first_and_range, length_of_first, numbers_are_formula}
use Rattle.mm_scope.proofs.NumberingLaw.{numbers_onward_before}
use Rattle.mm_scope.proofs.reading.Outlined.add_if_lawful.Goals as goal

pub fault-requires-clause-are_numbers : goal.fault-requires-clause-are_numbers
fault-requires-clause-are_numbers g c =
    let text = c.args.text.now in
    let ws = c.args.tokens.now in
    let s = statement_of text ws c.args.outline in
    numbers_onward_before (statements text ws c.args.self.now.outlines.items) s
    (names_in c.args.self.now.scope) (symbols_of s)
    (slice_range c.args.numbers.now c.args.first c.args.end)
    c.requires.is_read_so_far.names_are c.requires.are_numbers

pub add-requires-clause-are_numbers : goal.add-requires-clause-are_numbers
add-requires-clause-are_numbers g c =
    let text = c.args.text.now in
    let ws = c.args.tokens.now in
    let db = statements text ws c.args.self.now.outlines.items in
    let s = statement_of text ws c.args.outline in
    let are_numbers = c.requires.are_numbers in
    let names = first_occurrences [] (declared db ++ declared_words s) in (
      declared db,
      c.requires.is_read_so_far.names_are,
      (
        are_numbers.0,
        are_numbers.1 ∙ ap (λ (ns : List Bytes). numbers_in (ns ++ are_numbers.0) (symbols_of s))
            (sym (declared_names_are_symbol_names db s names refl)),
      ),
    )

pub returns-then-is_some-clause-is_read : goal.returns-then-is_some-clause-is_read
returns-then-is_some-clause-is_read g c =
    let text = c.args.text.now in
    let ws = c.args.tokens.now in
    let os = c.args.self.now.outlines.items in
    let s = statement_of text ws c.args.outline in
    let is_read_so_far = c.requires.is_read_so_far in
    record {
      fault =
          least_before_next (λ n. scope_faults n c.args.depth s) is_read_so_far.knows
          c.requires.may_take.few_statements c.in_ok-self.ensures
          ∙ ap (λ n. least (scope_faults (names_before (statements text ws os) n) c.args.depth s))
          (length-map os (statement_of text ws));
      if_lawful = search rules;
      if_unlawful = λ is_some. (refl, is_read_so_far);
    }

pub returns-clause-is_read : goal.returns-clause-is_read
returns-clause-is_read g c =
    let numbers = c.args.numbers.now in
    let text = c.args.text.now in
    let ws = c.args.tokens.now in
    let os = c.args.self.now.outlines.items in
    let db = statements text ws os in
    let s = statement_of text ws c.args.outline in
    let is_read_so_far = c.requires.is_read_so_far in
    let may_take = c.requires.may_take in
    let fault_is_least =
    least_before_next (λ n. scope_faults n c.args.depth s) is_read_so_far.knows
    may_take.few_statements c.in_ok-self.ensures in
    let names_are =
    declared_names_are_symbol_names db s (names_of c.add.new.self.names.symbols)
    (c.in_ok-add.ensures.names_are_declared (declared db) is_read_so_far.names_are) in
    record {
      fault =
          fault_is_least ∙ ap (λ n. least (scope_faults (names_before db n) c.args.depth s))
          (length-map os (statement_of text ws));
      if_lawful = λ is_none.
          let names = names_before db (length db) in
          let lawful_next : least (scope_faults names (depth db (length db)) s) ≡ None =
          rw (sym may_take.open_blocks_is_depth) (sym fault_is_least ∙ is_none) in (
            c.in_ok-push.ensures.items,
            record {
              knows =
                  c.in_ok-add.ensures.is_next_scope db is_read_so_far.knows
                  (lawful_next, may_take.closes_open_block);
              names_are = names_are;
              formulas =
                  rw c.in_ok-add_end.ensures
                  (subst (λ n. AreFormulas (db ++ s ∷ []) (take c.args.end numbers)
                  (with_end c.args.self.now.ends.items n))
                  (length_of_first numbers c.args.end c.requires.end_le_count)
                  (formulas_with_statement db may_take.lawful s (take c.args.first numbers)
                  c.args.self.now.ends.items is_read_so_far.formulas (take c.args.end numbers)
                  (first_and_range numbers c.args.first c.args.end c.requires.first_le_end
                  c.requires.end_le_count ∙ ap (λ list. take c.args.first numbers ++ list)
                  (numbers_are_formula db may_take.lawful s (sym lawful_next)
                  (slice_range numbers c.args.first c.args.end) c.requires.are_numbers))));
            },
          );
      if_unlawful = search rules;
    }
