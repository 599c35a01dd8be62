use Rattle.std.proofs.Common.{◌∙◌, ℕ, ◌≤◌, ◌&&◌, ◌||◌, List, length, ap, arith}
use Rattle.std.specs.List.{list_any}
use Rattle.mm_spec.specs.Derivation.{is_member}
use Rattle.mm_database.specs.DisjointIndex.{is_active_local}
use Rattle.mm_database.specs.Pairs.{has_pair}
use Rattle.mm_frame.specs.Together.{has_later, is_higher_variable_in_rows}
use Rattle.mm_frame.proofs.MandatoryPairsLaw.{pairs_are_mandatory_pairs}
use Rattle.mm_frame.proofs.HypothesesLaw.{variables_have_names}
use Rattle.mm_frame.proofs.SymbolFactsLaw.{wide_are_listed, higher_are_listed, rows_are_listed}
use Rattle.mm_frame.proofs.disjoint.list_pairs.Goals as goal

pub add_narrow-requires-clause-variables_lt_count :
    goal.add_narrow-requires-clause-variables_lt_count
add_narrow-requires-clause-variables_lt_count g c = λ k d k_lt_length.
    let lt_count =
    variables_have_names c.args.sources.now.statements.now.list c.args.assertion
    c.args.variables.now c.requires.are_mandatory k d k_lt_length in
    let count = c.requires.are_stamps.count in
    omega (arith, lt_count, count)

pub add_narrow-requires-clause-higher_are_disjoint_variables :
    goal.add_narrow-requires-clause-higher_are_disjoint_variables
add_narrow-requires-clause-higher_are_disjoint_variables g c = λ x y.
    let db = c.args.sources.now.statements.now.list in
    let assertion_lt_length = c.requires.assertion_lt_length in
    let k_le_length_db : c.args.assertion ≤ length db = omega (arith, assertion_lt_length) in
    rw c.blocks-blocks.ensures.blocks_are (higher_are_listed db
    c.args.sources.now.statements.now.blocks c.args.assertion c.args.variables.now
    c.args.disjoint_variables.now c.requires.are_disjoint_variables
    c.blocks-blocks.ensures.are_blocks k_le_length_db c.args.sources.now.disjoint_index.now.rows
    c.requires.are_sources.index_is.rows_are x y)

pub returns : goal.returns
returns g c =
    let db = c.args.sources.now.statements.now.list in
    let b = c.args.sources.now.statements.now.blocks in
    let k = c.args.assertion in
    let assertion_lt_length = c.requires.assertion_lt_length in
    let k_le_length_db : k ≤ length db = omega (arith, assertion_lt_length) in
    let index = c.args.sources.now.disjoint_index.now in
    let ps = index.by_symbol in
    let variables = c.args.variables.now in
    let listed = c.args.disjoint_variables.now in
    pairs_are_mandatory_pairs db b c.blocks-blocks.ensures.are_blocks k k_le_length_db index.rows
    c.requires.are_sources.index_is.rows_are ps
    c.requires.are_sources.index_is.members_are variables c.sort_and_dedup_pairs.new.pairs.items
    c.requires.are_mandatory
    (λ j y. c.sort_and_dedup_pairs.ensures.members_stay j y
    ∙ rw (← c.blocks-blocks.ensures.blocks_are) (c.in_ok-append_all_active_wide.ensures j y)
    ∙ ap (λ (xs : List (ℕ × ℕ)). has_pair xs j y
    || (is_member listed y && (has_pair ps y j && is_active_local b j k))) c.clear.ensures.items
    ∙ wide_are_listed db b k variables listed c.requires.are_disjoint_variables ps
    c.requires.are_sources.index_is.members_are j y)
    c.sort_and_dedup_pairs-2.new.pairs.items c.sort_and_dedup_pairs-2.ensures.rising (λ x y.
    c.sort_and_dedup_pairs-2.ensures.members_stay x y ∙ c.in_ok-add_pairs_by_statement.ensures x y
    ∙ ap (λ (hs : List (ℕ × ℕ)). has_pair c.add_narrow.new.pairs.items x y
    || list_any (λ p. has_later hs p x y) hs) c.deref.ensures.value
    ∙ ap (λ z. z || list_any (λ p. has_later c.sort_and_dedup_pairs.new.pairs.items p x y)
    c.sort_and_dedup_pairs.new.pairs.items)
    (rw (← c.blocks-blocks.ensures.blocks_are) (c.in_ok-add_narrow.ensures x y)
    ∙ ap (λ (xs : List (ℕ × ℕ)). has_pair xs x y
    || is_higher_variable_in_rows b index.rows listed k x y) c.clear-2.ensures.items
    ∙ rows_are_listed db b k variables listed c.requires.are_disjoint_variables
    c.blocks-blocks.ensures.are_blocks k_le_length_db index.rows
    c.requires.are_sources.index_is.rows_are x y))
