use Rattle.std.proofs.Common.{◌≡◌, ◌+◌, [], ◌∷◌, ◌++◌, drop, length, slice_index_or, sym, ap, ◌∙◌}
use Rattle.std.proofs.Common.{◌≤◌, subst, take}
use Rattle.std.proofs.Common.{arith}
use Rattle.std.proofs.lemmas.List.{map-append, length-map}
use Rattle.mm_spec.specs.Frame.{symbol_names}
use Rattle.mm_scope.specs.Formulas.{numbers_by}
use Rattle.mm_outline.specs.Parts.{statement_of}
use Rattle.mm_outline.specs.Parts.{outline as outline_with}
use Rattle.mm_outline.specs.declared.parts.Kind.TheVariants.{Constants}
use Rattle.mm_outline.specs.declared.parts.Outline.{Outline}
use Rattle.mm_outline.specs.Statements.{statements}
use Rattle.mm_scope.proofs.ReadLaw.{is_read_to_with_statement, read_unlawful, read_stopped}
use Rattle.mm_scope.proofs.ReadLaw.{read_ended, not_none_if_some, few_outlines, none_if_not_some}
use Rattle.mm_scope.proofs.ReadLaw.{closing_is_inside_block, nothing_is_read}
use Rattle.mm_scope.specs.Outlines.{IsRest}
use Rattle.mm_scope.proofs.OutlinesLaw.{next_outline, rest_is_left, first_by_length}
use Rattle.mm_scope.proofs.OutlinesLaw.{first_with_next}
use Rattle.mm_scope.proofs.NumberingLaw.{next_are_numbers, next_numbers_are, next_numbers_fit}
use Rattle.mm_scope.proofs.NumberingLaw.{first_and_range, length_of_first, numbers_left}
use Rattle.mm_scope.proofs.reading.read_outlines.Goals as goal

-- what an index finds that is too large
abbrev no_outline : Outline
no_outline = outline_with Constants 0 0 0

pub add_if_lawful-requires-clause-is_among_tokens :
    goal.add_if_lawful-requires-clause-is_among_tokens
add_if_lawful-requires-clause-is_among_tokens g c =
    let text = c.args.text.now in
    let ws = c.args.tokens.now in
    let loop = c.loop-outline in
    let items = c.args.outlines.now in
    let outline = slice_index_or items loop.outline-index no_outline in
    let next = next_outline text ws loop.depth loop.invariant.from items c.args.rest
    loop.outline-index loop.invariant.left no_outline c.loop-outline-test.true in
    record {
      words = c.requires.tokens_within;
      outline = next.0.0;
      end_lt_length = next.0.1.end_lt_count;
    }

pub loop-outline-init : goal.loop-outline-init
loop-outline-init g c =
    let text = c.args.text.now in
    let ws = c.args.tokens.now in
    record {
      from = 0;
      are_first = c.in_ok-read.ensures.0;
      reading = rw c.in_ok-read.ensures.0 (nothing_is_read text ws);
      left = c.requires.are_found;
      is_read_so_far = rw c.in_ok-read.ensures.0 c.in_ok-read.ensures.3;
      no_fault = c.in_ok-read.ensures.1;
      are_known = c.in_ok-read.ensures.2;
      first_le_count = omega arith;
      numbers_left = c.requires.are_numbers;
    }

pub add_if_lawful-requires-clause-end_le_count : goal.add_if_lawful-requires-clause-end_le_count
add_if_lawful-requires-clause-end_le_count g c =
    let text = c.args.text.now in
    let ws = c.args.tokens.now in
    let loop = c.loop-outline in
    let items = c.args.outlines.now in
    let numbers = c.args.numbers.items in
    let next = next_outline text ws loop.depth loop.invariant.from items c.args.rest
    loop.outline-index loop.invariant.left no_outline c.loop-outline-test.true in
    let fit = next_numbers_fit text ws items loop.outline-index no_outline
    c.loop-outline-test.true (take loop.first numbers) numbers loop.invariant.numbers_left
    c.symbol_count.result (c.symbol_count.ensures text ws next.0.1.end_lt_count) in
    let count = length_of_first numbers loop.first loop.invariant.first_le_count in
    rw c.deref.ensures.value (omega (arith, fit, count))

pub add_if_lawful-requires-clause-are_numbers : goal.add_if_lawful-requires-clause-are_numbers
add_if_lawful-requires-clause-are_numbers g c =
    let text = c.args.text.now in
    let ws = c.args.tokens.now in
    let loop = c.loop-outline in
    let items = c.args.outlines.now in
    let numbers = c.args.numbers.items in
    let i = loop.outline-index in
    let is_within = c.loop-outline-test.true in
    let next = next_outline text ws loop.depth loop.invariant.from items c.args.rest i
    loop.invariant.left no_outline is_within in
    let numbers_are = next_numbers_are text ws items i no_outline is_within
    (take loop.first numbers) numbers loop.invariant.numbers_left loop.first
    c.symbol_count.result
    (sym (length_of_first numbers loop.first loop.invariant.first_le_count))
    (c.symbol_count.ensures text ws next.0.1.end_lt_count) in
    let onward = next_are_numbers text ws items i no_outline is_within in
    rw (loop.invariant.are_first, c.deref.ensures.value) (onward.0, numbers_are ∙ onward.1)

pub add_if_lawful-requires-clause-may_take : goal.add_if_lawful-requires-clause-may_take
add_if_lawful-requires-clause-may_take g c =
    let text = c.args.text.now in
    let ws = c.args.tokens.now in
    let loop = c.loop-outline in
    let items = c.args.outlines.now in
    let outline = slice_index_or items loop.outline-index no_outline in
    let next = next_outline text ws loop.depth loop.invariant.from items c.args.rest
    loop.outline-index loop.invariant.left no_outline c.loop-outline-test.true in
    let db = statements text ws loop.read.outlines.items in
    let s = statement_of text ws outline in
    let is_read_to = loop.invariant.reading in
    let tokens_lt_2_31 = c.requires.few_tokens in
    record {
      lawful = is_read_to.lawful;
      few_statements =
          omega (arith, is_read_to.length_db_le_index, is_read_to.index_le_length, tokens_lt_2_31);
      open_blocks_is_depth = is_read_to.open_blocks_is_depth;
      closes_open_block = closing_is_inside_block is_read_to next.0.1.leads;
    }

pub returns-then-is_some-clause-few_outlines : goal.returns-then-is_some-clause-few_outlines
returns-then-is_some-clause-few_outlines g c =
    let loop = c.loop-outline in
    let few_before = few_outlines loop.read.outlines.items loop.invariant.reading
    c.requires.few_tokens in
    let outlines_length =
    ap length
    (c.in_ok-add_if_lawful.ensures.is_read.if_unlawful
    (not_none_if_some (sym c.is_some.ensures ∙ c.if-is_some.true))).0 in
    rw c.with_symbols.ensures.outlines_stay (omega (arith, few_before, outlines_length))

pub returns-then-is_some-clause-are_first : goal.returns-then-is_some-clause-are_first
returns-then-is_some-clause-are_first g c =
    let unchanged_if_unlawful =
    c.in_ok-add_if_lawful.ensures.is_read.if_unlawful
    (not_none_if_some (sym c.is_some.ensures ∙ c.if-is_some.true)) in
    rw (c.with_symbols.ensures.outlines_stay, unchanged_if_unlawful.0)
    (first_by_length c.loop-outline.read.outlines.items c.args.outlines.now
    c.loop-outline.outline-index c.loop-outline.invariant.are_first)

pub returns-then-is_some-clause-is_read_so_far : goal.returns-then-is_some-clause-is_read_so_far
returns-then-is_some-clause-is_read_so_far g c =
    let unchanged_if_unlawful =
    c.in_ok-add_if_lawful.ensures.is_read.if_unlawful
    (not_none_if_some (sym c.is_some.ensures ∙ c.if-is_some.true)) in
    rw (
      c.with_symbols.ensures.is_read,
      c.with_symbols.ensures.outlines_stay,
      unchanged_if_unlawful.0,
      sym c.deref.ensures.value,
    ) unchanged_if_unlawful.1

pub returns-then-is_some-clause-fault_is_read : goal.returns-then-is_some-clause-fault_is_read
returns-then-is_some-clause-fault_is_read g c =
    let text = c.args.text.now in
    let ws = c.args.tokens.now in
    let loop = c.loop-outline in
    let items = c.args.outlines.now in
    let outline = slice_index_or items loop.outline-index no_outline in
    let next = next_outline text ws loop.depth loop.invariant.from items c.args.rest
    loop.outline-index loop.invariant.left no_outline c.loop-outline-test.true in
    let os = loop.read.outlines.items in
    let fault_is_some = not_none_if_some (sym c.is_some.ensures ∙ c.if-is_some.true) in
    rw (
      c.with_symbols.ensures.outlines_stay,
      c.with_symbols.ensures.fault_stays,
      (c.in_ok-add_if_lawful.ensures.is_read.if_unlawful fault_is_some).0,
    )
    (read_unlawful c.loop-outline.invariant.reading next.0.1.leads
    c.add_if_lawful.new.self.fault fault_is_some
    (rw (length-map os (statement_of text ws))
    c.in_ok-add_if_lawful.ensures.is_read.fault))

pub loop-outline-preserved : goal.loop-outline-preserved
loop-outline-preserved g c =
    let text = c.args.text.now in
    let ws = c.args.tokens.now in
    let loop = c.loop-outline in
    let items = c.args.outlines.now in
    let outline = slice_index_or items loop.outline-index no_outline in
    let next = next_outline text ws loop.depth loop.invariant.from items c.args.rest
    loop.outline-index loop.invariant.left no_outline c.loop-outline-test.true in
    let os = loop.read.outlines.items in
    let none_is_fault = none_if_not_some (sym c.is_some.ensures ∙ c.if-is_some.false) in
    let taken_if_lawful = c.in_ok-add_if_lawful.ensures.is_read.if_lawful (sym none_is_fault) in
    let numbers = c.args.numbers.items in
    let count = length_of_first numbers loop.first loop.invariant.first_le_count in
    let symbol_count_is = c.symbol_count.ensures text ws next.0.1.end_lt_count in
    let numbers_are = next_numbers_are text ws items loop.outline-index no_outline
    c.loop-outline-test.true (take loop.first numbers) numbers loop.invariant.numbers_left
    loop.first c.symbol_count.result (sym count) symbol_count_is in
    let fit = next_numbers_fit text ws items loop.outline-index no_outline
    c.loop-outline-test.true (take loop.first numbers) numbers loop.invariant.numbers_left
    c.symbol_count.result symbol_count_is in
    let end_le : loop.first + c.symbol_count.result ≤ length numbers = omega (arith, fit, count) in
    let statement_is_added : statements text ws (os ++ outline ∷ [])
    ≡ statements text ws os ++ statement_of text ws outline ∷ [] =
    map-append (statement_of text ws) os (outline ∷ []) in
    record {
      from = outline.end + 1;
      left = rw c.depth_after-depth.ensures next.1;
      are_first = taken_if_lawful.0
          ∙ first_with_next items loop.outline-index no_outline loop.invariant.are_first
          c.loop-outline-test.true;
      reading =
          rw (taken_if_lawful.0, statement_is_added, c.depth_after-depth.ensures)
          (is_read_to_with_statement loop.invariant.reading c.requires.few_tokens
          loop.invariant.is_read_so_far.knows.blocks outline.kind outline.keyword outline.middle
          outline.end next.0.1.from_le_end next.0.1.end_lt_count
          next.0.1.leads
          (none_is_fault ∙ rw (length-map os (statement_of text ws))
          c.in_ok-add_if_lawful.ensures.is_read.fault));
      is_read_so_far =
          rw (taken_if_lawful.0, statement_is_added, sym c.deref.ensures.value)
          taken_if_lawful.1;
      no_fault = sym none_is_fault;
      are_known = c.in_ok-add_if_lawful.ensures.are_known;
      first_le_count = end_le;
      numbers_left =
          numbers_left text ws items loop.outline-index no_outline c.loop-outline-test.true
          (take loop.first numbers) numbers loop.invariant.numbers_left
          ∙ ap (λ list. list ++ numbers_by (symbol_names (statements text ws items))
          (statements text ws (drop (loop.outline-index + 1) items)))
          (sym (first_and_range numbers loop.first (loop.first + c.symbol_count.result)
          (omega arith) end_le ∙ ap (λ list. take loop.first numbers ++ list) numbers_are));
    }

pub returns-in-Stopped-clause-few_outlines : goal.returns-in-Stopped-clause-few_outlines
returns-in-Stopped-clause-few_outlines g c =
    rw c.with_symbols-in-Stopped.ensures.outlines_stay
    (few_outlines c.loop-outline.read.outlines.items c.loop-outline.invariant.reading
    c.requires.few_tokens)

pub returns-in-Stopped-clause-are_first : goal.returns-in-Stopped-clause-are_first
returns-in-Stopped-clause-are_first g c =
    rw c.with_symbols-in-Stopped.ensures.outlines_stay
    (first_by_length c.loop-outline.read.outlines.items c.args.outlines.now
    c.loop-outline.outline-index c.loop-outline.invariant.are_first)

pub returns-in-Stopped-clause-is_read_so_far : goal.returns-in-Stopped-clause-is_read_so_far
returns-in-Stopped-clause-is_read_so_far g c =
    rw (
      c.with_symbols-in-Stopped.ensures.is_read,
      c.with_symbols-in-Stopped.ensures.outlines_stay,
    ) c.loop-outline.invariant.is_read_so_far

pub returns-in-Ended-clause-few_outlines : goal.returns-in-Ended-clause-few_outlines
returns-in-Ended-clause-few_outlines g c =
    rw c.with_symbols-in-Ended.ensures.outlines_stay
    (few_outlines c.loop-outline.read.outlines.items c.loop-outline.invariant.reading
    c.requires.few_tokens)

pub returns-in-Ended-clause-are_first : goal.returns-in-Ended-clause-are_first
returns-in-Ended-clause-are_first g c =
    rw c.with_symbols-in-Ended.ensures.outlines_stay
    (first_by_length c.loop-outline.read.outlines.items c.args.outlines.now
    c.loop-outline.outline-index c.loop-outline.invariant.are_first)

pub returns-in-Ended-clause-is_read_so_far : goal.returns-in-Ended-clause-is_read_so_far
returns-in-Ended-clause-is_read_so_far g c =
    rw (
      c.with_symbols-in-Ended.ensures.is_read,
      c.with_symbols-in-Ended.ensures.outlines_stay,
    ) c.loop-outline.invariant.is_read_so_far

pub returns-in-Stopped-clause-fault_is_read : goal.returns-in-Stopped-clause-fault_is_read
returns-in-Stopped-clause-fault_is_read g c =
    let loop = c.loop-outline in
    let text = c.args.text.now in
    let ws = c.args.tokens.now in
    let stopped = subst (IsRest text ws loop.depth loop.invariant.from) c.in-Stopped.is
    (rest_is_left text ws loop.depth loop.invariant.from c.args.outlines.now
    c.args.rest loop.outline-index loop.invariant.left c.loop-outline-test.false) in
    rw (
      c.with_symbols-in-Stopped.ensures.outlines_stay,
      c.with_symbols-in-Stopped.ensures.fault_stays,
    ) (read_stopped loop.invariant.reading c.in-Stopped.fault stopped.0 stopped.1)

pub returns-in-Ended-clause-fault_is_read : goal.returns-in-Ended-clause-fault_is_read
returns-in-Ended-clause-fault_is_read g c =
    let loop = c.loop-outline in
    let text = c.args.text.now in
    let ws = c.args.tokens.now in
    let ended = subst (IsRest text ws loop.depth loop.invariant.from) c.in-Ended.is
    (rest_is_left text ws loop.depth loop.invariant.from c.args.outlines.now
    c.args.rest loop.outline-index loop.invariant.left c.loop-outline-test.false) in
    rw (
      c.with_symbols-in-Ended.ensures.outlines_stay,
      c.with_symbols-in-Ended.ensures.fault_stays,
    )
    (read_ended loop.invariant.reading c.in-Ended.part ended.0 ended.1 ended.2
    c.end_fault-read.result c.end_fault-read.ensures)
