use Rattle.std.proofs.Common.{◌≡◌, length, ap, sym, ◌∙◌, arith}
use Rattle.mm_database.specs.Frames.{frames_between}
use Rattle.mm_frame.proofs.FramesLaw.{no_frames_at_start, frames_with_statement, frame_count}
use Rattle.mm_frame.proofs.frames.frames_between.Goals as goal

pub symbol_facts_before-requires-clause-at_le_length :
    goal.symbol_facts_before-requires-clause-at_le_length
symbol_facts_before-requires-clause-at_le_length g c =
    let from_le_to = c.requires.from_le_to in
    let to_le_length = c.requires.to_le_length in omega (arith, from_le_to, to_le_length)

pub loop-statement-init : goal.loop-statement-init
loop-statement-init g c = record {
  facts = c.in_ok-facts.ensures;
  ready =
      c.in_ok-scratch.ensures c.args.sources.now.statements.now.list c.args.from
      (sym c.symbol_count.ensures.count_is);
  from_le_statement = omega arith;
  frames =
      c.none-frames.ensures
      ∙ no_frames_at_start c.args.sources.now.statements.now.list c.args.from;
}

pub loop-statement-preserved : goal.loop-statement-preserved
loop-statement-preserved g c = record {
  facts = c.add_symbol_facts.ensures;
  ready = c.in_ok-add_frame.ensures.is_ready;
  from_le_statement =
      (let from_le_statement = c.loop-statement.invariant.from_le_statement in
      omega (arith, from_le_statement));
  frames =
      frames_with_statement c.args.sources.now.statements.now.list c.args.from
      c.loop-statement.statement _ _ c.loop-statement.invariant.from_le_statement
      c.loop-statement.invariant.frames c.in_ok-add_frame.ensures.frame_is_added;
}

pub add_frame-requires-clause-statement_lt_length :
    goal.add_frame-requires-clause-statement_lt_length
add_frame-requires-clause-statement_lt_length g c =
    let statement_lt_end = c.loop-statement-test.true in
    let end_is_to = c.loop-statement.auto.statement-end in
    let to_le_length = c.requires.to_le_length in
    omega (arith, statement_lt_end, end_is_to, to_le_length)

pub add_frame-requires-clause-few_frames : goal.add_frame-requires-clause-few_frames
add_frame-requires-clause-few_frames g c =
    let count =
    ap length c.loop-statement.invariant.frames
    ∙ frame_count c.args.sources.now.statements.now.list c.args.from c.loop-statement.statement in
    let few_statements = c.requires.are_sources.sound.few_statements in
    let statement_lt_end = c.loop-statement-test.true in
    let end_is_to = c.loop-statement.auto.statement-end in
    let to_le_length = c.requires.to_le_length in
    omega (arith, count, few_statements, statement_lt_end, end_is_to, to_le_length)

pub add_symbol_facts-requires-clause-statement_lt_length :
    goal.add_symbol_facts-requires-clause-statement_lt_length
add_symbol_facts-requires-clause-statement_lt_length g c =
    let statement_lt_end = c.loop-statement-test.true in
    let end_is_to = c.loop-statement.auto.statement-end in
    let to_le_length = c.requires.to_le_length in
    omega (arith, statement_lt_end, end_is_to, to_le_length)

pub returns : goal.returns
returns g c =
    let end_is_to = c.loop-statement.auto.statement-end in
    let end_le_statement = c.loop-statement-test.false in
    let statement_is_to : c.loop-statement.statement ≡ c.args.to =
    omega (arith, end_is_to, end_le_statement) in
    c.loop-statement.invariant.frames
    ∙ ap (frames_between c.args.sources.now.statements.now.list c.args.from) statement_is_to
