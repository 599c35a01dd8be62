use Rattle.std.proofs.Common.{◌∙◌, ℕ, List, subst}
use Rattle.std.proofs.lemmas.List.{get_or_default}
use Rattle.mm_nodes.specs.Strings.{no_body, string_of}
use Rattle.mm_machine.specs.Distinct.{AppendsSegment}
use Rattle.mm_machine.proofs.DistinctLaw.{next_segment}
use Rattle.mm_machine.proofs.distinct.collect_variables.Goals as goal

pub append_segment-requires : goal.append_segment-requires
append_segment-requires g c =
    let db = c.args.database.now.statements in
    let i = c.loop-number.number-index in
    rw (c.symbol-body.ensures, c.loop-number.invariant.nodes_stay)
    (c.requires i _ c.loop-number-test.true)

pub loop-number-preserved : goal.loop-number-preserved
loop-number-preserved g c =
    let db = c.args.database.now.statements in
    let bs = c.args.listed.now in
    let i = c.loop-number.number-index in
    let b = c.symbol-body.result in
    record {
      nodes_stay = c.append_segment.ensures.nodes_unchanged ∙ c.loop-number.invariant.nodes_stay;
      have_variables =
          next_segment db c.args.nodes.now bs i b c.loop-number.list.items
          c.append_segment.new.list.items c.loop-number.segments.items
          c.append_segment.new.segments.items c.loop-number-test.true
          (c.symbol-body.ensures ∙ get_or_default bs i _ no_body c.loop-number-test.true)
          c.loop-number.invariant.have_variables
          (subst (λ (ns : List (List ℕ)). AppendsSegment db (string_of ns b)
          c.loop-number.list.items c.append_segment.new.list.items c.loop-number.segments.items
          c.append_segment.new.segments.items) c.loop-number.invariant.nodes_stay
          c.in_ok-append_segment.ensures.appends_segment);
    }
