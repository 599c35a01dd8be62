use Rattle.std.proofs.Common.{◌≡◌, ◌+◌, ◌<◌, ◌&&◌, get_or, length, sym, ap, ◌∙◌, subst, arith}
use Rattle.mm_rule.specs.Rule.{CompiledRule}
use Rattle.mm_machine.proofs.EntryFitLaw.{fit_from, fit_from_splits, part_count_stays, IsTested}
use Rattle.mm_machine.proofs.EntryFitLaw.{typed_tested, essential_tested}
use Rattle.mm_machine.proofs.entry_match.premises_match.Goals.{
  in-Floating,
  in-Essential+in_ok-is_fitting-in-Essential,
}
use Rattle.mm_machine.proofs.entry_match.premises_match.Goals as goal

pub returns-then-not-is_fitting-clause-tells_match :
    goal.returns-then-not-is_fitting-clause-tells_match
returns-then-not-is_fitting-clause-tells_match g c =
    let nodes = c.args.nodes.now in
    let es = c.args.premises.now in
    let parts = c.args.rule.now.parts in
    let hs = c.args.rule.now.hypotheses in
    let j = c.loop-j.j in
    let part_index = c.loop-j.part_index in
    let h = c.hypothesis-item.result in
    let is_fitting = c.match-hypothesis.is_fitting in
    let next_part_index = c.match-hypothesis.part_index in
    let hs_are : c.rule.inside.hypotheses.now ≡ hs =
    ap (λ (r : CompiledRule). r.hypotheses) c.rule.view_is in
    let j_lt_length_hs : j < length hs = subst (λ z. j < length z) hs_are c.loop-j-test.true in
    let j_lt_length_es : j < length es = omega (arith, j_lt_length_hs, c.requires.premise_count_is)
    in
    let stay = c.loop-j.invariant.nodes_stay in
    let tested : IsTested nodes es parts hs j part_index h is_fitting next_part_index =
    elim c.match-hypothesis.branch [
      | in-Floating w ↦
          typed_tested nodes es parts hs j part_index h is_fitting next_part_index
          w.in-Floating.typecode w.in-Floating.is c.loop-j.nodes w.index-premises-j.result stay
          w.index-premises-j.is j_lt_length_es
          (w.is_fitting-is ∙ w.begins_with_typecode-is_fitting.ensures) w.part_index-is
      | in-Essential+in_ok-is_fitting-in-Essential w ↦
          essential_tested nodes es parts hs j part_index h is_fitting next_part_index
          w.in-Essential.part_count w.in-Essential.is c.loop-j.nodes
          w.index-premises-j-in-Essential.result c.rule.inside.parts.now stay
          w.index-premises-j-in-Essential.is (ap (λ (r : CompiledRule). r.parts) c.rule.view_is)
          j_lt_length_es
          (w.is_fitting-is ∙ w.in_ok-is_fitting-in-Essential.ensures.tells_equal) w.part_index-is
    ] in
    sym (c.loop-j.invariant.test_is_rest_test
    ∙ fit_from_splits nodes es parts hs j part_index h is_fitting next_part_index tested
    j_lt_length_hs j_lt_length_es (c.hypothesis-item.is ∙ ap (λ z. get_or z j h) hs_are)
    ∙ ap (λ b. b && fit_from nodes es parts hs (j + 1) next_part_index) c.if-not-is_fitting.true)

pub loop-j-preserved : goal.loop-j-preserved
loop-j-preserved g c =
    let nodes = c.args.nodes.now in
    let es = c.args.premises.now in
    let parts = c.args.rule.now.parts in
    let hs = c.args.rule.now.hypotheses in
    let j = c.loop-j.j in
    let part_index = c.loop-j.part_index in
    let h = c.hypothesis-item.result in
    let is_fitting = c.match-hypothesis.is_fitting in
    let next_part_index = c.match-hypothesis.part_index in
    let hs_are : c.rule.inside.hypotheses.now ≡ hs =
    ap (λ (r : CompiledRule). r.hypotheses) c.rule.view_is in
    let j_lt_length_hs : j < length hs = subst (λ z. j < length z) hs_are c.loop-j-test.true in
    let j_lt_length_es : j < length es = omega (arith, j_lt_length_hs, c.requires.premise_count_is)
    in
    let h_is : h ≡ get_or hs j h = c.hypothesis-item.is ∙ ap (λ z. get_or z j h) hs_are in
    let stay = c.loop-j.invariant.nodes_stay in
    let tested : IsTested nodes es parts hs j part_index h is_fitting next_part_index =
    elim c.match-hypothesis.branch [
      | in-Floating w ↦
          typed_tested nodes es parts hs j part_index h is_fitting next_part_index
          w.in-Floating.typecode w.in-Floating.is c.loop-j.nodes w.index-premises-j.result stay
          w.index-premises-j.is j_lt_length_es
          (w.is_fitting-is ∙ w.begins_with_typecode-is_fitting.ensures) w.part_index-is
      | in-Essential+in_ok-is_fitting-in-Essential w ↦
          essential_tested nodes es parts hs j part_index h is_fitting next_part_index
          w.in-Essential.part_count w.in-Essential.is c.loop-j.nodes
          w.index-premises-j-in-Essential.result c.rule.inside.parts.now stay
          w.index-premises-j-in-Essential.is (ap (λ (r : CompiledRule). r.parts) c.rule.view_is)
          j_lt_length_es
          (w.is_fitting-is ∙ w.in_ok-is_fitting-in-Essential.ensures.tells_equal) w.part_index-is
    ] in
    record {
      nodes_stay =
          elim c.match-hypothesis.branch [
            | in-Floating w ↦ w.nodes-is ∙ stay
            | in-Essential+in_ok-is_fitting-in-Essential w ↦
                w.nodes-is ∙ w.is_wanted_formula.ensures.nodes_unchanged ∙ stay
          ];
      room_stays = omega (arith, c.loop-j.invariant.room_stays, c.match-hypothesis.auto.list);
      part_count_is = part_count_stays nodes es parts hs j part_index h is_fitting next_part_index
          tested j_lt_length_hs j_lt_length_es h_is c.loop-j.invariant.part_count_is;
      test_is_rest_test = c.loop-j.invariant.test_is_rest_test
          ∙ fit_from_splits nodes es parts hs j part_index h is_fitting next_part_index tested
          j_lt_length_hs j_lt_length_es h_is
          ∙ ap (λ b. b && fit_from nodes es parts hs (j + 1) next_part_index)
          c.if-not-is_fitting.false;
    }
