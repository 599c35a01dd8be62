use Rattle.std.proofs.Common.{refl, rules, ◌≡◌, ◌+◌, ◌++◌, ◌∷◌, [], map, take, get_or, length, sym}
use Rattle.std.proofs.Common.{◌∙◌, arith, length-append}
use Rattle.std.proofs.lemmas.List.{take_all, get_or_default, length-map, map_push}
use Rattle.std.proofs.lemmas.List.Elements.{All-append}
use Rattle.mm_spec.specs.Frame.{formula_at}
use Rattle.mm_rule.specs.declared.rule.RulePart.TheVariants.{Constant, Variable}
use Rattle.mm_rule.specs.declared.rule.Hypothesis.TheVariants.{Floating, Essential}
use Rattle.mm_rule.specs.Rule.{part_of, parts_of, IsVariableBelow}
use Rattle.mm_rules.proofs.RuleLaw.{map_take_more, all_parts_push_floating}
use Rattle.mm_rules.proofs.RuleLaw.{part_count_push_floating, all_parts_push_essential}
use Rattle.mm_rules.proofs.RuleLaw.{part_count_push_essential, parts_below, indexed_parts_are_parts}
use Rattle.mm_rules.proofs.compile.compile_hypotheses.Goals.{then-is_first_floating+in_ok-push}
use Rattle.mm_rules.proofs.compile.compile_hypotheses.Goals.{else-is_first_floating+in_ok-compile_formula+in_ok-push-2}
use Rattle.mm_rules.proofs.compile.compile_hypotheses.Goals as goal

pub loop-index-preserved : goal.loop-index-preserved
loop-index-preserved g c =
    let db = c.args.database.now.statements in
    let mandatory = c.args.mandatory.now in
    let hs = map (formula_at db) mandatory in
    let v = c.loop-index.invariant in
    let j = c.loop-index.index in
    let hypotheses = c.loop-index.hypotheses.items in
    let parts = c.loop-index.parts.items in
    let f = c.formula-formula.result.now in
    let formula_is = c.formula-formula.ensures.formula in
    let us = map (parts_of db hs) (map (formula_at db) (take j mandatory)) in
    let with_this : map (parts_of db hs) (map (formula_at db) (take (j + 1) mandatory))
    ≡ us ++ parts_of db hs f ∷ [] =
    rw (map_take_more (formula_at db) mandatory j 0 c.loop-index-test.true, map_push, formula_is)
    refl in
    let covered = rw (← formula_is) at
    (c.requires.variables_are_bound j 0 c.loop-index-test.true) in
    let parts_equal = indexed_parts_are_parts db hs c.args.indices.now c.requires.indices_are f
    covered in
    elim c.if-is_first_floating.branch [
      | then-is_first_floating+in_ok-push w ↦
          let t = w.index-formula-0.result in
          let is_first = c.is_first_floating.ensures w.if-is_first_floating.true in
          let typecode : get_or f 0 0 ≡ t =
          get_or_default f 0 0 t is_first.0 ∙ sym w.index-formula-0.is in
          let parts_are_two : parts_of db hs f ≡ Constant t ∷ Variable j ∷ [] =
          sym parts_equal ∙ (rw (← typecode) is_first.1) in
          rw (w.hypotheses-is, w.parts-is, w.in_ok-push.ensures.items) (record {
            parts_are = rw (with_this, parts_are_two) (all_parts_push_floating parts hypotheses j t
                us v.count_is v.part_count_is v.parts_are);
            count_is = omega (arith, v.count_is, length-append hypotheses (Floating t ∷ []));
            part_count_is = part_count_push_floating parts hypotheses t v.part_count_is;
            parts_in_range = v.parts_in_range;
          })
      | else-is_first_floating+in_ok-compile_formula+in_ok-push-2 w ↦
          let n_is = sym (length-map f (part_of db hs)) in
          rw (
            w.hypotheses-is,
            w.parts-is,
            w.in_ok-push-2.ensures.items,
            w.in_ok-compile_formula.ensures,
            parts_equal,
          ) (record {
            parts_are = rw with_this (all_parts_push_essential parts _ hypotheses _ n_is
                v.part_count_is us v.parts_are);
            count_is =
                omega (arith, v.count_is, length-append hypotheses (Essential (length f) ∷ []));
            part_count_is = part_count_push_essential parts _ hypotheses _ n_is v.part_count_is;
            parts_in_range = All-append (IsVariableBelow (length mandatory)) parts _
                v.parts_in_range (rw (length-map mandatory (formula_at db)) at
                (parts_below db hs f covered));
          })
    ]

pub bounds-formula-0 : goal.bounds-formula-0
bounds-formula-0 g c = (c.is_first_floating.ensures c.if-is_first_floating.true).0

pub returns : goal.returns
returns g c = search (rules, arith, take_all)
