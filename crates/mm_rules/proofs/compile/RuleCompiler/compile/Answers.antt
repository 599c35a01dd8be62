use Rattle.std.proofs.Common.{rules, arith, map}
use Rattle.std.proofs.lemmas.Grind.{common_steps}
use Rattle.std.proofs.lemmas.Bool.Decides.{nat_tests}
use Rattle.std.proofs.lemmas.Result.{IfOk-from_err, on_ok_weaker}
use Rattle.mm_spec.specs.Frame.{formula_at}
use Rattle.mm_outline.proofs.StatementsLaw.{passing_lt_length}
use Rattle.mm_rules.proofs.RuleLaw.{covered, covered_all, is_compiled_rule, written_back}
use Rattle.mm_rules.proofs.RuleLaw.{indexed_parts_are_parts}
use Rattle.mm_rules.proofs.compile.RuleCompiler.compile.Goals as goal

pub compile_hypotheses-requires-clause-variables_are_bound :
    goal.compile_hypotheses-requires-clause-variables_are_bound
compile_hypotheses-requires-clause-variables_are_bound g c =
    search (
      rules,
      arith,
      covered_all,
      c.mandatory_hypotheses-mandatory.ensures.hypotheses_are,
      c.requires.is_complete.hypotheses,
    )

pub formula-requires : goal.formula-requires
formula-requires g c = grind (arith, common_steps, passing_lt_length, c.requires.is_assertion)

pub returns-clause-is_compiled : goal.returns-clause-is_compiled
returns-clause-is_compiled g c =
    let db = c.args.database.now.statements in
    let mandatory = c.mandatory_hypotheses-mandatory.result.now in
    let mandatory_is = c.mandatory_hypotheses-mandatory.ensures.hypotheses_are in
    let f = c.formula.result.now in
    let hs = map (formula_at db) mandatory in
    let written = written_back db hs c.index_variables.new.indices c.self.inside.indices.items
    c.self.inside.indices.len in
    let is_covered = covered db hs f
    (rw (mandatory_is, c.formula.ensures.formula) c.requires.is_complete.formula) in
    let parts_equal = indexed_parts_are_parts db hs c.deref-3.result.now (written
    c.deref-3.result.now c.deref-3.ensures.value (omega arith)
    c.index_variables.ensures.indices_are) f is_covered in
    on_ok_weaker c.compile_formula.result
    (λ made. is_compiled_rule db c.args.assertion c.requires.is_assertion c.requires.is_complete
    mandatory c.pairs.result.now f c.deref-2.result.now c.compile_hypotheses.new.hypotheses.items
    c.compile_pairs.new.pairs.items c.compile_hypotheses.new.parts.items
    c.compile_formula.new.parts.items mandatory_is c.pairs.ensures.pairs_are
    c.formula.ensures.formula c.formula.ensures.symbols_lt_count
    c.in_ok-compile_hypotheses.ensures (written c.deref-2.result.now c.deref-2.ensures.value
    (omega arith) c.index_variables.ensures.indices_are) c.in_ok-compile_pairs.ensures
    (rw (← parts_equal) (rw c.empty.ensures at made))) c.compile_formula.ensures

pub returns-clause-assertion_is : goal.returns-clause-assertion_is
returns-clause-assertion_is g c = grind (arith, nat_tests, on_ok_weaker, c.compile_formula.ensures)

pub compile_hypotheses-requires-clause-indices_are :
    goal.compile_hypotheses-requires-clause-indices_are
compile_hypotheses-requires-clause-indices_are g c = search (rules, arith, written_back)

pub returns-in_err-compile_hypotheses-clause-assertion_is :
    goal.returns-in_err-compile_hypotheses-clause-assertion_is
returns-in_err-compile_hypotheses-clause-assertion_is g c = search (rules, arith, IfOk-from_err)

pub returns-in_err-compile_hypotheses-clause-is_compiled :
    goal.returns-in_err-compile_hypotheses-clause-is_compiled
returns-in_err-compile_hypotheses-clause-is_compiled g c = search (rules, arith, IfOk-from_err)

pub returns-in_err-compile_pairs-clause-assertion_is :
    goal.returns-in_err-compile_pairs-clause-assertion_is
returns-in_err-compile_pairs-clause-assertion_is g c = search (rules, arith, IfOk-from_err)
