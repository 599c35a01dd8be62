use Rattle.std.proofs.Common.{rules, ◌++◌, ◌∷◌, [], Ok, length, sym, ap, ◌∙◌, arith, subst, refl}
use Rattle.std.proofs.Common.{length-append}
use Rattle.mm_spec.specs.Frame.{formula_at}
use Rattle.mm_machine.specs.State.{machine_state}
use Rattle.mm_machine.specs.Applied.{LeadsTo}
use Rattle.mm_machine.proofs.AloneLaw.{applied_alone_is_ok, applied_alone_is_too_long}
use Rattle.mm_machine.proofs.machine.Machine.apply_alone.Goals as goal

pub returns-then-symbols-gt-FORMULA_LIMIT : goal.returns-then-symbols-gt-FORMULA_LIMIT
returns-then-symbols-gt-FORMULA_LIMIT g c =
    search (
      rules,
      arith,
      applied_alone_is_too_long,
      c.formula-symbols.ensures.formula_is,
      c.assertion.ensures,
      c.requires.is_compiled,
      c.requires.no_hypotheses,
      c.if-symbols-gt-FORMULA_LIMIT.true,
    )

pub returns-in-Ok : goal.returns-in-Ok
returns-in-Ok g c =
    let db = c.args.database.now.statements in
    let state_before = c.args.self.now in
    let es = state_before.stack in
    let symbols = c.formula-symbols.result.now in
    let symbols_are = c.formula-symbols.ensures.formula_is ∙ ap (formula_at db) c.assertion.ensures
    in
    let state_after = machine_state (es ++ symbols ∷ []) state_before.marks state_before.formulas
    state_before.variable_flags
    in
    record {
      is_applied = record {
        leads_if_ok =
            subst (LeadsTo db c.args._theorem c.args.rule.now.assertion state_before)
            (sym c.in-Ok.ensures.pushes_formula)
            (record {
              entries_are =
                  applied_alone_is_ok db c.args._theorem c.args.rule.now c.requires.is_compiled
                  c.requires.no_hypotheses es
                  (omega (arith, ap length symbols_are, c.if-symbols-gt-FORMULA_LIMIT.false))
                  ∙ ap (λ f. Ok (es ++ f ∷ [])) (sym symbols_are);
              has_entry = omega (arith, length-append es (symbols ∷ []));
              marks_stay = refl;
              formulas_stay = refl;
            });
        refusal_is_right = tt;
        variables_stay = c.in-Ok.ensures.variables_stay;
      };
    }
