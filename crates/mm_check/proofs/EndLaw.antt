-- The beginning and the end of a proof.
use Rattle.std.proofs.lemmas.Grind.{common_steps}
use Rattle.std.proofs.Common.{ap, ◌≡◌, ℕ, ◌<◌, ◌∷◌, [], List, length, slice_get, Some, None, Option}
use Rattle.std.proofs.Common.{Bool, sym, subst, inr, true, false, refl, true≢false, arith, ◌==◌}
use Rattle.std.specs.Prelude.{Decides}
use Rattle.std.specs.List.{list_any}
use Rattle.std.specs.Option.{option_map}
use Rattle.std.specs.List.Sorted.{IsStrictlyIncreasing}
use Rattle.std.proofs.lemmas.List.{take_all}
use Rattle.mm_spec.specs.Text.{fault}
use Rattle.mm_spec.specs.Statement.{Statement}
use Rattle.mm_spec.specs.Steps.{PlacedStep}
use Rattle.mm_spec.specs.Derivation.{Formula, Trees, is_member}
use Rattle.mm_spec.specs.Output.{ProofFault, proof_end}
use Rattle.mm_spec.specs.declared.Code.{Code}
use Rattle.mm_spec.specs.declared.Code.TheVariants.{NotOneEntry, OtherFormula}
use Rattle.mm_spec.specs.Valid.{Derives, ProofEndFault, IsEndCode}
use Rattle.mm_spec.specs.Frame.{formula_at}
use Rattle.mm_spec.specs.Citation.{context_at, is_theorem, IsProof, Cites}
use Rattle.mm_spec.proofs.FindsLaw.{got_lt_length}
use Rattle.mm_database.specs.Database.{end_at}
use Rattle.mm_rules.specs.Rules.{RuleLists}
use Rattle.mm_machine.specs.DisjointCache.{KnownPairs, AreDisjointAt}
use Rattle.mm_machine.specs.State.{MachineState, machine_state}
use Rattle.mm_check.specs.declared.checker.CheckRefused.{CheckRefused}
use Rattle.mm_check.specs.declared.checker.CheckRefused.TheVariants.{Fault as Faulty, Memory}
use Rattle.mm_check.specs.Contract.{IsChecked, IsCheckRefusal, IsEndRefusal}
use Rattle.mm_check.specs.Reached.{IsReached, AreStepsOf, steps_of}
use Rattle.mm_check.specs.Checker.{CheckerState, checker_state, AreOfDatabase, HasPerformed}
use Rattle.mm_check.proofs.CitesLaw.{labels_are_cited}
use Rattle.mm_check.proofs.RanLaw.{no_step_has_run}
use Rattle.mm_check.proofs.ReachLaw.{end_derives, end_code_is_fault, proof_end_is_end_at}

module _ (db : List Statement) (t : ℕ) (steps : List PlacedStep) where
  -- no step is performed yet
  pub no_step_performed : (m : MachineState) (rules : RuleLists) (noted : List ℕ)
      (cache : KnownPairs) (kept : List (ℕ × ℕ)) → (variable_flags : List Bool)
      → AreOfDatabase db variable_flags rules
      → AreStepsOf db t steps → m ≡ machine_state [] [] [] variable_flags → noted ≡ []
      → AreDisjointAt db t cache → kept ≡ []
      → HasPerformed db t steps 0 (checker_state m rules noted cache kept)
  no_step_performed m rules noted cache kept variable_flags of_database steps_are machine_is
      noted_is_nil are_disjoint_at kept_is_nil =
      record {
        is_at_theorem = record {
          made_for = rw machine_is of_database;
          theorem_lt_length = t_lt_length (slice_get db t) refl steps_are.is_theorem;
          pairs_are_disjoint = are_disjoint_at;
          are_kept = λ i i_lt. absurd (omega (arith, i_lt, ap length kept_is_nil));
        };
        are_steps = steps_are;
        has_run = no_step_has_run db t steps m noted variable_flags machine_is noted_is_nil;
      }
    where
      t_lt_length : (o : Option Statement) → slice_get db t ≡ o
          → list_any is_theorem (elim o [ None ↦ [] | Some s ↦ s ∷ [] ]) ≡ true → t < length db
      t_lt_length None statement_is is_theorem = absurd (true≢false (sym is_theorem))
      t_lt_length (Some s) statement_is is_theorem = got_lt_length db t s statement_is

  -- all steps are performed
  module _ (c d : CheckerState) (view : c ≡ d) (has_performed : HasPerformed db t steps (length
      steps) d) where
    abbrev ends : List Formula
    ends = has_performed.has_run.ends

    abbrev all_reached : IsReached db t (steps_of steps) c.machine.stack ends c.noted
    all_reached =
        rw view (subst (λ z. IsReached db t (steps_of z) d.machine.stack ends d.noted)
        (take_all (length steps) steps (omega arith)) has_performed.has_run.is_reached)

    module _ (formula_is_only_entry : c.machine.stack ≡ formula_at db t ∷ []) where
      -- the forest after them is the theorem's proof
      abbrev pub is_proof : (d : Trees) × IsProof db t d
      is_proof = (
        all_reached.forest,
        subst (λ ps. Derives (context_at db t) (steps_of ps) (formula_at db t) all_reached.forest)
            has_performed.are_steps.steps_are
            (end_derives db t steps c.machine.stack ends c.noted all_reached (formula_at db t)
            formula_is_only_entry),
      )

      pub noted_are_cited : (a : ℕ) → Decides (is_member c.noted a) (Cites db false t a)
      noted_are_cited =
          labels_are_cited db t all_reached.forest c.noted has_performed.are_steps.is_complete
          is_proof.1 all_reached.noted_are

      pub is_checked : (essential : Bool) (noted cites : List ℕ)
          → ((a : ℕ) → Decides (is_member noted a) (Cites db essential t a))
          → IsStrictlyIncreasing cites → ((a : ℕ) → is_member cites a ≡ is_member noted a)
          → IsChecked db essential t cites
      is_checked essential noted cites noted_are_exact cites_rise members_are = record {
        derivation = all_reached.forest;
        is_proof = is_proof.1;
        cites_rise = cites_rise;
        cites_are_exact = λ a. subst (λ b. Decides b (Cites db essential t a))
            (sym (members_are a)) (noted_are_exact a);
      }

    pub end_is_refused : (end : ℕ) (code : Code) → option_map end_at (slice_get db t) ≡ Some end
        → IsEndCode c.machine.stack (formula_at db t) code
        → ProofFault db t (proof_end (slice_get db t)) (fault end code)
    end_is_refused end code end_is is_end_code =
        let f = formula_at db t in
        inr (
          has_performed.are_steps.no_reading_faults,
          inr
              (subst (λ ps. ProofEndFault (context_at db t) ps f (proof_end (slice_get db t))
              (fault end code)) has_performed.are_steps.steps_are (subst (λ n. ProofEndFault
              (context_at db t) steps f n (fault end code)) (sym (proof_end_is_end_at db t end
              has_performed.are_steps.is_theorem end_is)) (end_code_is_fault db t steps
              c.machine.stack ends c.noted all_reached end code f
              is_end_code))),
        )

    pub end_refusal_is_right : (e : CheckRefused) → IsEndRefusal db t c.machine.stack e
        → IsCheckRefusal db t e
    end_refusal_is_right (Faulty f) is_end_refusal =
        end_is_refused f.at f.code is_end_refusal.0 is_end_refusal.1
    end_refusal_is_right Memory is_end_refusal = tt

-- the code of the end, by the tests that the code makes
pub many_entries_code : (stack : List Formula) (f : Formula) → (length stack == 1) ≡ false
    → IsEndCode stack f NotOneEntry
many_entries_code stack f h1 = grind (arith, common_steps, true≢false)

pub other_formula_code : (stack : List Formula) (f : Formula) → (length stack == 1) ≡ true
    → (stack ≡ f ∷ [] → ⊥) → IsEndCode stack f OtherFormula
other_formula_code stack f h1 h2 = grind (arith, common_steps, true≢false)
