use Rattle.std.proofs.Common.{ap, sym, ◌∙◌, ◌==◌, refl}
use Rattle.std.proofs.lemmas.Bool.{ne_eqb}
use Rattle.mm_proof.proofs.LettersLaw.{on_same_err, continues_after_mark}
use Rattle.mm_proof.specs.declared.refused.ProofRefused.TheVariants.{Memory}
use Rattle.mm_proof.proofs.letters.LettersRead.mark.Goals as goal

pub returns-in_err-push-clause-refuses : goal.returns-in_err-push-clause-refuses
returns-in_err-push-clause-refuses g c =
    on_same_err c.from_residual.result Memory _ c.from_residual.ensures.1
    (λ all unread continues. tt)

pub returns-clause-reads : goal.returns-clause-reads
returns-clause-reads g c =
    let fields = c.self.inside in
    rw (← c.self.view_is, c.in_ok-push.ensures.items, c.len-2.ensures)
    (record {
      theorem = refl;
      labels = refl;
      continues =
          continues_after_mark fields.steps.theorem fields.labels.items fields.marks.items
          fields.steps.steps c.args.at
          (ap (λ n. n == 0) (sym c.len.ensures) ∙ ne_eqb c.len.result 0 c.if-len-eq0.false);
    })
