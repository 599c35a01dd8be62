use Rattle.std.proofs.Common.{◌∙◌, ℕ, List, length, None, sym, subst, inl, inr}
use Rattle.mm_spec.specs.Lexed.{lexed_of}
use Rattle.mm_spec.specs.Output.{AllAreValid, IsRead}
use Rattle.mm_work.specs.Judged.{IsJudgement, AllHaveCitations, IsFirstFault}
use Rattle.mm_work.specs.declared.judged.Judged.{Judged}
use Rattle.mm_run.proofs.judged_text.judged_text.Goals as goal

pub returns-in-Faulty : goal.returns-in-Faulty
returns-in-Faulty g c = λ text essential with_open is_read_from is_judgement.
    let d = c.args.database in
    let is_first_fault =
    subst (λ (j : Judged _). IsJudgement d.statements essential j) c.in-Faulty.is is_judgement in (
      d.read,
      d.fault,
      is_read_from.is_read,
      inl (subst (λ db. IsFirstFault db c.in-Faulty.fault) is_read_from.is_counted.statements_are
          is_first_fault),
    )

pub returns-in-Some : goal.returns-in-Some
returns-in-Some g c = λ text essential with_open is_read_from is_judgement.
    let d = c.args.database in
    let have_citations : AllHaveCitations d.statements essential c.in-Valid.citations =
    subst (λ (j : Judged _). IsJudgement d.statements essential j) c.in-Valid.is is_judgement in (
      d.read,
      d.fault,
      is_read_from.is_read,
      inr (
        subst AllAreValid is_read_from.is_counted.statements_are have_citations.are_valid,
        sym c.fault.ensures
            ∙ c.in-Some.is,
      ),
    )

pub returns : goal.returns
returns g c = λ text essential with_open is_read_from is_judgement.
    let d = c.args.database in
    let have_citations : AllHaveCitations d.statements essential c.in-Valid.citations =
    subst (λ (j : Judged _). IsJudgement d.statements essential j) c.in-Valid.is is_judgement in (
      is_read_from.text_is,
      record {
        has_no_fault = (
          subst (λ (t : List ℕ). IsRead (length t) (lexed_of t) d.read None) (sym
              is_read_from.text_is)
              (subst (IsRead (length text) (lexed_of text) d.read)
              (sym c.fault.ensures ∙ c.in-None.is) is_read_from.is_read),
          subst AllAreValid is_read_from.is_counted.statements_are have_citations.are_valid,
        );
        is_counted = is_read_from.is_counted;
        have_citations = have_citations;
      },
    )
