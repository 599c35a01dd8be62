use Rattle.std.proofs.Common.{◌<◌, length, All, ap, sym, ◌∙◌, subst, arith}
use Rattle.mm_spec.specs.Citation.{is_assertion}
use Rattle.mm_outline.proofs.StatementsLaw.{passing_lt_length}
use Rattle.mm_rule.proofs.FrameLaw.{hypotheses_lt_length, hypotheses_le_k}
use Rattle.mm_rule.proofs.referents.mandatory_hypotheses.Goals as goal

pub returns-clause-hypotheses_lt_length : goal.returns-clause-hypotheses_lt_length
returns-clause-hypotheses_lt_length g c =
    let db = c.args.database.now.statements in
    let assertion_lt_length : c.args.assertion < length db =
    passing_lt_length is_assertion db c.args.assertion c.requires
    in
    subst (All (λ h. h < length db)) (sym (c.as_slice.ensures.value ∙ c.frame.ensures.hypotheses))
    (hypotheses_lt_length db c.args.assertion (omega (arith, assertion_lt_length)))

pub returns-clause-count_lt_2_31 : goal.returns-clause-count_lt_2_31
returns-clause-count_lt_2_31 g c =
    let db = c.args.database.now.statements in
    let assertion_lt_length : c.args.assertion < length db =
    passing_lt_length is_assertion db c.args.assertion c.requires
    in
    let lengths_equal = ap length (c.as_slice.ensures.value ∙ c.frame.ensures.hypotheses) in
    let hypotheses_le_assertion = hypotheses_le_k db c.args.assertion in
    omega (
      arith,
      assertion_lt_length,
      lengths_equal,
      hypotheses_le_assertion,
      c.frame.ensures.few_statements,
    )
