use Rattle.std.proofs.Common.{[], ◌++◌, ◌+◌, ◌∙◌, sym, ap, arith, nat_lt}
use Rattle.mm_spec.specs.Lawful.{faults_at, faults_at_each, is_empty, least, scope_faults, when}
use Rattle.mm_spec.specs.declared.Code.TheVariants.{ConstantInBlock, EmptyDeclaration}
use Rattle.mm_outline.specs.Parts.{between, statement_between, nth_word}
use Rattle.mm_scope.specs.Knows.{listed_codes}
use Rattle.mm_scope.proofs.JudgeLaw.{nothing_between_is_empty}
use Rattle.mm_scope.proofs.scope.Scope.whole_statement_fault.Goals as goal

pub returns-in-Constants : goal.returns-in-Constants
returns-in-Constants g c = λ n.
    let text = c.args._text.now in
    let ws = c.args.tokens.now in
    let o = c.args.outline in
    let xs = between text ws (o.keyword + 1) o.middle in
    let end_lt_length = c.requires.is_among_tokens.end_lt_length in
    let middle_le_end = c.requires.is_among_tokens.outline.3 in
    let keyword_place = (nth_word ws o.keyword).start in
    let middle_place = (nth_word ws o.middle).start in
    let block_faults = faults_at keyword_place (when (nat_lt 0 c.args.depth) ConstantInBlock) in
    let empty_faults = faults_at middle_place (when (is_empty xs) EmptyDeclaration) in (
      block_faults ++ empty_faults,
      c.lesser.ensures block_faults empty_faults (c.fault_with_code-block_fault.ensures
          ∙ c.code_if.ensures keyword_place)
          (c.fault_with_code.ensures ∙ c.code_if-in-Constants.ensures middle_place
          ∙ ap (λ b. least (faults_at middle_place (when b EmptyDeclaration)))
          (nothing_between_is_empty text ws o.keyword o.middle c.requires.keyword_lt_middle
          (omega (arith, end_lt_length, middle_le_end)))),
      ap (λ kd. scope_faults n c.args.depth (statement_between text ws kd o.keyword o.middle o.end))
          c.in-Constants.is
          ∙ ap (λ kd. (block_faults ++ empty_faults) ++ faults_at_each (listed_codes n kd) [] xs)
          (sym c.in-Constants.is),
    )

pub returns-in-Variables : goal.returns-in-Variables
returns-in-Variables g c = λ n.
    let text = c.args._text.now in
    let ws = c.args.tokens.now in
    let o = c.args.outline in
    let xs = between text ws (o.keyword + 1) o.middle in
    let end_lt_length = c.requires.is_among_tokens.end_lt_length in
    let middle_le_end = c.requires.is_among_tokens.outline.3 in
    let middle_place = (nth_word ws o.middle).start in
    let empty_faults = faults_at middle_place (when (is_empty xs) EmptyDeclaration) in (
      empty_faults,
      c.fault_with_code-in-Variables.ensures ∙ c.code_if-in-Variables.ensures middle_place
          ∙ ap (λ b. least (faults_at middle_place (when b EmptyDeclaration)))
          (nothing_between_is_empty text ws o.keyword o.middle c.requires.keyword_lt_middle
          (omega (arith, end_lt_length, middle_le_end))),
      ap (λ kd. scope_faults n c.args.depth (statement_between text ws kd o.keyword o.middle o.end))
          c.in-Variables.is
          ∙ ap (λ kd. empty_faults ++ faults_at_each (listed_codes n kd) [] xs)
          (sym c.in-Variables.is),
    )
