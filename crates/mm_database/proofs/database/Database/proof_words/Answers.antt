use Rattle.std.proofs.Common.{rules, ◌∙◌, Some, ap, slice_get, arith}
use Rattle.std.proofs.lemmas.Grind.{common_steps}
use Rattle.mm_database.proofs.DatabaseLaw.{no_proof}
use Rattle.mm_database.proofs.RetainedWordsLaw.{k_lt_retained_count, theorem_has_two_words}
use Rattle.mm_database.proofs.RetainedWordsLaw.{proof_is_retained, proof_within}
use Rattle.mm_database.proofs.database.Database.proof_words.Goals as goal

pub get-words-requires : goal.get-words-requires
get-words-requires g c = search (rules, arith, k_lt_retained_count)

pub overflow_sub-result : goal.overflow_sub-result
overflow_sub-result g c =
    omega (
      arith,
      theorem_has_two_words _ _ _ _ _ c.self.view_is _ c.requires _
          c.self.invariant.retained_are c.get-words.result.now c.get-words.ensures.is_list
          (c.kind.ensures ∙ ap Some c.in-Theorem.is),
    )

pub slice_bounds-result-count : goal.slice_bounds-result-count
slice_bounds-result-count g c =
    omega (
      arith,
      theorem_has_two_words _ _ _ _ _ c.self.view_is _ c.requires _
          c.self.invariant.retained_are c.get-words.result.now c.get-words.ensures.is_list
          (c.kind.ensures ∙ ap Some c.in-Theorem.is),
    )

pub slice_bounds-result-start : goal.slice_bounds-result-start
slice_bounds-result-start g c = slice_bounds-result-count g c

pub returns-in-Theorem : goal.returns-in-Theorem
returns-in-Theorem g c =
    search (
      rules,
      arith,
      proof_is_retained,
      proof_within,
      c.kind.ensures,
      c.self.view_is,
      c.requires,
      c.self.invariant.retained_are,
      c.get-words.ensures.is_list,
    )

pub returns-in_default : goal.returns-in_default
returns-in_default g c = grind (arith, common_steps, no_proof, slice_get, c.kind.ensures)
