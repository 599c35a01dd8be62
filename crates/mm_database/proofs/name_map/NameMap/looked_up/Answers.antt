use Rattle.std.proofs.Common.{rules, ◌≡◌, ◌∙◌, Some, slice_get, ap, sym, arith, false, length}
use Rattle.mm_spec.specs.Text.{is_in}
use Rattle.mm_database.specs.Guesses.{first_place}
use Rattle.mm_database.specs.Names.{names_of}
use Rattle.mm_database.proofs.NamesLaw.{missing_number_is_count}
use Rattle.mm_database.proofs.GuessesLaw.{absent_at_free_place, missing_value, one_more_other}
use Rattle.mm_database.proofs.name_map.NameMap.looked_up.Goals as goal
use Rattle.mm_database.proofs.name_map.NameMap.looked_up.Goals.{in_default}
use Rattle.mm_database.proofs.name_map.NameMap.looked_up.Goals.{in-Some+else-guess+in_default-value_at}

pub loop-place-init : goal.loop-place-init
loop-place-init g c = (
  omega arith,
  λ p i first_le_p p_lt_first is_guess name_is_word. omega (
    arith,
    first_le_p,
    p_lt_first,
  ),
)

-- the word is none of the names
word_is_absent : (g : _) (c : goal.After-len-then-guess g)
    → is_in c.args.word.now.bytes.now (names_of c.args.self.now) ≡ false
word_is_absent g c =
    let first_is = c.first_place-first.ensures.is_first_place ∙ ap (first_place c.args.word.now.bytes.now)
    (c.len.ensures ∙ c.self.inside.guesses.ok.0) in
    let is_map = rw c.self.view_is at c.self.invariant in
    absent_at_free_place (names_of c.args.self.now) c.self.inside.guesses.items c.args.word.now.bytes.now _ _
    is_map.1 first_is c.loop-place.invariant.0 c.loop-place-test.true c.loop-place.invariant.1
    (sym c.guess_at.ensures ∙ c.in-Some.is ∙ ap Some c.if-guess.true)

pub returns-then-guess-clause-index_is : goal.returns-then-guess-clause-index_is
returns-then-guess-clause-index_is g c =
    c.len-then-guess.ensures.len ∙ ap length c.self.view_is
    ∙ missing_number_is_count c.args.word.now.bytes.now c.args.self.now
    (missing_value c.args.self.now c.args.word.now.bytes.now (word_is_absent g c))

pub returns-then-guess-clause-value_is : goal.returns-then-guess-clause-value_is
returns-then-guess-clause-value_is g c =
    sym (missing_value c.args.self.now c.args.word.now.bytes.now (word_is_absent g c))

pub loop-place-preserved : goal.loop-place-preserved
loop-place-preserved g c =
    search (
      rules,
      arith,
      slice_get,
      in-Some+else-guess+in_default-value_at,
      in_default,
      one_more_other,
    )
