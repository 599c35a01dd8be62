use Rattle.std.proofs.Common.{arith, ◌≡◌, ◌++◌, ◌+◌, ℕ, List, [], ◌∷◌, ◌<◌, take, length, get_or}
use Rattle.std.proofs.Common.{append-nil}
use Rattle.std.proofs.lemmas.Grind.{common_steps}
use Rattle.std.specs.Prelude.{flat_map}
use Rattle.std.proofs.lemmas.List.{flat_map_more, take_more}
use Rattle.std.proofs.lemmas.List.Elements.{All-push}
use Rattle.mm_spec.specs.Frame.{symbol_names}
use Rattle.mm_tell.specs.Named.{float_variable}
use Rattle.mm_tell.proofs.variables.add_typed.Goals as goal
use Rattle.mm_tell.proofs.variables.add_typed.Goals.{in-Some+in_ok-push, in_default}

-- one more statement
more_floats : (f : ℕ → List ℕ) (before xs items : List ℕ) (i : ℕ) (d : ℕ) → i < length xs
    → items ≡ before ++ flat_map f (take i xs) → (more : List ℕ) → more ≡ f (get_or xs i d)
    → items ++ more ≡ before ++ flat_map f (take (i + 1) xs)
more_floats f before xs items i d i_lt_length items_are more more_is =
    grind (arith, common_steps, flat_map_more, take_more)

pub loop-statement-preserved : goal.loop-statement-preserved
loop-statement-preserved g c =
    let count = length (symbol_names c.args.database.now.statements) in
    let invariant = c.loop-statement.invariant in
    let step = more_floats (float_variable c.args.database.now.statements) c.args.into.now.items _
    _ _ 0 c.loop-statement-test.true invariant.variables_are in
    elim c.match-typed_variable.branch [
      | in-Some+in_ok-push w ↦ rw (w.into-is, w.in_ok-push.ensures.items) (record {
        variables_are = step (w.in-Some.variable ∷ []) w.in-Some.ensures.variable_is;
        variables_lt_count = All-push (λ v. v < count) c.loop-statement.into.items _
            invariant.variables_lt_count w.in-Some.ensures.variable_lt_count;
      })
      | in_default w ↦ rw w.into-is (record {
        variables_are = rw append-nil at (step [] w.in_default.ensures.variable_is);
        variables_lt_count = invariant.variables_lt_count;
      })
    ]
