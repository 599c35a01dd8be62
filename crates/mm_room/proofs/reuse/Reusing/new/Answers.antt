use Rattle.std.proofs.Common.{arith, All, Bool, if◌then◌else◌, List, [], ◌∷◌, ◌++◌}
use Rattle.std.proofs.lemmas.Grind.{common_steps}
use Rattle.std.proofs.lemmas.List.Elements.{All-push}
use Rattle.mm_room.proofs.reuse.Reusing.new.Goals as goal

-- what holds of all elements and of a new one holds after a push, whether or not it failed
all_after_push : {X : Type 0} (P : X → Type 0) (xs : List X) (x : X) (is_pushed : Bool) → All P xs
    → P x
    → All P (if is_pushed then xs ++ x ∷ [] else xs)
all_after_push P xs x is_pushed h1 h2 = grind (arith, common_steps, All-push)

pub loop-preserved : goal.loop-preserved
loop-preserved g c =
    grind (
      arith,
      common_steps,
      all_after_push,
      c.push.ensures.items,
      c.loop.invariant,
      c.new-in-loop.ensures,
    )
