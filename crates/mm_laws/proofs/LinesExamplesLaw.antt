-- The lines of the statements of a small text. It has two blocks, each with a `$f` of x; an axiom
-- whose formula is empty but for the typecode; a theorem with a dummy variable; and an open
-- theorem. Whether its proofs are valid doesn't matter here.
use Rattle.std.specs.Prelude.{◌≡◌, ℕ, true, false, List, [], ◌∷◌, ◌++◌, Some, codes, refl}
use Rattle.std.specs.Fmt.{digits}
use Rattle.mm_spec.specs.Statement.{Statement}
use Rattle.mm_spec.specs.Opened.{open_as_axioms}
use Rattle.mm_spec.specs.Derivation.{pair}
use Rattle.mm_spec.specs.Assertion.{dummies, dummy_pairs, assertion_line}
use Rattle.mm_spec.specs.Report.{line}
use Rattle.mm_spec.specs.Request.{without_options}
use Rattle.mm_spec.specs.Output.{told_lines}
use Rattle.mm_laws.proofs.ReaderLaw.{statements}

abbrev told_text : List ℕ
told_text =
    codes "$c t |- $. $v x y $. e $a t $. "
    ++ codes "${ fx $f t x $. fy $f t y $. $d x y $. h $e |- x $. a $p |- x $= fy h $. $} "
    ++ codes "${ gx $f t x $. b $p |- x $= ? $. $} "

abbrev told_db : List Statement
told_db = open_as_axioms true (statements told_text)

-- y is a dummy variable of `a`
dummies_of_a : dummies told_db 8 ≡ 3 ∷ []
unfolding statements
dummies_of_a = refl

-- statement 8 is a; its symbols 2 and 3 are x and y
pairs_of_a : dummy_pairs told_db 8 ≡ pair 2 3 ∷ []
unfolding statements
pairs_of_a = refl

-- of an empty formula the typecode is told
line_of_e : assertion_line told_db false 2 ≡ line (codes "e:a:21:30: $a t")
unfolding statements digits
line_of_e = refl

line_of_a : assertion_line told_db false 8
    ≡ line (codes "a:p:83:103: $f fx t x $e h |- x $v y $d x y $p |- x")
unfolding statements digits
line_of_a = refl

-- the active `$f` is told
line_of_b : assertion_line told_db true 12 ≡ line (codes "b:o:123:140: $f gx t x $p |- x")
unfolding statements digits
line_of_b = refl

-- with the flag the open theorem is told as one
all_lines :
    (told_lines (statements told_text) (record without_options { with_open = true })).statements
    ≡ line (codes "e:a:21:30: $a t")
    ++ line (codes "a:p:83:103: $f fx t x $e h |- x $v y $d x y $p |- x")
    ++ line (codes "b:o:123:140: $f gx t x $p |- x")
unfolding statements digits
all_lines = refl

-- with the flag the open theorem has no line among the proofs
proof_lines_of_theorems :
    (told_lines (statements told_text) (record without_options { with_open = true })).proofs
    ≡ line (codes "a:2:fy h")
unfolding statements digits
proof_lines_of_theorems = refl

lines_of_typecode :
    (told_lines (statements told_text) (record without_options {
      only = Some (codes "t");
    })).statements
    ≡ line (codes "e:a:21:30: $a t")
unfolding statements digits
lines_of_typecode = refl
