-- Faults of scope and of reading, at outside examples.
use Rattle.std.specs.Prelude.{◌≡◌, ℕ, List, [], ◌∷◌, ◌++◌, Option, Some, None, codes, refl}
use Rattle.std.specs.Prelude.{flat_map, map, slice_get}
use Rattle.std.proofs.Common.{true≢false, lit≤, sym}
use Rattle.std.specs.Fmt.{digits}
use Rattle.mm_spec.specs.Text.{fault}
use Rattle.mm_spec.specs.declared.Fault.{Fault}
use Rattle.mm_spec.specs.Statement.{Statement, provable}
use Rattle.mm_spec.specs.Report.{line}
use Rattle.mm_spec.specs.Lawful.{least}
use Rattle.mm_spec.specs.Derivation.{Trees, none, more}
use Rattle.mm_spec.specs.Steps.{label, marked, placed}
use Rattle.mm_spec.specs.CompressedProof.{groups, letters_from, value}
use Rattle.mm_spec.specs.Valid.{StepFault, not_disjoint}
use Rattle.mm_spec.specs.Proof.{reading_faults}
use Rattle.mm_spec.specs.Citation.{context_at, steps_at}
use Rattle.mm_spec.specs.ProofLine.{proof_steps, proof_line}
use Rattle.mm_laws.proofs.ReaderLaw.{statements}
use Rattle.mm_spec.specs.declared.Code.TheVariants.{EmptyProof, IncompleteProof, UnusableLabel}
use Rattle.mm_spec.specs.declared.Code.TheVariants.{OpenBrackets, BadLetter, OpenNumber}
use Rattle.mm_spec.specs.declared.Code.TheVariants.{MarkBeforeStep, NumberTooLarge, NotDisjoint}

abbrev axioms_text : List ℕ
axioms_text =
    codes "$c wff |- ( -> ) $. $v p q $. wp $f wff p $. wq $f wff q $. wi $a wff ( p -> q ) $. ax-1 $a |- ( p -> ( q -> p ) ) $. "

abbrev axioms_and_rule_text : List ℕ
axioms_and_rule_text =
    axioms_text ++ codes "${ min $e |- p $. maj $e |- ( p -> q ) $. ax-mp $a |- q $. $} "

abbrev with_proof : List ℕ → List Statement
with_proof p =
    statements (axioms_and_rule_text ++ codes "${ h $e |- p $. a1i $p |- ( q -> p ) $= " ++ p
    ++ codes " $. $}")

-- in the text, the theorem is statement 13
abbrev compressed_a1i : List Statement
compressed_a1i = with_proof (codes "( wi ax-1 ax-mp ) ABADZCABEF")

steps_compressed : proof_steps compressed_a1i 13
    ≡ label 2 ∷ label 3 ∷ label 2 ∷ label 4 ∷ label 12 ∷ label 2 ∷ label 3 ∷ label 5 ∷ label 9 ∷ []
unfolding statements
steps_compressed = refl

steps_marked : proof_steps (with_proof (codes "( wi ax-1 ax-mp ) ABADZZCABEFHG")) 13
    ≡ label 2 ∷ label 3 ∷ label 2 ∷ label 4 ∷ label 12 ∷ label 2 ∷ label 3 ∷ label 5 ∷ label 9
    ∷ marked 3 ∷ marked 3 ∷ []
unfolding statements
steps_marked = refl

-- the fourth step is marked, and the last two repeat it
line_of_a1i : proof_line (with_proof (codes "( wi ax-1 ax-mp ) ABADZZCABEFHG")) 13
    ≡ line (codes "a1i:11:wp wq wp wi h wp wq ax-1 ax-mp *4 *4")
unfolding statements digits
line_of_a1i = refl

-- the least fault of reading such a proof, which begins at the place 220
abbrev reading_fault : List ℕ → Option Fault
reading_fault p =
    let db = with_proof p in
    elim (slice_get db 13)
    [ Some (provable l k xs e ps d) ↦ least (reading_faults db 13 d ps) | _ ↦ None ]

faults_read :
    map reading_fault (codes "( wi ax-1 ax-mp )" ∷ codes "( wi ax-1 ax-mp ) ABADCABE?"
    ∷ codes "( wi ax-1 ax-mp ABADCABEF" ∷ codes "( wi ax-1 ax-mp"
    ∷ codes "( wi ax-1 ax-mp ) ABADCAbEF"
    ∷ codes "( wi ax-1 ax-mp ) ABADCABEU" ∷ codes "( wi ax-1 ax-mp ) ZABADCABEF"
    ∷ codes "( wi ax-1 ax-mp ) ABADCABEG" ∷ codes "( wi ax-1 ax-mp ) ABADCABEF" ∷ [])
    ≡ Some (fault 238 EmptyProof) ∷ Some (fault 246 IncompleteProof)
    ∷ Some (fault 236 UnusableLabel) ∷ Some (fault 236 OpenBrackets) ∷ Some (fault 244 BadLetter)
    ∷ Some (fault 248 OpenNumber) ∷ Some (fault 238 MarkBeforeStep)
    ∷ Some (fault 246 NumberTooLarge) ∷ None ∷ []
unfolding statements
faults_read = refl

-- the values of numbers
abbrev numbers_of : List ℕ → List ℕ
numbers_of letters = map value (groups [] (letters_from 0 letters)).0

values_of_letters : flat_map numbers_of
    (codes "A" ∷ codes "T" ∷ codes "UA" ∷ codes "UT" ∷ codes "VA" ∷ codes "YT" ∷ codes "UUA"
    ∷ codes "YYT" ∷ [])
    ≡ 1 ∷ 20 ∷ 21 ∷ 40 ∷ 41 ∷ 120 ∷ 121 ∷ 620 ∷ []
values_of_letters = refl

-- the step of a pair of variables that no `$d` has
abbrev faulty_db : List Statement
faulty_db =
    statements (axioms_text
    ++ codes "${ $d p q $. ax-d $a |- ( p -> q ) $. $} bad $p |- ( p -> q ) $= wp wq ax-d $. ")

two_hypotheses : Trees
two_hypotheses = more (more none 2 (0 ∷ 5 ∷ []) none) 3 (0 ∷ 6 ∷ []) none

identity : ℕ → List ℕ
identity x = x ∷ []

not_disjoint_fault : StepFault (context_at faulty_db 10) (steps_at faulty_db 10)
    (fault 189 NotDisjoint)
unfolding two_hypotheses identity statements
not_disjoint_fault = record {
  before = placed 183 (label 2) ∷ placed 186 (label 3) ∷ [];
  failing = placed 189 (label 8);
  after = [];
  splits = refl;
  forest = two_hypotheses;
  derivations = ((tt, tt, (refl, refl, lit≤ tt)), tt, (refl, refl, lit≤ tt));
  expansion = (2 ∷ [], refl, (2 ∷ 3 ∷ [], refl, refl));
  reason = not_disjoint;
  fails = (identity, lit≤ tt, refl, λ e. true≢false (sym e));
  fault_is = refl;
}
