-- The definitions at small texts.
use Rattle.std.specs.Prelude.{◌≡◌, ℕ, true, false, List, [], ◌∷◌, ◌++◌, Some, None, codes, refl}
use Rattle.std.specs.Prelude.{flat_map, map, ◌==◌}
use Rattle.std.proofs.Common.{lit≤}
use Rattle.std.specs.Fmt.{digits}
use Rattle.std.specs.List.{range_with_len}
use Rattle.mm_spec.specs.Text.{token, fault}
use Rattle.mm_spec.specs.Statement.{Statement, constants, spelling_of}
use Rattle.mm_spec.specs.Laws.Table.{start, shape_fault_from}
use Rattle.mm_spec.specs.Scope.{active}
use Rattle.mm_spec.specs.Lawful.{scope_fault}
use Rattle.mm_spec.specs.Derivation.{Trees, none, more, tree, AreDerivations, pair}
use Rattle.mm_spec.specs.Frame.{symbol_names, frame_at}
use Rattle.mm_spec.specs.Steps.{label, placed}
use Rattle.mm_spec.specs.Citation.{context_at, steps_at, IsValid}
use Rattle.mm_spec.specs.Report.{cells, report, line, refusal}
use Rattle.mm_spec.specs.Request.{Request, without_options, default_sections, no_sections}
use Rattle.mm_spec.specs.declared.Sections.{Sections}
use Rattle.mm_spec.specs.declared.Form.{Form}
use Rattle.mm_spec.specs.declared.Form.TheVariants.{One, Two}
use Rattle.mm_laws.proofs.ReaderLaw.{lexed, statements}
use Rattle.mm_spec.specs.declared.Code.TheVariants.{OpenComment, BadByte, UnopenedBlock}
use Rattle.mm_spec.specs.declared.Code.TheVariants.{ConstantInBlock, OtherTypecode, UntypedVariable}
use Rattle.mm_spec.specs.declared.Code.TheVariants.{RepeatedVariable, NotDisjoint}

abbrev axioms_text : List ℕ
axioms_text =
    codes "$c wff |- ( -> ) $. $v p q $. wp $f wff p $. wq $f wff q $. wi $a wff ( p -> q ) $. ax-1 $a |- ( p -> ( q -> p ) ) $. "

-- comments are no tokens
comments_are_no_tokens : lexed (codes "$c a $( $c $. b $) $. $( c")
    ≡ record {
      tokens = token 0 (codes "$c") ∷ token 3 (codes "a") ∷ token 19 (codes "$.") ∷ [];
      fault = Some (fault 22 OpenComment);
    }
unfolding lexed
comments_are_no_tokens = refl

bad_byte : (lexed (codes "$c a" ++ 7 ∷ codes "b $.")).fault ≡ Some (fault 4 BadByte)
unfolding lexed
bad_byte = refl

-- the statements end before a `$}` that closes no block
stops_at : statements (codes "$c a $. $} $c b $.") ≡ constants 0 (token 3 (codes "a") ∷ []) 5 ∷ []
unfolding statements
stops_at = refl

unopened : shape_fault_from (start 0) (lexed (codes "$c a $. $} $c b $.")).tokens
    ≡ Some (fault 8 UnopenedBlock)
unfolding lexed
unopened = refl

statements_are_spelled : flat_map spelling_of (statements axioms_text) ≡ (lexed axioms_text).tokens
unfolding statements
statements_are_spelled = refl

axioms_active : active (statements axioms_text) 6 ≡ 0 ∷ 1 ∷ 2 ∷ 3 ∷ 4 ∷ 5 ∷ []
unfolding statements
axioms_active = refl

axioms_are_lawful : map (scope_fault (statements axioms_text)) (range_with_len 0 6)
    ≡ None ∷ None ∷ None ∷ None ∷ None ∷ None ∷ []
unfolding statements
axioms_are_lawful = refl

constant_in_block : scope_fault (statements (codes "$c a $. ${ $c b $. $}")) 2
    ≡ Some (fault 11 ConstantInBlock)
unfolding statements
constant_in_block = refl

other_typecode : scope_fault
    (statements (codes "$c a b $. ${ $v x $. fx $f a x $. $} ${ $v x $. gx $f b x $. $}")) 7
    ≡ Some (fault 56 OtherTypecode)
unfolding statements
other_typecode = refl

untyped_variable : scope_fault (statements (codes "$c a $. $v x $. y $a a x $.")) 2
    ≡ Some (fault 23 UntypedVariable)
unfolding statements
untyped_variable = refl

repeated_variable : scope_fault (statements (codes "$v x $. $d x x $.")) 1
    ≡ Some (fault 13 RepeatedVariable)
unfolding statements
repeated_variable = refl

abbrev theorem_text : List ℕ
theorem_text = axioms_text ++ codes "wi2 $p wff ( p -> ( q -> p ) ) $= wp wq wp wi wi $. "

abbrev theorem_db : List Statement
theorem_db = statements theorem_text

names_of_symbols : symbol_names theorem_db
    ≡ codes "wff" ∷ codes "|-" ∷ codes "(" ∷ codes "->" ∷ codes ")" ∷ codes "p" ∷ codes "q" ∷ []
unfolding statements
names_of_symbols = refl

frame_of_wi : frame_at theorem_db 4
    ≡ record {
      hypotheses = (0 ∷ 5 ∷ []) ∷ (0 ∷ 6 ∷ []) ∷ [];
      pairs = [];
      formula = 0 ∷ 2 ∷ 5 ∷ 3 ∷ 6 ∷ 4 ∷ [];
    }
unfolding statements
frame_of_wi = refl

steps_of_wi2 : steps_at theorem_db 6
    ≡ placed 152 (label 2) ∷ placed 155 (label 3) ∷ placed 158 (label 2) ∷ placed 161 (label 4)
    ∷ placed 164 (label 4) ∷ []
unfolding statements
steps_of_wi2 = refl

-- the derivation of `wi2`
abbrev inner_children : Trees
inner_children = more (more none 3 (0 ∷ 6 ∷ []) none) 2 (0 ∷ 5 ∷ []) none

abbrev inner_formula : List ℕ
inner_formula = 0 ∷ 2 ∷ 6 ∷ 3 ∷ 5 ∷ 4 ∷ []

abbrev outer_children : Trees
outer_children = more (more none 2 (0 ∷ 5 ∷ []) none) 4 inner_formula inner_children

abbrev wi2_formula : List ℕ
wi2_formula = 0 ∷ 2 ∷ 5 ∷ 3 ∷ 2 ∷ 6 ∷ 3 ∷ 5 ∷ 4 ∷ 4 ∷ []

abbrev swap_pq : ℕ → List ℕ
swap_pq x = elim (x == 5) [ true ↦ 6 ∷ [] | false ↦ 5 ∷ [] ]

abbrev p_to_p : ℕ → List ℕ
p_to_p x = elim (x == 5) [ true ↦ 5 ∷ [] | false ↦ 2 ∷ 6 ∷ 3 ∷ 5 ∷ 4 ∷ [] ]

derivation_of_wi2 : AreDerivations (context_at theorem_db 6) (tree 4 wi2_formula outer_children)
unfolding statements
derivation_of_wi2 = (
  tt,
  (
    (tt, tt, (refl, refl, lit≤ tt)),
    ((tt, tt, (refl, refl, lit≤ tt)), tt, (refl, refl, lit≤ tt)),
    (swap_pq, refl, refl, refl, lit≤ tt),
  ),
  (p_to_p, refl, refl, refl, lit≤ tt),
)

wi2_is_valid : IsValid theorem_db 6
unfolding statements
wi2_is_valid = (
  refl,
  tree 4 wi2_formula outer_children,
  (
    4,
    outer_children,
    refl,
    derivation_of_wi2,
    (
      2 ∷ [],
      refl,
      (
        2 ∷ 3 ∷ [],
        refl,
        (2 ∷ 3 ∷ 2 ∷ [], refl, (2 ∷ 3 ∷ 2 ∷ 4 ∷ [], refl, (2 ∷ 3 ∷ 2 ∷ 4 ∷ 4 ∷ [], refl, refl))),
      ),
    ),
  ),
)

-- a text whose last proof has a fault
abbrev faulty_text : List ℕ
faulty_text =
    axioms_text
    ++ codes "${ $d p q $. ax-d $a |- ( p -> q ) $. $} bad $p |- ( p -> q ) $= wp wq ax-d $. "

frame_of_ax_d : (frame_at (statements faulty_text) 8).pairs ≡ pair 5 6 ∷ []
unfolding statements
frame_of_ax_d = refl

refusal_in_line_2 : refusal (axioms_text ++ 10 ∷ codes "ab") (fault 121 NotDisjoint)
    ≡ codes "refused 2:3 E36" ++ 10 ∷ []
unfolding digits
refusal_in_line_2 = refl

-- the request of these sections, in this form
abbrev of_sections : Sections → Form → Request
of_sections sections form = record without_options { sections = sections; form = form }

report_of_wi2 : report (of_sections default_sections One) None (codes "wi" ∷ codes "ax-1" ∷ [])
    (record { label = codes "wi2"; marks = true ∷ false ∷ [] } ∷ []) []
    (record { proofs = []; statements = [] })
    ≡ flat_map line (codes "mmdepend 1" ∷ codes "axioms 2" ∷ codes "theorems 1" ∷ codes "matrix"
    ∷ codes "wi2:10" ∷ codes "counts" ∷ codes "wi2:1" ∷ codes "usage" ∷ codes "wi:1:wi2"
    ∷ codes "ax-1:0:" ∷ codes "end" ∷ [])
unfolding digits
report_of_wi2 = refl

-- a digit stands for four columns, the first of them as its highest bit; columns that are missing
-- count as 0
hexadecimal_cells : cells Two (true ∷ false ∷ true ∷ true ∷ true ∷ false ∷ []) ≡ codes "b8"
hexadecimal_cells = refl

-- four sections in their order: the matrix, the citations, the proofs, the statements
report_with_citations :
    report (of_sections (record no_sections {
      matrix = true;
      citations = true;
      proofs = true;
      statements = true;
    }) Two) None (codes "wi" ∷ [])
    (record { label = codes "a2"; marks = true ∷ [] }
    ∷ record { label = codes "b"; marks = false ∷ [] } ∷ [])
    (record { label = codes "a2"; cited = codes "wi" ∷ codes "a1i" ∷ [] }
    ∷ record { label = codes "b"; cited = [] } ∷ [])
    (record { proofs = line (codes "b:1:wp"); statements = line (codes "b:p:0:9: $p p") })
    ≡ flat_map line
    (codes "mmdepend 2" ∷ codes "axioms 1" ∷ codes "theorems 2" ∷ codes "matrix" ∷ codes "a2:8"
    ∷ codes "b:0" ∷ codes "citations" ∷ codes "a2:2:wi a1i" ∷ codes "b:0:" ∷ codes "proofs"
    ∷ codes "b:1:wp" ∷ codes "statements"
    ∷ codes "b:p:0:9: $p p" ∷ codes "end" ∷ [])
unfolding digits
report_with_citations = refl
