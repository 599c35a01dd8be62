-- There is one output.
use Rattle.std.proofs.lemmas.Grind.{common_steps}
use Rattle.std.proofs.Common.{◌≡◌, ◌≢◌, ℕ, ◌<◌, Bool, true, false, List, [], ◌∷◌, ◌++◌, map, length}
use Rattle.std.proofs.Common.{Option, Some, None, refl, sym, ap, ap₂, ◌∙◌, subst, append_assoc}
use Rattle.std.proofs.Common.{length-append, take, drop, arith, ◌⊎◌, inl, inr, rules}
use Rattle.std.specs.Prelude.{flat_map, slice_get, count_by, IsTrue}
use Rattle.std.specs.List.{AllZip}
use Rattle.std.proofs.Math.Seq.{take-append_seam, drop-append_seam}
use Rattle.std.proofs.lemmas.Option.{same_Some, none-some}
use Rattle.mm_spec.proofs.FindsLaw.{passing_statement, got_lt_length}
use Rattle.std.proofs.lemmas.Bool.{cases_order}
use Rattle.std.proofs.lemmas.Bool.Decides.{same_from_decides}
use Rattle.std.proofs.lemmas.List.{append_cancel_left}
use Rattle.mm_spec.specs.Text.{Bytes, Token, fault}
use Rattle.mm_spec.specs.declared.Fault.{Fault}
use Rattle.mm_spec.specs.Statement.{Statement, spelling_of, BeginStatements, IsBetween, ShapeFault}
use Rattle.mm_spec.specs.Statement.{AreLongestStatements, FileEndFault, shape_code, is_closing}
use Rattle.mm_spec.specs.Statement.{is_opening}
use Rattle.mm_spec.specs.Lawful.{least, scope_fault}
use Rattle.mm_spec.specs.Derivation.{Formula, Context, Referent, hypothesis, assertion, Trees}
use Rattle.mm_spec.specs.Derivation.{formulas, postfix, AreDerivations}
use Rattle.mm_spec.specs.Steps.{Step, label, marked, PlacedStep}
use Rattle.mm_spec.specs.Valid as proof
use Rattle.mm_spec.specs.Valid.{Reason, code_of, Fails, StepFails, StepFault, ExpandTo, IsEndCode}
use Rattle.mm_spec.specs.Citation.{context_at, steps_at, IsValid}
use Rattle.mm_spec.specs.Report.{Row, CitingRow, ToldLines, report, refusal}
use Rattle.mm_spec.proofs.RisingListsLaw.{equal_if_same_members}
use Rattle.mm_spec.specs.Request.{Request}
use Rattle.mm_spec.specs.declared.Code.{Code}
use Rattle.mm_spec.specs.Lexed.{LexedText, lexed_of}
use Rattle.mm_spec.specs.Output.{TextFault, StopsReading, IsRead, ProofFault, proof_end}
use Rattle.mm_spec.specs.Output.{is_theorem_at, AllAreValid, FirstProofFault, FirstFault}
use Rattle.mm_spec.specs.Output.{HasNoFault, theorems, columns, open_theorem_count, IsRowOf}
use Rattle.mm_spec.specs.Output.{AreCited, IsCitingRowOf, told_lines, IsReportOf, IsOutput}
use Rattle.mm_spec.specs.Assertion.{label_at}
use Rattle.mm_spec.specs.Laws.Stack.{IsCompleteReferent}
use Rattle.mm_laws.proofs.StackRunLaw.{step_stops_if_fails}
use Rattle.mm_spec.specs.Laws.Complete.{HasCompleteFrame, AreComplete}
use Rattle.mm_spec.specs.Opened.{open_as_axioms}
use Rattle.mm_spec.proofs.CompleteLaw.{reads_complete}
use Rattle.mm_spec.proofs.OpenedLaw.{counted_complete}
use Rattle.mm_laws.proofs.ExcludedLaw.{excludes}
use Rattle.mm_laws.proofs.JudgedLaw.{forests_are_equal, stopped_steps, no_step_fault, no_end_fault}
use Rattle.mm_laws.proofs.JudgedLaw.{no_both_faults}
use Rattle.mm_spec.proofs.LongestLaw.{longest_is_what_is_read}
use Rattle.mm_spec.specs.declared.Code.TheVariants.{OpenStatement, OpenBlock}

-- ---- two splits of one list

abbrev Splits : {X : Type 0} → List X → X → List X → X → Type 0
Splits {X} xs x ys y =
    ((xs ≡ ys) × (x ≡ y))
    ⊎ (((zs : List X) × (ys ≡ xs ++ x ∷ zs)) ⊎ ((zs : List X) × (xs ≡ ys ++ y ∷ zs)))

splits_of : {X : Type 0} (xs ys us vs : List X) (x y : X) → xs ++ x ∷ us ≡ ys ++ y ∷ vs
    → Splits xs x ys y
splits_of [] [] us vs x y equal = inl (refl, cc)
splits_of [] (b ∷ ys) us vs x y equal = grind (arith, common_steps)
splits_of (a ∷ xs) [] us vs x y equal = grind (arith, common_steps)
splits_of (a ∷ xs) (b ∷ ys) us vs x y equal =
    let heads : a ≡ b = cc in
    let tails : xs ++ x ∷ us ≡ ys ++ y ∷ vs = cc in
    elim (splits_of xs ys us vs x y tails) [
      | inl (fronts, next) ↦ inl (ap₂ (λ p q. p ∷ q) heads fronts, next)
      | inr (inl (zs, longer)) ↦ inr (inl (zs, ap₂ (λ p q. p ∷ q) (sym heads) longer))
      | inr (inr (zs, longer)) ↦ inr (inr (zs, ap₂ (λ p q. p ∷ q) heads longer))
    ]

-- ---- lists of which each element is determined

pub zip_is_unique : {A B : Type 0} (R : A → B → Type 0)
    → ((x : A) (y z : B) → R x y → R x z → y ≡ z) → (xs : List A) (ys zs : List B)
    → AllZip R xs ys → AllZip R xs zs → ys ≡ zs
zip_is_unique R unique [] [] [] all_y all_z = refl
zip_is_unique R unique [] [] (z ∷ zs) all_y all_z = absurd all_z
zip_is_unique R unique [] (y ∷ ys) zs all_y all_z = absurd all_y
zip_is_unique R unique (x ∷ xs) [] zs all_y all_z = absurd all_y
zip_is_unique R unique (x ∷ xs) (y ∷ ys) [] all_y all_z = absurd all_z
zip_is_unique R unique (x ∷ xs) (y ∷ ys) (z ∷ zs) all_y all_z =
    grind (arith, common_steps, (zip_is_unique R unique xs ys zs all_y.1 all_z.1))

-- ---- faults of steps and of the end

module _ (c : Context) (all_complete : (l : ℕ) → HasCompleteFrame c (c.referent l)) where
  referent_is_complete : (r : Option Referent) (es : List Formula) (a : Reason)
      → HasCompleteFrame c r → Fails c r es a → IsCompleteReferent c r
  referent_is_complete None es _ frame_is_complete fails = absurd fails
  referent_is_complete (Some (hypothesis g)) es a frame_is_complete fails = tt
  referent_is_complete (Some (assertion g)) es a frame_is_complete fails = frame_is_complete

  reason_is_unique : (s : Step) (es : List Formula) (a b : Reason) → StepFails c s es a
      → StepFails c s es b → a ≡ b
  reason_is_unique (label l) es a b fails_by_a fails_by_b =
      search (rules, arith, step_stops_if_fails, referent_is_complete)
  reason_is_unique (marked j) es a b fails_by_a fails_by_b = absurd fails_by_a

  -- no later step fails too
  no_later_fault : (ps : List PlacedStep) (f : Fault) (step_fault : StepFault c ps f) (forest :
      Trees)
      → (steps_before zs : List PlacedStep)
      → AreDerivations c forest → ExpandTo c (map (λ p. p.step) steps_before) (postfix forest)
      → steps_before ≡ step_fault.before ++ step_fault.failing ∷ zs → ⊥
  no_later_fault ps f step_fault forest steps_before zs derives expansion steps_are =
      let fault_before : StepFault c steps_before f =
      record {
        before = step_fault.before;
        failing = step_fault.failing;
        after = zs;
        splits = steps_are;
        forest = step_fault.forest;
        derivations = step_fault.derivations;
        expansion = step_fault.expansion;
        reason = step_fault.reason;
        fails = step_fault.fails;
        fault_is = step_fault.fault_is;
      } in
      excludes c all_complete (map (λ p. p.step) steps_before) step_fault.reason (postfix forest)
      (stopped_steps c all_complete steps_before [] 0 f fault_before) expansion (
        forest,
        derives,
        refl,
      )

  pub step_fault_is_unique : (ps : List PlacedStep) (f g : Fault) → StepFault c ps f
      → StepFault c ps g → f ≡ g
  step_fault_is_unique ps f g faults_f faults_g =
      elim (splits_of faults_f.before faults_g.before faults_f.after faults_g.after
      faults_f.failing faults_g.failing (sym faults_f.splits ∙ faults_g.splits)) [
        | inl (fronts, failing) ↦
            let forests_equal = forests_are_equal c all_complete (map (λ p. p.step) faults_g.before)
            faults_f.forest faults_g.forest faults_f.derivations faults_g.derivations
            (subst (λ x. ExpandTo c (map (λ p. p.step) x) (postfix faults_f.forest)) fronts
            faults_f.expansion) faults_g.expansion in
            let fails_by_reason =
            subst (λ x. StepFails c x.step (formulas faults_g.forest) faults_f.reason) failing
            (subst (λ r. StepFails c faults_f.failing.step (formulas r) faults_f.reason)
            forests_equal faults_f.fails) in
            faults_f.fault_is ∙ ap₂ (λ p r. fault p.at (code_of r)) failing
            (reason_is_unique faults_g.failing.step (formulas faults_g.forest) faults_f.reason
            faults_g.reason fails_by_reason faults_g.fails)
            ∙ sym faults_g.fault_is
        | inr (inl (zs, longer)) ↦ absurd (no_later_fault ps f faults_f faults_g.forest
            faults_g.before zs faults_g.derivations faults_g.expansion longer)
        | inr (inr (zs, longer)) ↦ absurd (no_later_fault ps g faults_g faults_f.forest
            faults_f.before zs faults_f.derivations faults_f.expansion longer)
      ]

  code_is_unique : (xs : List Formula) (formula : Formula) (a b : Code) → IsEndCode xs formula a
      → IsEndCode xs formula b → a ≡ b
  code_is_unique [] formula a b is_code_a is_code_b = is_code_a ∙ sym is_code_b
  code_is_unique (g ∷ []) formula a b is_code_a is_code_b = is_code_a.1 ∙ sym is_code_b.1
  code_is_unique (g ∷ e ∷ xs) formula a b is_code_a is_code_b = is_code_a ∙ sym is_code_b

  pub end_fault_is_unique : (ps : List PlacedStep) (formula : Formula) (end : ℕ) (f g : Fault)
      → proof.ProofEndFault c ps formula end f → proof.ProofEndFault c ps formula end g → f ≡ g
  end_fault_is_unique ps formula end f g faults_f faults_g =
      search (rules, arith, forests_are_equal, code_is_unique)

nil_has_no_least : (fs : List Fault) (f : Fault) → fs ≡ [] → least fs ≡ Some f → ⊥
nil_has_no_least fs f fs_is_nil least_is_f = none-some f (sym (ap least fs_is_nil) ∙ least_is_f)

module _ (db : List Statement) (all_complete : AreComplete db) where
  pub proof_fault_is_unique : (k end : ℕ) (f g : Fault) → ProofFault db k end f
      → ProofFault db k end g → f ≡ g
  proof_fault_is_unique k end f g (inl least_is_f) (inl least_is_g) =
      same_Some f g (sym least_is_f ∙ least_is_g)
  proof_fault_is_unique k end f g (inl least_is_f) (inr (none, _)) =
      absurd (nil_has_no_least _ f none least_is_f)
  proof_fault_is_unique k end f g (inr (none, _)) (inl least_is_g) =
      absurd (nil_has_no_least _ g none least_is_g)
  proof_fault_is_unique k end f g (inr (_, inl of_f)) (inr (_, inl of_g)) =
      step_fault_is_unique (context_at db k) (all_complete k) (steps_at db k) f g of_f of_g
  proof_fault_is_unique k end f g (inr (_, inl of_f)) (inr (_, inr of_g)) =
      search (rules, arith, no_both_faults)
  proof_fault_is_unique k end f g (inr (_, inr of_f)) (inr (_, inl of_g)) =
      search (rules, arith, no_both_faults)
  proof_fault_is_unique k end f g (inr (_, inr of_f)) (inr (_, inr of_g)) =
      search (rules, arith, end_fault_is_unique)

  pub valid_has_no_fault : (k end : ℕ) (f : Fault) → IsValid db k → ProofFault db k end f → ⊥
  valid_has_no_fault k end f is_valid (inl least_is_f) = nil_has_no_least _ f is_valid.0 least_is_f
  valid_has_no_fault k end f is_valid (inr (_, inl of_step)) = search (rules, arith, no_step_fault)
  valid_has_no_fault k end f is_valid (inr (_, inr of_end)) = search (rules, arith, no_end_fault)

  no_first_fault_is_earlier : (j k : ℕ) (f g : Fault) → j < k → FirstProofFault db j f
      → FirstProofFault db k g → ⊥
  no_first_fault_is_earlier j k f g j_lt_k is_first_f is_first_g = valid_has_no_fault j (proof_end
      (slice_get db j)) f (is_first_g.1 j j_lt_k is_first_f.0) is_first_f.2

  first_proof_fault_is_unique : (j k : ℕ) (f g : Fault) → FirstProofFault db j f
      → FirstProofFault db k g → f ≡ g
  first_proof_fault_is_unique j k f g is_first_f is_first_g = elim (cases_order j k) [
    | inl j_is_k ↦ proof_fault_is_unique k (proof_end (slice_get db k)) f g
        (subst (λ n. ProofFault db n (proof_end (slice_get db n)) f) j_is_k is_first_f.2)
        is_first_g.2
    | inr (inl j_lt_k) ↦ absurd (no_first_fault_is_earlier j k f g j_lt_k is_first_f is_first_g)
    | inr (inr k_lt_j) ↦ absurd (no_first_fault_is_earlier k j g f k_lt_j is_first_g is_first_f)
  ]

-- ---- rows of marks

row_is_unique : (db : List Statement) (request : Request) (t : ℕ) (r s : Row)
    → IsRowOf db request t r → IsRowOf db request t s → r ≡ s
row_is_unique db request t r s is_row_r is_row_s =
    search (rules, arith, zip_is_unique, same_from_decides)

-- ---- faults of the text

front_begins : (tokens_before zs : List Token) (x : Token)
    → BeginStatements (tokens_before ++ x ∷ zs)
    → BeginStatements (tokens_before ++ x ∷ [])
front_begins tokens_before zs x begins = (
  begins.0,
  begins.1,
  zs ++ begins.2,
  begins.3 ∙ append_assoc tokens_before (x ∷ zs) begins.2
      ∙ sym (append_assoc tokens_before (x ∷ []) (zs ++ begins.2)),
)

shape_fault_is_unique : (ts : List Token) (f g : Fault) → ShapeFault ts f → ShapeFault ts g → f ≡ g
shape_fault_is_unique ts f g faults_f faults_g =
    faults_equal_by_split
    (splits_of faults_f.before faults_g.before faults_f.after faults_g.after faults_f.first
    faults_g.first (sym faults_f.splits ∙ faults_g.splits))
  where
    HasShapeCode : List Token → Token → Fault → Type 0
    HasShapeCode tokens_before first_token f =
        (IsBetween tokens_before × (f ≡ fault first_token.at (shape_code true first_token.word)))
        ⊎ ((¬ IsBetween tokens_before) × (f ≡ fault first_token.at (shape_code false
        first_token.word)))

    faults_equal : (tokens_before : List Token) (first_token : Token)
        → HasShapeCode tokens_before first_token f → HasShapeCode tokens_before first_token g
        → f ≡ g
    faults_equal tokens_before first_token (inl code_of_f) (inl code_of_g) = code_of_f.1
        ∙ sym code_of_g.1
    faults_equal tokens_before first_token (inl code_of_f) (inr code_of_g) = absurd (code_of_g.0
        code_of_f.0)
    faults_equal tokens_before first_token (inr code_of_f) (inl code_of_g) = absurd (code_of_f.0
        code_of_g.0)
    faults_equal tokens_before first_token (inr code_of_f) (inr code_of_g) = code_of_f.1
        ∙ sym code_of_g.1

    faults_equal_by_split : Splits faults_f.before faults_f.first faults_g.before faults_g.first
        → f ≡ g
    faults_equal_by_split (inl splits_equal) =
        faults_equal faults_g.before faults_g.first
        (subst (λ x. HasShapeCode faults_g.before x f) splits_equal.1
        (subst (λ b. HasShapeCode b faults_f.first f) splits_equal.0 faults_f.fault_is))
        faults_g.fault_is
    faults_equal_by_split (inr (inl is_longer)) =
        absurd (faults_f.no_more (front_begins faults_f.before is_longer.0 faults_f.first
        (subst BeginStatements is_longer.1 faults_g.begins)))
    faults_equal_by_split (inr (inr is_longer)) =
        absurd (faults_g.no_more (front_begins faults_g.before is_longer.0 faults_g.first
        (subst BeginStatements is_longer.1 faults_f.begins)))

longest_statements_equal : (ts : List Token) (a b : List Statement) → AreLongestStatements ts a
    → AreLongestStatements ts b → a ≡ b
longest_statements_equal ts a b is_longest_a is_longest_b =
    sym (longest_is_what_is_read ts a is_longest_a)
    ∙ longest_is_what_is_read ts b is_longest_b

file_end_fault_is_unique : (len : ℕ) (ts : List Token) (f g : Fault) → FileEndFault len ts f
    → FileEndFault len ts g → f ≡ g
file_end_fault_is_unique len ts f g faults_f faults_g = faults_equal_by_kinds faults_f.fault_is
    faults_g.fault_is
  where
    rests_equal : faults_f.are_statements.rest ≡ faults_g.are_statements.rest
    rests_equal =
        append_cancel_left (flat_map spelling_of faults_g.statements) faults_f.are_statements.rest
        faults_g.are_statements.rest
        (sym (subst (λ r. ts ≡ flat_map spelling_of r ++ faults_f.are_statements.rest)
        (longest_statements_equal ts faults_f.statements faults_g.statements faults_f.are_statements
        faults_g.are_statements) faults_f.are_statements.splits)
        ∙ faults_g.are_statements.splits)

    faults_equal_by_kinds : ((faults_f.are_statements.rest ≢ []) × (f ≡ fault len OpenStatement))
        ⊎ ((faults_f.are_statements.rest ≡ [])
        × (count_by is_closing faults_f.statements < count_by is_opening faults_f.statements)
        × (f ≡ fault len OpenBlock))
        → ((faults_g.are_statements.rest ≢ []) × (g ≡ fault len OpenStatement))
        ⊎ ((faults_g.are_statements.rest ≡ [])
        × (count_by is_closing faults_g.statements < count_by is_opening faults_g.statements)
        × (g ≡ fault len OpenBlock))
        → f ≡ g
    faults_equal_by_kinds (inl code_of_f) (inl code_of_g) = code_of_f.1 ∙ sym code_of_g.1
    faults_equal_by_kinds (inl code_of_f) (inr code_of_g) = absurd
        (code_of_f.0 (rests_equal ∙ code_of_g.0))
    faults_equal_by_kinds (inr code_of_f) (inl code_of_g) = absurd
        (code_of_g.0 (sym rests_equal ∙ code_of_f.0))
    faults_equal_by_kinds (inr code_of_f) (inr code_of_g) = code_of_f.2 ∙ sym code_of_g.2

text_fault_is_unique : (len : ℕ) (ts : List Token) (o : Option Fault) (f g : Fault)
    → TextFault len (record { tokens = ts; fault = o }) f
    → TextFault len (record { tokens = ts; fault = o }) g → f ≡ g
text_fault_is_unique len ts o f g (inl faults_f) (inl faults_g) = shape_fault_is_unique ts f g
    faults_f faults_g
text_fault_is_unique len ts o f g (inl faults_f) (inr faults_g) = absurd (faults_g.0 (f, faults_f))
text_fault_is_unique len ts o f g (inr faults_f) (inl faults_g) = absurd (faults_f.0 (g, faults_g))
text_fault_is_unique len ts (Some e) f g (inr faults_f) (inr faults_g) = faults_f.1 ∙ sym faults_g.1
text_fault_is_unique len ts None f g (inr faults_f) (inr faults_g) = file_end_fault_is_unique len ts
    f g faults_f.1 faults_g.1

-- ---- what is read

fronts_equal : {X : Type 0} (xs ys us vs : List X) → length xs ≡ length ys
    → xs ++ us ≡ ys ++ vs → (xs ≡ ys) × (us ≡ vs)
fronts_equal xs ys us vs lengths equal = (
  sym (take-append_seam xs us) ∙ ap₂ take lengths equal ∙ take-append_seam ys vs,
  sym (drop-append_seam xs us) ∙ ap₂ drop lengths equal ∙ drop-append_seam ys vs,
)

stopping_fault_is_unique : (len : ℕ) (x : LexedText) (statements db later : List Statement) (f g :
    Option Fault)
    → StopsReading len x statements db later f → StopsReading len x statements db later g → f ≡ g
stopping_fault_is_unique len x statements db (s ∷ later) f g stops_with_f stops_with_g = cc
stopping_fault_is_unique len x statements db [] None None stops_with_f stops_with_g = refl
stopping_fault_is_unique len x statements db [] None (Some g) stops_with_f stops_with_g = absurd
    (stops_with_f g stops_with_g)
stopping_fault_is_unique len x statements db [] (Some f) None stops_with_f stops_with_g = absurd
    (stops_with_g f stops_with_f)
stopping_fault_is_unique len x statements db [] (Some f) (Some g) stops_with_f stops_with_g =
    ap Some (text_fault_is_unique len x.tokens x.fault f g stops_with_f stops_with_g)

no_reading_is_shorter : (len : ℕ) (x : LexedText) (a b : List Statement) (f g : Option Fault)
    → IsRead len x a f → IsRead len x b g → length a < length b → ⊥
no_reading_is_shorter len x a b f g reads_a reads_b a_lt_b =
    stops_earlier reads_a.rest reads_a.splits reads_a.stops
  where
    statements_equal : reads_a.statements ≡ reads_b.statements
    statements_equal = longest_statements_equal x.tokens reads_a.statements reads_b.statements
        reads_a.are_statements reads_b.are_statements

    stops_earlier : (rest : List Statement) → reads_a.statements ≡ a ++ rest
        → StopsReading len x reads_a.statements a rest f → ⊥
    stops_earlier [] splits stops =
        let lengths = ap length (sym splits ∙ statements_equal ∙ reads_b.splits) in
        omega (arith, lengths, length-append {A = Statement})
    stops_earlier (s ∷ rest) splits stops =
        stops.0 (sym stops.1 ∙ ap (λ r. scope_fault r (length a)) statements_equal
        ∙ reads_b.lawful (length a) a_lt_b)

reading_is_unique : (len : ℕ) (x : LexedText) (a b : List Statement) (f g : Option Fault)
    → IsRead len x a f → IsRead len x b g → (a ≡ b) × (f ≡ g)
reading_is_unique len x a b f g reads_a reads_b = elim (cases_order (length a) (length b)) [
  | inl lengths ↦
      let statements_equal = longest_statements_equal x.tokens reads_a.statements
      reads_b.statements reads_a.are_statements reads_b.are_statements in
      let equal = fronts_equal a b reads_a.rest reads_b.rest lengths
      (sym reads_a.splits ∙ statements_equal ∙ reads_b.splits) in (
        equal.0,
        stopping_fault_is_unique len x reads_b.statements b reads_b.rest f g
            (subst (λ r. StopsReading len x r b reads_b.rest f) statements_equal
            (subst (λ r. StopsReading len x reads_a.statements b r f) equal.1
            (subst (λ d. StopsReading len x reads_a.statements d reads_a.rest f) equal.0
            reads_a.stops))) reads_b.stops,
      )
  | inr (inl a_lt_b) ↦ absurd (no_reading_is_shorter len x a b f g reads_a reads_b a_lt_b)
  | inr (inr b_lt_a) ↦ absurd (no_reading_is_shorter len x b a g f reads_b reads_a b_lt_a)
]

-- ---- the output

theorem_lt_length : (db : List Statement) (k : ℕ) → IsTrue (is_theorem_at db k) → k < length db
theorem_lt_length db k is_theorem_k = search (rules, arith, passing_statement, got_lt_length)

module _ (len : ℕ) (x : LexedText) (with_open : Bool) where
  IsCauseOf : List Statement → Option Fault → Fault → Type 0
  IsCauseOf db o f =
      ((k : ℕ) × FirstProofFault (open_as_axioms with_open db) k f)
      ⊎ (AllAreValid (open_as_axioms with_open db) × (o ≡ Some f))

  are_complete : (db : List Statement) (o : Option Fault) → IsRead len x db o
      → AreComplete (open_as_axioms with_open db)
  are_complete db o is_read = counted_complete with_open db (reads_complete len x db o is_read)

  -- a proof with a fault is not valid
  fault_or_all_valid : (db : List Statement) (o : Option Fault) → IsRead len x db o
      → (k : ℕ) (f : Fault) → FirstProofFault (open_as_axioms with_open db) k f
      → AllAreValid (open_as_axioms with_open db) → ⊥
  fault_or_all_valid db o is_read k f is_first are_valid =
      search (rules, arith, valid_has_no_fault, are_complete, theorem_lt_length)

  first_fault_is_unique : (f g : Fault) → FirstFault len x with_open f
      → FirstFault len x with_open g → f ≡ g
  unfolding IsCauseOf
  first_fault_is_unique f g faults_f faults_g =
      let readings_equal = reading_is_unique len x faults_f.0 faults_g.0 faults_f.1 faults_g.1
      faults_f.2 faults_g.2 in
      faults_equal_by_causes
      (subst (λ d. IsCauseOf d faults_g.1 f) readings_equal.0 (subst (λ o. IsCauseOf faults_f.0 o f)
      readings_equal.1 faults_f.3)) faults_g.3
    where
      faults_equal_by_causes : IsCauseOf faults_g.0 faults_g.1 f → IsCauseOf faults_g.0 faults_g.1 g
          → f ≡ g
      faults_equal_by_causes (inl (j, first_f)) (inl (k, first_g)) =
          first_proof_fault_is_unique (open_as_axioms with_open faults_g.0) (are_complete faults_g.0
          faults_g.1 faults_g.2) j k f g first_f first_g
      faults_equal_by_causes (inl (j, first_f)) (inr (all_valid, _)) =
          absurd (fault_or_all_valid faults_g.0 faults_g.1 faults_g.2 j f first_f all_valid)
      faults_equal_by_causes (inr (all_valid, _)) (inl (k, first_g)) =
          absurd (fault_or_all_valid faults_g.0 faults_g.1 faults_g.2 k g first_g all_valid)
      faults_equal_by_causes (inr (_, is_f)) (inr (_, is_g)) = same_Some f g (sym is_f ∙ is_g)

  fault_or_none : (f : Fault) (db : List Statement) → FirstFault len x with_open f
      → HasNoFault len x with_open db → ⊥
  unfolding IsCauseOf
  fault_or_none f db has_fault has_none =
      let readings_equal = reading_is_unique len x has_fault.0 db has_fault.1 None has_fault.2
      has_none.0 in
      no_fault_by_cause
      (subst (λ d. IsCauseOf d None f) readings_equal.0 (subst (λ o. IsCauseOf has_fault.0
      o f) readings_equal.1 has_fault.3))
    where
      no_fault_by_cause : IsCauseOf db None f → ⊥
      no_fault_by_cause (inl (k, is_first)) =
          fault_or_all_valid db None has_none.0 k f is_first has_none.1
      no_fault_by_cause (inr (_, none_is_f)) = none-some f none_is_f

-- ---- rows of citations

cited_list_is_unique : (db : List Statement) (request : Request) (t : ℕ) (a b : List ℕ)
    → AreCited db request t a → AreCited db request t b → a ≡ b
cited_list_is_unique db request t a b are_cited_a are_cited_b =
    search (rules, arith, equal_if_same_members, same_from_decides)

citing_row_is_unique : (db : List Statement) (request : Request) (t : ℕ) (r s : CitingRow)
    → IsCitingRowOf db request t r → IsCitingRowOf db request t s → r ≡ s
citing_row_is_unique db request t r s is_row_r is_row_s =
    ap₂ (λ (l : Bytes) (m : List Bytes). record { label = l; cited = m }) (is_row_r.0
    ∙ sym is_row_s.0)
    (is_row_r.1.2 ∙ ap (map (label_at db)) (cited_list_is_unique db request t is_row_r.1.0
    is_row_s.1.0 is_row_r.1.1 is_row_s.1.1)
    ∙ sym is_row_s.1.2)

-- a database has one report
report_is_unique : (db : List Statement) (opened : Option ℕ) (lines : ToldLines)
    → (request : Request) (a b : List ℕ) → IsReportOf db opened lines request a
    → IsReportOf db opened lines request b → a ≡ b
report_is_unique db opened lines request a b is_report_a is_report_b =
    is_report_a.bytes_are
    ∙ ap₂ (λ (rows : List Row) (citing : List CitingRow). report request opened
    (map (label_at db) (columns db request.only)) rows citing lines)
    (zip_is_unique _ (row_is_unique db request) (theorems db) is_report_a.rows is_report_b.rows
    is_report_a.are_rows is_report_b.are_rows)
    (zip_is_unique _ (citing_row_is_unique db request) (theorems db) is_report_a.citing_rows
    is_report_b.citing_rows is_report_a.are_citing_rows is_report_b.are_citing_rows)
    ∙ sym is_report_b.bytes_are

-- there is one output
pub output_is_unique_for_text : (text : List ℕ) (request : Request) (a b : List ℕ)
    → IsOutput text request a → IsOutput text request b → a ≡ b
output_is_unique_for_text text request a b (inl is_output_a) (inl is_output_b) =
    is_output_a.2 ∙ ap (refusal text)
    (first_fault_is_unique (length text) (lexed_of text) request.with_open is_output_a.0
    is_output_b.0 is_output_a.1 is_output_b.1)
    ∙ sym is_output_b.2
output_is_unique_for_text text request a b (inl is_output_a) (inr is_output_b) =
    search (rules, arith, fault_or_none)
output_is_unique_for_text text request a b (inr is_output_a) (inl is_output_b) =
    search (rules, arith, fault_or_none)
output_is_unique_for_text text request a b (inr is_output_a) (inr is_output_b) =
    let databases_equal : is_output_a.0 ≡ is_output_b.0 =
    (reading_is_unique (length text) (lexed_of text) is_output_a.0 is_output_b.0 None None
    is_output_a.1.0 is_output_b.1.0).0 in
    report_is_unique (open_as_axioms request.with_open is_output_b.0)
    (open_theorem_count is_output_b.0 request) (told_lines is_output_b.0 request) request a b
    (subst (λ d. IsReportOf (open_as_axioms request.with_open d) (open_theorem_count d request)
    (told_lines d request) request a) databases_equal is_output_a.2) is_output_b.2
