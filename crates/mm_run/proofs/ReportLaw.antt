-- The report that is written is that of the definitions: a mark stands for a chain of citations.
use Rattle.std.proofs.Common.{◌≡◌, ◌∙◌, ℕ, suc, ◌<◌, Bool, false, ◌||◌, List, [], ◌∷◌, ◌++◌}
use Rattle.std.proofs.Common.{length, map, get_or, Option, None, refl, sym, ap, subst, arith, ◌↔◌}
use Rattle.std.proofs.Common.{append-nil}
use Rattle.std.proofs.lemmas.Grind.{common_steps}
use Rattle.std.specs.Prelude.{Decides, codes, flat_map}
use Rattle.std.specs.List.{AllZip}
use Rattle.std.proofs.lemmas.List.{get_or-map, length-map}
use Rattle.std.proofs.lemmas.List.FromFn.{get_or-map-range_with_len, length-map-range_with_len}
use Rattle.mm_spec.specs.Statement.{Statement}
use Rattle.mm_spec.specs.Citation as proof
use Rattle.mm_spec.specs.Text.{Bytes}
use Rattle.mm_spec.specs.Report.{Row, CitingRow, ToldLines, report, head, section, citation_line}
use Rattle.mm_spec.specs.Report.{line}
use Rattle.mm_spec.specs.Request.{Request, has_marks}
use Rattle.mm_spec.specs.Assertion.{label_at}
use Rattle.mm_spec.specs.Output.{IsRowOf, theorems, columns, IsReportOf, IsOutput, AllAreValid}
use Rattle.mm_spec.specs.Laws.Complete.{AreComplete}
use Rattle.mm_database.specs.Database.{Contents}
use Rattle.mm_spec.proofs.ChainsLaw.{alike_relations_have_alike_chains}
use Rattle.mm_spec.proofs.CompleteLaw.{reads_complete}
use Rattle.mm_spec.proofs.OpenedLaw.{counted_complete}
use Rattle.mm_spec.proofs.RestsLaw.{rows_of as rows_of_theorems}
use Rattle.mm_work.specs.Citing.{Citing, HasCitation, theorem_at}
use Rattle.mm_rows.specs.Marks.{Marks, mark, IsMatrix}
use Rattle.mm_report.specs.Rows.{report_row_of, rows_of, marks_of}
use Rattle.mm_report.specs.Reports.{open_theorem_count, report_of, unmarked_report_of}
use Rattle.mm_report.specs.CitingRows.{citing_rows, citing_rows_of}
use Rattle.mm_report.specs.Told.{told_of}
use Rattle.mm_run.specs.Judging.{IsFaultless}
use Rattle.mm_run.proofs.OutputLaw.{is_output}
use Rattle.mm_run.proofs.CitationsLaw.{citing_rows_are}
use Rattle.mm_run.proofs.ListLaw.{zip_by_index}
use Rattle.mm_work.specs.Judged.{AllHaveCitations, CitesAsDatabase}

-- a Boolean that decides a statement decides each equivalent one
decides_through : {P Q : Type 0} (b : Bool) → Decides b P → P ↔ Q → Decides b Q
decides_through b decides_P P_iff_Q = (
  (λ is_true. P_iff_Q.0 (decides_P.0 is_true)),
  (λ holds.
      decides_P.1 (P_iff_Q.1 holds)),
)

module _ (db : List Statement) (request : Request) (c : Citing) (m : Marks)
    (theorems_are : c.theorems ≡ theorems db) (cites_as_database : CitesAsDatabase db
    request.essential c)
    (is_matrix : IsMatrix c (columns db request.only) m) where
  -- the marks of row i decide which columns theorem i rests on
  marks_decide : (i : ℕ) → i < length (theorems db)
      → AllZip (λ a b. Decides b (proof.RestsOn db request.essential (get_or (theorems db) i 0) a))
      (columns db request.only) (marks_of m i)
  marks_decide i i_lt_theorem_count =
      let mark_count_is = length-map-range_with_len (mark m i) 0 m.columns in
      let column_count_is = is_matrix.columns_are in
      zip_by_index
      (λ a b. Decides b (proof.RestsOn db request.essential (get_or (theorems db) i 0) a))
      (columns db request.only) (marks_of m i) 0 false (omega (
        arith,
        mark_count_is,
        column_count_is,
      ))
      (λ j j_lt_length.
      let i_lt_count : i < length c.theorems = subst (λ (ts : List ℕ). i < length ts)
      (sym theorems_are) i_lt_theorem_count in
      let decided =
      decides_through (mark m i j) (is_matrix.marks_decide i j i_lt_count j_lt_length)
      (alike_relations_have_alike_chains (HasCitation c) (proof.Cites db request.essential)
      cites_as_database.citations_agree (theorem_at c i)
      (get_or (columns db request.only) j 0)) in
      subst (λ b. Decides b
      (proof.RestsOn db request.essential (get_or (theorems db) i 0)
      (get_or (columns db request.only) j 0)))
      (sym (get_or-map-range_with_len (mark m i) 0 m.columns j j false (omega (
        arith,
        j_lt_length,
        column_count_is,
      ))
      (omega arith)))
      (subst (λ t. Decides (mark m i j)
      (proof.RestsOn db request.essential t (get_or (columns db request.only) j 0)))
      (ap (λ ts. get_or ts i 0) theorems_are) decided))

  pub rows_are : AllZip (IsRowOf db request) (theorems db)
      (rows_of m (map (label_at db) (theorems db)))
  rows_are =
      let names = map (label_at db) (theorems db) in
      let f = λ (i : ℕ). report_row_of m (get_or names i []) i in
      let row_count_is = is_matrix.rows_are in
      let counts_equal = ap (λ (ts : List ℕ). length ts) theorems_are in
      let rows_length_is = length-map-range_with_len f 0 m.rows in
      zip_by_index (IsRowOf db request) (theorems db) (rows_of m names) 0 (f 0)
      (omega (arith, rows_length_is, row_count_is, counts_equal))
      (λ i i_lt_length.
      subst (λ (x : Row). IsRowOf db request (get_or (theorems db) i 0) x)
      (sym (get_or-map-range_with_len f 0 m.rows i i (f 0) (omega (
        arith,
        row_count_is,
        counts_equal,
        i_lt_length,
      ))
      (omega arith)))
      (get_or-map (label_at db) (theorems db) i 0 [] i_lt_length, marks_decide i i_lt_length))

-- from the marks of the chains of citations, the report is that of the definitions
is_report : (request : Request) (db : List Statement) (opened : Option ℕ) (told : ToldLines)
    → (c : Citing) (axioms : List ℕ) (m : Marks) → AllHaveCitations db request.essential c
    → axioms ≡ columns db request.only → IsMatrix c axioms m
    → IsReportOf db opened told request
    (report request opened (map (label_at db) axioms) (rows_of m (map (label_at db) (theorems db)))
    (citing_rows db request.only c (map (label_at db) (theorems db))) told)
is_report request db opened told c axioms m have_citations axioms_are is_matrix =
    record {
      rows = rows_of m (map (label_at db) (theorems db));
      are_rows =
          rows_are db request c m have_citations.theorems_are have_citations.cites_as_database
          (subst (λ (l : List ℕ). IsMatrix c l m) axioms_are is_matrix);
      citing_rows = citing_rows db request.only c (map (label_at db) (theorems db));
      are_citing_rows = citing_rows_are db request c have_citations;
      bytes_are =
          ap (λ (l : List ℕ). report request opened (map (label_at db) l)
          (rows_of m (map (label_at db) (theorems db)))
          (citing_rows db request.only c (map (label_at db) (theorems db))) told) axioms_are;
    }

-- the report of a database's marks is the output of its text
pub marks_are_output : (request : Request) (d : Contents) (c : Citing) (axioms : List ℕ)
    → (m : Marks) → IsFaultless request.essential request.with_open d c
    → axioms ≡ columns d.statements request.only → IsMatrix c axioms m
    → IsOutput d.text request (report_of request d axioms m (citing_rows_of request d c))
marks_are_output request d c axioms m is_faultless axioms_are is_matrix =
    is_output request d axioms _ is_faultless.is_counted is_faultless.has_no_fault axioms_are
    (is_report request d.statements (open_theorem_count request.with_open d axioms)
    (told_of d request.only) c axioms m is_faultless.have_citations axioms_are is_matrix)

-- the rows of the definitions are as many as those of the citations, and without sections of marks
-- no more is told of them
unmarked_is_report : (request : Request) (opened : Option ℕ) (axioms : List ℕ)
    → (names : List Bytes) (rows : List Row) (citing : List CitingRow) (told : ToldLines)
    → has_marks request.sections ≡ false → length axioms ≡ length names
    → length citing ≡ length rows
    → head request.form (length axioms) opened (length citing)
    ++ section request.sections.citations (codes "citations") (flat_map citation_line citing)
    ++ section request.sections.proofs (codes "proofs") told.proofs
    ++ section request.sections.statements (codes "statements") told.statements
    ++ line (codes "end")
    ≡ report request opened names rows citing told
unmarked_is_report request opened axioms names rows citing told no_marks axioms_named as_many =
    let parts = none_of_three request.sections.matrix request.sections.counts
    request.sections.usage no_marks in
    let h = head request.form (length names) opened (length rows) in
    rw (axioms_named, as_many, parts.0, parts.1, parts.2)
    (ap (λ (x : List ℕ). x
    ++ section request.sections.citations (codes "citations") (flat_map citation_line citing)
    ++ section request.sections.proofs (codes "proofs") told.proofs
    ++ section request.sections.statements (codes "statements") told.statements
    ++ line (codes "end"))
    (sym (append-nil h) ∙ sym (append-nil (h ++ [])) ∙ sym (append-nil (h ++ [] ++ []))))
  where
    none_of_three : (a b c : Bool) → (a || (b || c)) ≡ false
        → (a ≡ false) × (b ≡ false) × (c ≡ false)
    none_of_three a b c none = grind (arith, common_steps)

-- the rows of all theorems of a database without a fault
rows_without_fault : (request : Request) (d : Contents) (c : Citing)
    → IsFaultless request.essential request.with_open d c
    → (rows : List Row) × AllZip (IsRowOf d.statements request) (theorems d.statements) rows
rows_without_fault request d c is_faultless =
    let db = d.statements in
    let all_complete : AreComplete db =
    subst AreComplete (sym is_faultless.is_counted.statements_are) (counted_complete
    request.with_open d.read (reads_complete _ _ d.read None is_faultless.has_no_fault.0)) in
    let are_valid : AllAreValid db =
    subst AllAreValid (sym is_faultless.is_counted.statements_are) is_faultless.has_no_fault.1 in
    rows_of_theorems db request all_complete are_valid (theorems db)

-- a text without a fault has an output
pub has_output : (request : Request) (d : Contents) (c : Citing)
    → IsFaultless request.essential request.with_open d c
    → (bytes : List ℕ) × IsOutput d.text request bytes
has_output request d c is_faultless =
    let db = d.statements in
    let axioms = columns db request.only in
    let rows = rows_without_fault request d c is_faultless in
    let opened = open_theorem_count request.with_open d axioms in (
      report request opened (map (label_at db) axioms) rows.0 (citing_rows_of request d c)
          (told_of d request.only),
      is_output request d axioms _ is_faultless.is_counted is_faultless.has_no_fault refl
          (record {
            rows = rows.0;
            are_rows = rows.1;
            citing_rows = citing_rows_of request d c;
            are_citing_rows = citing_rows_are db request c is_faultless.have_citations;
            bytes_are = refl;
          }),
    )

-- a report without sections of marks is the output of its text
pub unmarked_is_output : (request : Request) (d : Contents) (c : Citing) (axioms : List ℕ)
    → IsFaultless request.essential request.with_open d c
    → axioms ≡ columns d.statements request.only → has_marks request.sections ≡ false
    → IsOutput d.text request (unmarked_report_of request d axioms (citing_rows_of request d c))
unmarked_is_output request d c axioms is_faultless axioms_are no_marks =
    let db = d.statements in
    let opened = open_theorem_count request.with_open d axioms in
    let rows = rows_without_fault request d c is_faultless in
    let citing = citing_rows_of request d c in
    let are_citing = citing_rows_are db request c is_faultless.have_citations in
    is_output request d axioms _ is_faultless.is_counted is_faultless.has_no_fault axioms_are
    (record {
      rows = rows.0;
      are_rows = rows.1;
      citing_rows = citing;
      are_citing_rows = are_citing;
      bytes_are =
          unmarked_is_report request opened axioms (map (label_at db) (columns db request.only))
          rows.0 citing (told_of d request.only) no_marks
          (ap length axioms_are ∙ sym (length-map (columns db request.only) (label_at db)))
          (sym (zip_lengths _ (theorems db) citing are_citing)
          ∙ zip_lengths _ (theorems db) rows.0 rows.1);
    })
  where
    zip_lengths : {A B : Type 0} (R : A → B → Type 0) (xs : List A) (ys : List B)
        → AllZip R xs ys → length xs ≡ length ys
    zip_lengths R [] [] related = refl
    zip_lengths R [] (y ∷ ys) related = absurd related
    zip_lengths R (x ∷ xs) [] related = absurd related
    zip_lengths R (x ∷ xs) (y ∷ ys) related = ap suc (zip_lengths R xs ys related.1)
