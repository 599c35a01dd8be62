-- What is written for two small texts, a faulty one and a sound one.
use Rattle.std.proofs.lemmas.Grind.{common_steps}
use Rattle.std.proofs.Common.{◌≡◌, ℕ, zero, suc, ◌<◌, List, [], ◌∷◌, flat_map, Some, None, codes}
use Rattle.std.proofs.Common.{refl, inl, inr, true≢false, arith}
use Rattle.std.specs.Fmt.{digits}
use Rattle.mm_spec.specs.Text.{token, fault}
use Rattle.mm_spec.specs.Statement.{Statement, constants, axiomatic, opening, closing}
use Rattle.mm_spec.specs.Lawful.{scope_fault}
use Rattle.mm_spec.specs.Report.{line}
use Rattle.mm_spec.specs.Request.{without_options}
use Rattle.mm_spec.specs.Lexed.{lexed_of}
use Rattle.mm_spec.specs.Output.{IsRead, AreValid, IsOutput}
use Rattle.mm_spec.specs.declared.Code.TheVariants.{ConstantInBlock}
use Rattle.mm_laws.proofs.ReaderLaw.{statements}
use Rattle.mm_spec.proofs.LongestLaw.{read_statements_are_longest}
use Rattle.mm_spec.proofs.StopsLaw.{no_text_fault}

-- ---- a `$c` in a block

abbrev faulty : List ℕ
faulty = codes "$c a $. ${ $c b $. $}"

abbrev before_fault : List Statement
before_fault = constants 0 (token 3 (codes "a") ∷ []) 5 ∷ opening 8 ∷ []

before_fault_lawful : (k : ℕ) → k < 2 → scope_fault (statements faulty) k ≡ None
unfolding statements
before_fault_lawful zero k_lt_2 = refl
before_fault_lawful (suc zero) k_lt_2 = refl
before_fault_lawful (suc (suc k)) k_lt_2 = absurd (omega arith)

front_valid : AreValid before_fault 2
front_valid = grind (arith, common_steps, true≢false)

front_read : IsRead 21 (lexed_of faulty) before_fault (Some (fault 11 ConstantInBlock))
unfolding statements
front_read = record {
  statements = statements faulty;
  are_statements = read_statements_are_longest (lexed_of faulty).tokens;
  rest = constants 11 (token 14 (codes "b") ∷ []) 16 ∷ closing 19 ∷ [];
  splits = refl;
  lawful = before_fault_lawful;
  stops = ((λ e. cc), refl);
}

refused : IsOutput faulty without_options (line (codes "refused 1:12 E11"))
unfolding digits
refused =
    inl (
      fault 11 ConstantInBlock,
      (before_fault, Some (fault 11 ConstantInBlock), front_read, inr (front_valid, refl)),
      refl,
    )

-- ---- a text without faults

abbrev sound : List ℕ
sound = codes "$c a $. ax $a a $."

abbrev db : List Statement
db =
    constants 0 (token 3 (codes "a") ∷ []) 5
    ∷ axiomatic (token 8 (codes "ax")) 11 (token 14 (codes "a") ∷ []) 16 ∷ []

db_lawful : (k : ℕ) → k < 2 → scope_fault db k ≡ None
db_lawful k h1 = grind (arith, common_steps)

db_valid : AreValid db 2
db_valid = grind (arith, common_steps, true≢false)

db_read : IsRead 18 (lexed_of sound) db None
unfolding statements
db_read = record {
  statements = db;
  are_statements = read_statements_are_longest (lexed_of sound).tokens;
  rest = [];
  splits = refl;
  lawful = db_lawful;
  stops = no_text_fault 18 (lexed_of sound) refl;
}

reported : IsOutput sound without_options (flat_map line
    (codes "mmdepend 1" ∷ codes "axioms 1" ∷ codes "theorems 0" ∷ codes "matrix" ∷ codes "counts"
    ∷ codes "usage" ∷ codes "ax:0:" ∷ codes "end" ∷ []))
unfolding digits
reported = inr (
  db,
  (db_read, db_valid),
  record { rows = []; are_rows = tt; citing_rows = []; are_citing_rows = tt; bytes_are = refl },
)
