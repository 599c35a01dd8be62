-- What the class of a word says of it, and lists of statements after which so many blocks are open.
use Rattle.std.proofs.Common.{rules, ◌≡◌, ℕ, ◌+◌, cond, List, [], ◌∷◌, ◌++◌, codes, count_by, arith}
use Rattle.std.proofs.Common.{zero-add, Bool, true, false, leb, leb-true, leb-false}
use Rattle.std.proofs.lemmas.Grind.{common_steps}
use Rattle.std.proofs.lemmas.List.Sums.{sum_by-append}
use Rattle.std.proofs.lemmas.Slice.Eq.{bytes_eq-Decides}
use Rattle.std.specs.List.{AllByRecursion}
use Rattle.mm_spec.specs.Text.{Bytes, has_dollar}
use Rattle.mm_spec.specs.Laws.Table.{Class, constant_keyword, variable_keyword, disjoint_keyword}
use Rattle.mm_spec.specs.Laws.Table.{floating_keyword, essential_keyword, axiom_keyword}
use Rattle.mm_spec.specs.Laws.Table.{theorem_keyword, equals, dot, open_block, close_block, plain}
use Rattle.mm_spec.specs.Laws.Table.{other, ClassedWord, class_in, class}
use Rattle.mm_spec.specs.Statement.{Statement, is_complete, is_opening, is_closing, AreStatements}

-- the word is as the class requires
abbrev pub Meaning : Class → Bytes → Type 0
Meaning constant_keyword w = w ≡ codes "$c"
Meaning variable_keyword w = w ≡ codes "$v"
Meaning disjoint_keyword w = w ≡ codes "$d"
Meaning floating_keyword w = w ≡ codes "$f"
Meaning essential_keyword w = w ≡ codes "$e"
Meaning axiom_keyword w = w ≡ codes "$a"
Meaning theorem_keyword w = w ≡ codes "$p"
Meaning equals w = w ≡ codes "$="
Meaning dot w = w ≡ codes "$."
Meaning open_block w = w ≡ codes "${"
Meaning close_block w = w ≡ codes "$}"
Meaning plain w = has_dollar w ≡ false
Meaning other w = Unit {0}

class_in_has_meaning : (es : List ClassedWord) (w : Bytes)
    → AllByRecursion (λ e. w ≡ e.word → Meaning e.class w) es → Meaning (class_in es w) w
class_in_has_meaning [] w entries_tell = tt
class_in_has_meaning (e ∷ es) w entries_tell =
    grind (arith, common_steps, bytes_eq-Decides, class_in_has_meaning es w entries_tell.1)

pub class_has_meaning : (w : Bytes) → Meaning (class w) w
class_has_meaning w = search (rules, arith, class_in_has_meaning)

-- a list after which so many blocks are open
pub record Balanced (d : ℕ) (list : List Statement) : Type 0 where
  pub are_statements : AreStatements list
  pub count : d + count_by is_closing list ≡ count_by is_opening list

pub balanced_nothing : Balanced 0 []
balanced_nothing = grind (arith, common_steps)

pub count_of_list_and_last : (p : Statement → Bool) (list : List Statement) (s : Statement)
    → count_by p (list ++ s ∷ []) ≡ count_by p list + cond (p s) 1 0
count_of_list_and_last p list s = grind (arith, common_steps, sum_by-append, zero-add)

-- before the statement d blocks are open, and after it e
abbrev pub Moves : ℕ → Statement → ℕ → Type 0
Moves d s e = e + cond (is_closing s) 1 0 ≡ d + cond (is_opening s) 1 0

pub balanced_with_one_more : {d e : ℕ} {list : List Statement} (s : Statement) → Balanced d list
    → is_complete s ≡ true → Moves d s e → Balanced e (list ++ s ∷ [])
balanced_with_one_more s is_balanced is_complete_s moves =
    grind (arith, common_steps, count_of_list_and_last, leb, leb-true, leb-false)
