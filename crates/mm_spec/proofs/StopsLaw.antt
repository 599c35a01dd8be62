-- The first token that the table doesn't expect has the fault of the shape. If it expects all, what
-- it expects at the end tells the fault of the end.
use Rattle.std.proofs.Common.{rules, ◌≡◌, ◌≢◌, ℕ, zero, suc, ◌+◌, ◌<◌, true, false, List, [], ◌∷◌}
use Rattle.std.proofs.Common.{◌++◌, Option, Some, None, count_by, flat_map, ◌⊎◌, inl, inr, refl}
use Rattle.std.proofs.Common.{sym, ap, ◌∙◌, append-nil, append_assoc, arith, codes}
use Rattle.std.proofs.lemmas.Grind.{common_steps, flat_map-append}
use Rattle.std.proofs.lemmas.List.{append_cancel_left}
use Rattle.std.proofs.lemmas.Option.{same_Some}
use Rattle.mm_spec.specs.Text.{Token, token, Fault, fault}
use Rattle.mm_spec.specs.Statement.{Statement, axiomatic, provable, spelling_of, is_opening}
use Rattle.mm_spec.specs.Statement.{is_closing, AreLongestStatements, shape_code, ShapeFault}
use Rattle.mm_spec.specs.Statement.{FileEndFault, BeginStatements, IsBetween}
use Rattle.mm_spec.specs.Lexed.{LexedText}
use Rattle.mm_spec.specs.Output.{TextFault}
use Rattle.mm_spec.specs.Laws.Table.{class, Progress, start, labelled, words, formula, unexpected}
use Rattle.mm_spec.specs.Laws.Table.{continued, completed, transition, statements_of}
use Rattle.mm_spec.specs.Laws.Table.{shape_fault_from, shape_fault_after, progress_from}
use Rattle.mm_spec.specs.Laws.Table.{is_between_statements}
use Rattle.mm_spec.proofs.ShapeLaw.{Balanced, balanced_with_one_more}
use Rattle.mm_spec.proofs.LongestLaw.{read_statements_are_longest, longest_is_what_is_read}
use Rattle.mm_spec.proofs.LongestLaw.{statements_go, read_all, IsPart, Spell, open_in}
use Rattle.mm_spec.specs.declared.Code.TheVariants.{OpenStatement, OpenBlock}

-- ---- what is expected begins a list, and nothing else

-- a list and part of a statement, which goes on with `more`, begin a list
whole_begins : {d : ℕ} (e : ℕ) (list : List Statement) (s : Statement) (part more : List Token)
    → Balanced d list → Spell d (part ++ more) e s
    → BeginStatements (flat_map spelling_of list ++ part)
whole_begins e list s part more balanced spells = (
  list ++ s ∷ [],
  (balanced_with_one_more s balanced spells.1 spells.2).are_statements,
  more,
  rw flat_map-append (grind (arith, common_steps, spells.0)),
)

part_begins : (q : Progress) (list : List Statement) (part : List Token) → Balanced (open_in q) list
    → IsPart q part → BeginStatements (flat_map spelling_of list ++ part)
part_begins (start d) list part balanced is_part =
    (list, balanced.are_statements, [], grind (arith, common_steps))
part_begins (labelled d l) list part balanced is_part =
    whole_begins d list (axiomatic l 0 [] 0) part (token 0 (codes "$a") ∷ token 0 (codes "$.") ∷ [])
    balanced (grind (arith, common_steps))
part_begins (words d make ws) list part balanced is_part =
    whole_begins d list (make (ws ++ []) 0) part (token 0 (codes "$.") ∷ []) balanced
    (is_part [] 0 refl)
part_begins (formula d l k ws) list part balanced is_part =
    whole_begins d list (provable l k ws 0 [] 0) part
    (token 0 (codes "$=") ∷ token 0 (codes "$.") ∷ []) balanced (grind (arith, common_steps))

expected_begins : (ts : List Token) → shape_fault_from (start 0) ts ≡ None → BeginStatements ts
expected_begins ts no_fault =
    let read = read_all ts in
    let stands = read.stands no_fault in
    rw read.tokens_are (part_begins (progress_from (start 0) ts) (statements_of ts) read.rest
    (rw stands.0 at read.balanced) stands.1)

front_is_expected : (ts us : List Token) (r : Progress) → shape_fault_from r (ts ++ us) ≡ None
    → shape_fault_from r ts ≡ None
front_is_expected [] us r no_fault = refl
front_is_expected (t ∷ ts) us r no_fault =
    (elim (transition r (class t.word) t) as (λ o. shape_fault_after o
    (Some (fault t.at (shape_code (is_between_statements r) t.word)))
    (λ q. shape_fault_from q (ts ++ us)) ≡ None → shape_fault_after o
    (Some (fault t.at (shape_code (is_between_statements r) t.word)))
    (λ q. shape_fault_from q ts) ≡ None) [
      | unexpected ↦ λ no. no
      | continued q ↦ λ no. front_is_expected ts us q no
      | completed e s ↦ λ no. front_is_expected ts us (start e) no
    ]) no_fault

beginning_is_expected : (ts : List Token) → BeginStatements ts
    → shape_fault_from (start 0) ts ≡ None
beginning_is_expected ts beginning =
    let read = statements_go beginning.0 beginning.1 in
    front_is_expected ts beginning.2 (start 0)
    (rw (← beginning.3) (rw append-nil at (read.2.at []).1))

nothing_left : (q : Progress) (rest : List Token) → IsPart q rest → is_between_statements q ≡ true
    → rest ≡ []
nothing_left (start d) rest is_part is_between = is_part
nothing_left q rest is_part is_between = absurd (cc)

between_if_start : (ts : List Token) → shape_fault_from (start 0) ts ≡ None
    → is_between_statements (progress_from (start 0) ts) ≡ true → IsBetween ts
between_if_start ts no_fault is_between =
    let read = read_all ts in
    let nothing = nothing_left _ read.rest (read.stands no_fault).1 is_between in
    (statements_of ts, read.balanced.are_statements, grind (arith, common_steps, read.tokens_are))

start_if_between : (ts : List Token) → IsBetween ts
    → is_between_statements (progress_from (start 0) ts) ≡ true
start_if_between ts between =
    let read = statements_go between.0 between.1 in
    rw (← between.2) (ap is_between_statements (rw append-nil at (read.2.at []).2))

-- the first unexpected token, and the fault at it
record FirstUnexpected (r : Progress) (ts : List Token) (f : Fault) : Type 0 where
  before : List Token
  first : Token
  after : List Token
  splits : ts ≡ before ++ first ∷ after
  is_expected : shape_fault_from r before ≡ None
  is_unexpected : shape_fault_from r (before ++ first ∷ []) ≡ Some f
  fault_is : f ≡ fault first.at
      (shape_code (is_between_statements (progress_from r before)) first.word)

later_unexpected : {r q : Progress} {t : Token} {ts : List Token} {f : Fault}
    → ((us : List Token) → (shape_fault_from r (t ∷ us) ≡ shape_fault_from q us)
    × (progress_from r (t ∷ us) ≡ progress_from q us)) → FirstUnexpected q ts f
    → FirstUnexpected r (t ∷ ts) f
later_unexpected {t = t} goes_on later = record {
  before = t ∷ later.before;
  first = later.first;
  after = later.after;
  splits = ap (λ y. t ∷ y) later.splits;
  is_expected = (goes_on later.before).0 ∙ later.is_expected;
  is_unexpected = (goes_on (later.before ++ later.first ∷ [])).0 ∙ later.is_unexpected;
  fault_is = rw (goes_on later.before).1 later.fault_is;
}

first_unexpected : (ts : List Token) (r : Progress) (f : Fault) → shape_fault_from r ts ≡ Some f
    → FirstUnexpected r ts f
first_unexpected [] r f has_fault = absurd (cc)
first_unexpected (t ∷ ts) r f has_fault =
    (elim (transition r (class t.word) t) as (λ o. transition r (class t.word) t ≡ o
    → FirstUnexpected r (t ∷ ts) f) [
      | unexpected ↦ λ is. record {
        before = [];
        first = t;
        after = ts;
        splits = refl;
        is_expected = refl;
        is_unexpected = rw is (rw is at has_fault);
        fault_is = sym (same_Some _ f (rw is at has_fault));
      }
      | continued q ↦ λ is. later_unexpected (λ us. (rw is refl, rw is refl))
          (first_unexpected ts q f (rw is at has_fault))
      | completed d s ↦ λ is. later_unexpected (λ us. (rw is refl, rw is refl))
          (first_unexpected ts (start d) f (rw is at has_fault))
    ]) refl

pub shape_fault : (ts : List Token) (f : Fault) → shape_fault_from (start 0) ts ≡ Some f
    → ShapeFault ts f
shape_fault ts f has_fault =
    let found = first_unexpected ts (start 0) f has_fault in
    record {
      before = found.before;
      first = found.first;
      after = found.after;
      splits = found.splits;
      begins = expected_begins found.before found.is_expected;
      no_more = λ begins. absurd (cc (found.is_unexpected, beginning_is_expected _ begins));
      fault_is = elim (is_between_statements (progress_from (start 0) found.before)) as (λ b.
          is_between_statements (progress_from (start 0) found.before) ≡ b
          → (IsBetween found.before × (f ≡ fault found.first.at (shape_code true found.first.word)))
          ⊎ ((¬ IsBetween found.before)
          × (f ≡ fault found.first.at (shape_code false found.first.word)))) [
            | true ↦ λ yes. inl (
              between_if_start found.before found.is_expected yes,
              rw yes at found.fault_is,
            )
            | false ↦ λ no. inr (
              λ between. absurd (cc (start_if_between found.before between)),
              rw no at found.fault_is,
            )
          ] refl;
    }

pub no_shape_fault : (ts : List Token) → shape_fault_from (start 0) ts ≡ None
    → ¬ ((g : Fault) × ShapeFault ts g)
no_shape_fault ts no_fault some_fault =
    let found = some_fault.1 in
    found.no_more (expected_begins _ (front_is_expected (found.before ++ found.first ∷ [])
    found.after (start 0) (rw append_assoc (rw found.splits at no_fault))))

-- ---- the end

-- what is left after the longest list, and how many blocks are open
record Ends (q : Progress) (list : List Statement) (rest : List Token) : Type 0 where
  nothing_left : is_between_statements q ≡ true → rest ≡ []
  is_between : rest ≡ [] → is_between_statements q ≡ true
  count : open_in q + count_by is_closing list ≡ count_by is_opening list

ends : (ts : List Token) (list : List Statement) → shape_fault_from (start 0) ts ≡ None
    → (longest : AreLongestStatements ts list)
    → Ends (progress_from (start 0) ts) list longest.rest
ends ts list no_fault longest =
    let read = read_all ts in
    let stands = read.stands no_fault in
    let lists_equal = longest_is_what_is_read ts list longest in
    let rests_equal : read.rest ≡ longest.rest =
    append_cancel_left (flat_map spelling_of list) _ _
    (rw lists_equal at (sym read.tokens_are) ∙ longest.splits) in
    let tokens_are = longest.splits in
    record {
      nothing_left = λ yes. sym rests_equal ∙ nothing_left _ read.rest stands.1 yes;
      is_between = λ nothing.
          start_if_between ts (list, longest.are_statements, grind (arith, common_steps));
      count = rw (stands.0, lists_equal) at read.balanced.count;
    }

-- the fault at the end of a text of `len` bytes
abbrev pub fault_at_end : ℕ → Progress → Option Fault
fault_at_end len (start zero) = None
fault_at_end len (start (suc d)) = Some (fault len OpenBlock)
fault_at_end len _ = Some (fault len OpenStatement)

abbrev IsEndFault : ℕ → List Statement → List Token → Fault → Type 0
IsEndFault len list rest f = ((rest ≢ []) × (f ≡ fault len OpenStatement))
    ⊎ ((rest ≡ []) × (count_by is_closing list < count_by is_opening list)
    × (f ≡ fault len OpenBlock))

fault_of_end : (len : ℕ) (q : Progress) (list : List Statement) (rest : List Token) (f : Fault)
    → Ends q list rest → fault_at_end len q ≡ Some f → IsEndFault len list rest f
fault_of_end len q list rest f ends has_fault = grind (arith, common_steps)

no_fault_of_end : (len : ℕ) (q : Progress) (list : List Statement) (rest : List Token) (f : Fault)
    → Ends q list rest → fault_at_end len q ≡ None → ¬ IsEndFault len list rest f
no_fault_of_end len q list rest f ends no_fault has_fault = grind (arith, common_steps)

pub end_fault : (len : ℕ) (ts : List Token) (f : Fault) → shape_fault_from (start 0) ts ≡ None
    → fault_at_end len (progress_from (start 0) ts) ≡ Some f → FileEndFault len ts f
end_fault len ts f no_shape has_fault =
    let longest = read_statements_are_longest ts in
    record {
      statements = statements_of ts;
      are_statements = longest;
      fault_is = fault_of_end len _ _ _ f (ends ts _ no_shape longest) has_fault;
    }

pub no_end_fault : (len : ℕ) (ts : List Token) → shape_fault_from (start 0) ts ≡ None
    → fault_at_end len (progress_from (start 0) ts) ≡ None → (f : Fault) → ¬ FileEndFault len ts f
no_end_fault len ts no_shape no_fault f has_fault =
    no_fault_of_end len _ _ _ f (ends ts _ no_shape has_fault.are_statements) no_fault
    has_fault.fault_is

-- the fault of the text by the table
abbrev pub first_fault_of : Option Fault → Option Fault → Option Fault
first_fault_of (Some f) g = Some f
first_fault_of None g = g

abbrev pub text_fault : ℕ → LexedText → Option Fault
text_fault len x =
    first_fault_of (shape_fault_from (start 0) x.tokens)
    (first_fault_of x.fault (fault_at_end len (progress_from (start 0) x.tokens)))

pub text_fault_is : (len : ℕ) (x : LexedText) (f : Fault) → text_fault len x ≡ Some f
    → TextFault len x f
text_fault_is len x f has_fault =
    grind (arith, common_steps, end_fault, no_shape_fault, same_Some, shape_fault)

pub no_text_fault : (len : ℕ) (x : LexedText) → text_fault len x ≡ None → (f : Fault)
    → ¬ TextFault len x f
no_text_fault len x no_fault f has_text_fault = search (rules, arith, no_end_fault, no_shape_fault)
