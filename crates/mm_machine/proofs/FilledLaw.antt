-- A formula with its variables replaced by the bodies of entries.
use Rattle.std.proofs.lemmas.Grind.{common_steps, flat_map-append}
use Rattle.std.proofs.Common.{◌≡◌, ℕ, zero, suc, ◌+◌, ◌-◌, ◌<◌, ◌≤◌, ◌⊎◌, inl, inr, List, [], ◌∷◌}
use Rattle.std.proofs.Common.{◌++◌, length, take, get_or, sym, ap, ap₂, ◌∙◌, subst, arith, All}
use Rattle.std.proofs.Common.{length-append, append-nil}
use Rattle.std.proofs.lemmas.List.{take_more, get_or-append-add}
use Rattle.std.specs.List.{flat_map}
use Rattle.std.proofs.lemmas.List.Elements.{All-head, All-tail, All-push, All-weaker, All-nil}
use Rattle.std.proofs.lemmas.List.Elements.{All-append, All-from_recursion}
use Rattle.std.proofs.lemmas.Bool.Decides.{nat_tests}
use Rattle.mm_spec.specs.Limits.{formula_limit}
use Rattle.mm_nodes.specs.Strings.{first_node, string_of, joined_string_of}
use Rattle.mm_nodes.proofs.StringLaw.{string_has_symbols}
use Rattle.mm_rule.specs.Rule.{IsConstantBelow}
use Rattle.mm_rule.specs.declared.rule.RulePart.{RulePart}
use Rattle.mm_rule.specs.declared.rule.RulePart.TheVariants.{Variable}
use Rattle.mm_machine.specs.declared.entry.Entry.{Entry}
use Rattle.mm_machine.specs.Entries.{no_entry, IsEntry}
use Rattle.mm_machine.specs.Filled.{filled_part, filled_parts, IsListed}

pub All_behind : {X : Type 0} (P : X → Type 0) (u v : List X) → All P (u ++ v) → All P v
All_behind P u v all k d k_lt = grind (arith, nat_tests, get_or-append-add, length-append)

-- what holds of each piece's elements holds of those of the whole
pub All_flat_map : {X Y : Type 0} (P : Y → Type 0) (f : X → List Y) (xs : List X)
    → All (λ x. All P (f x)) xs → All P (flat_map f xs)
All_flat_map P f [] all = All-nil P
All_flat_map P f (x ∷ xs) all =
    All-append P (f x) (flat_map f xs) (All-head (λ y. All P (f y)) x xs all)
    (All_flat_map P f xs (All-tail (λ y. All P (f y)) x xs all))

pub filled_take : (nodes : List (List ℕ)) (es : List Entry) (parts : List RulePart) (i : ℕ)
    (p : RulePart) → i < length parts → p ≡ get_or parts i p
    → filled_parts nodes es (take (i + 1) parts)
    ≡ filled_parts nodes es (take i parts) ++ filled_part nodes es p
filled_take nodes es parts i p i_lt p_is =
    grind (arith, common_steps, take_more, flat_map-append, append-nil)

filled_no_longer : (nodes : List (List ℕ)) (es : List Entry) (parts : List RulePart) (i : ℕ)
    → length (filled_parts nodes es (take i parts)) ≤ length (filled_parts nodes es parts)
filled_no_longer nodes es parts zero = omega arith
filled_no_longer nodes es [] (suc i) = omega arith
filled_no_longer nodes es (p ∷ parts) (suc i) =
    grind (arith, common_steps, length-append, (filled_no_longer nodes es parts i))

-- the body of an entry with symbols after its typecode is there
pub body_is_there : (nodes : List (List ℕ)) (e : Entry) → IsEntry nodes e → 0 < e.length
    → e.body < first_node + length nodes
body_is_there nodes e is_entry some = grind (arith, common_steps)

-- the first `i` parts were written; none of the bodies is a node above the greatest
pub record IsWritten (nodes : List (List ℕ)) (es : List Entry) (parts : List RulePart)
    (list : List ℕ) (count symbol_count greatest i : ℕ) : Type 0 where
  pub count_le : count ≤ i
  pub string_is : joined_string_of nodes (take count list) ≡ filled_parts nodes es (take i parts)
  pub length_is : symbol_count ≡ length (filled_parts nodes es (take i parts))
  pub bodies_are : All (λ b. (b < first_node) ⊎ (b ≤ greatest)) (take count list)
  pub greatest_lt : greatest < first_node + length nodes

module _ (nodes : List (List ℕ)) (es : List Entry) (parts : List RulePart) where
  pub too_long_if_front_is : (i symbol_count : ℕ)
      → symbol_count ≡ length (filled_parts nodes es (take i parts))
      → formula_limit < symbol_count → formula_limit < length (filled_parts nodes es parts)
  too_long_if_front_is i symbol_count count_is limit_lt =
      omega (arith, filled_no_longer nodes es parts i, count_is, limit_lt)

  module _ (list list' : List ℕ) (count symbol_count greatest i : ℕ) (p : RulePart)
      (written : IsWritten nodes es parts list count symbol_count greatest i)
      (i_lt : i < length parts) (p_is : p ≡ get_or parts i p) where
    -- a body more
    pub body_written : (b greatest' symbol_count' : ℕ)
        → take (count + 1) list' ≡ take count list ++ b ∷ []
        → string_of nodes b ≡ filled_part nodes es p
        → symbol_count' ≡ symbol_count + length (string_of nodes b)
        → (b < first_node) ⊎ (b ≤ greatest') → greatest ≤ greatest'
        → greatest' < first_node + length nodes
        → IsWritten nodes es parts list' (count + 1) symbol_count' greatest' (i + 1)
    body_written b greatest' symbol_count' list_is string_is count_is b_is greatest_le
        greatest'_lt =
        record {
          count_le = omega (arith, written.count_le);
          string_is =
              ap (joined_string_of nodes) list_is
              ∙ flat_map-append (string_of nodes) (take count list) (b ∷ [])
              ∙ ap₂ (λ u v. u ++ v) written.string_is (append-nil (string_of nodes b) ∙ string_is)
              ∙ sym (filled_take nodes es parts i p i_lt p_is);
          length_is =
              omega (
                arith,
                written.length_is,
                ap length (filled_take nodes es parts i p i_lt p_is),
                ap length string_is,
                count_is,
                length-append (filled_parts nodes es (take i parts)) (filled_part nodes es p),
              );
          bodies_are =
              subst (All (λ x. (x < first_node) ⊎ (x ≤ greatest'))) (sym list_is)
              (All-push (λ x. (x < first_node) ⊎ (x ≤ greatest')) (take count list) b
              (All-weaker (λ x. (x < first_node) ⊎ (x ≤ greatest))
              (λ x. (x < first_node) ⊎ (x ≤ greatest')) still_le (take count list)
              written.bodies_are) b_is);
          greatest_lt = greatest'_lt;
        }
      where
        still_le : (x : ℕ) → (x < first_node) ⊎ (x ≤ greatest) → (x < first_node) ⊎ (x ≤ greatest')
        still_le x (inl is_symbol) = inl is_symbol
        still_le x (inr le) = inr (omega (arith, le, greatest_le))

    -- the body of a variable's premise more
    pub premise_written : (j more greatest' : ℕ) (e : Entry) → p ≡ Variable j
        → e ≡ get_or es j no_entry → IsEntry nodes e → 0 < e.length → symbol_count ≡ count + more
        → take (count + 1) list' ≡ take count list ++ e.body ∷ []
        → greatest ≤ greatest' → e.body ≤ greatest' → (greatest' ≡ greatest) ⊎ (greatest' ≡ e.body)
        → IsWritten nodes es parts list' (count + 1) (count + 1 + (more + (e.length - 1))) greatest'
        (i + 1)
    premise_written j more greatest' e p_is_variable e_is is_entry some count_is list_is greatest_le
        body_le greatest'_is =
        body_written e.body greatest' (count + 1 + (more + (e.length - 1))) list_is
        (ap (λ x. string_of nodes x.body) e_is ∙ ap (filled_part nodes es) (sym p_is_variable))
        (omega (arith, is_entry.length_is, some, count_is))
        (inr body_le) greatest_le (elim greatest'_is [
          | inl same ↦ omega (arith, written.greatest_lt, same)
          | inr same ↦ omega (arith, body_is_there nodes e is_entry some, same)
        ])

    -- a part without symbols
    pub none_written : filled_part nodes es p ≡ []
        → IsWritten nodes es parts list count symbol_count greatest (i + 1)
    none_written is_empty = record {
      count_le = omega (arith, written.count_le);
      string_is =
          written.string_is ∙ sym (append-nil (filled_parts nodes es (take i parts)))
          ∙ ap (λ u. filled_parts nodes es (take i parts) ++ u) (sym is_empty)
          ∙ sym (filled_take nodes es parts i p i_lt p_is);
      length_is =
          omega (
            arith,
            written.length_is,
            ap length (filled_take nodes es parts i p i_lt p_is),
            ap length is_empty,
            length-append (filled_parts nodes es (take i parts)) (filled_part nodes es p),
          );
      bodies_are = written.bodies_are;
      greatest_lt = written.greatest_lt;
    }

pub symbol_string_is : (nodes : List (List ℕ)) (s : ℕ) → s < first_node → string_of nodes s ≡ s ∷ []
symbol_string_is nodes s s_lt = grind (arith, common_steps)

pub nil_if_no_length : (u : List ℕ) → length u ≡ 0 → u ≡ []
nil_if_no_length u h1 = grind (arith, common_steps)

-- ---- the symbols, listed

pub part_has_symbols : (nodes : List (List ℕ)) (es : List Entry) (p : RulePart)
    → IsConstantBelow first_node p → All (λ s. s < first_node) (filled_part nodes es p)
part_has_symbols nodes es p h1 = grind (arith, common_steps, All-from_recursion, string_has_symbols)

pub listed_more : (nodes : List (List ℕ)) (es : List Entry) (parts : List RulePart) (i : ℕ)
    (p : RulePart) (symbols symbols' : List ℕ) → i < length parts → p ≡ get_or parts i p
    → IsListed nodes es (take i parts) symbols → symbols' ≡ symbols ++ filled_part nodes es p
    → All (λ s. s < first_node) (filled_part nodes es p) → length symbols' ≤ formula_limit
    → IsListed nodes es (take (i + 1) parts) symbols'
listed_more nodes es parts i p symbols symbols' i_lt p_is listed symbols_are have_symbols
    length_le =
    grind (arith, common_steps, filled_take, All-append)

pub listed_too_long : (nodes : List (List ℕ)) (es : List Entry) (parts : List RulePart) (i : ℕ)
    (p : RulePart) (symbols symbols' : List ℕ) → i < length parts → p ≡ get_or parts i p
    → IsListed nodes es (take i parts) symbols → symbols' ≡ symbols ++ filled_part nodes es p
    → formula_limit < length symbols' → formula_limit < length (filled_parts nodes es parts)
listed_too_long nodes es parts i p symbols symbols' i_lt p_is listed symbols_are limit_lt =
    too_long_if_front_is nodes es parts (i + 1) (length symbols')
    (ap length (symbols_are ∙ ap (λ u. u ++ filled_part nodes es p) listed.symbols_are
    ∙ sym (filled_take nodes es parts i p i_lt p_is))) limit_lt
