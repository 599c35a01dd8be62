-- Entries stay as nodes are added or given up.
use Rattle.std.proofs.Common.{rules, ◌≡◌, ℕ, zero, suc, ◌+◌, ◌<◌, ◌≤◌, ◌⊎◌, inl, inr, List, [], ◌∷◌}
use Rattle.std.proofs.Common.{◌++◌, length, take, refl, sym, ap, ap₂, ◌∙◌, arith, All}
use Rattle.std.proofs.Common.{length-append}
use Rattle.std.proofs.lemmas.Grind.{common_steps}
use Rattle.std.specs.List.{AllByRecursion}
use Rattle.std.proofs.lemmas.List.{length-take-le}
use Rattle.std.proofs.lemmas.List.Elements.{recursion_from_All, All-from_recursion}
use Rattle.std.proofs.lemmas.Bool.{cases_lt}
use Rattle.mm_spec.specs.Limits.{formula_limit}
use Rattle.mm_nodes.specs.Strings.{first_node, no_body, string_of, joined_string_of, IsMade}
use Rattle.mm_nodes.proofs.StoreLaw.{no_string, string_with_more, string_when_cut}
use Rattle.mm_machine.specs.declared.entry.Entry.{Entry}
use Rattle.mm_machine.specs.Entries.{entry, IsEntry, HasNoSymbols, entry_formula, entry_formulas}
use Rattle.mm_machine.proofs.FilledLaw.{symbol_string_is, nil_if_no_length}

-- the entry is one over the other nodes too, with the same formula
pub record EntryStays (nodes nodes' : List (List ℕ)) (e : Entry) : Type 0 where
  pub is_entry : IsEntry nodes' e
  pub formulas_equal : entry_formula nodes' e ≡ entry_formula nodes e

module _ (nodes nodes' : List (List ℕ)) (e : Entry) (is_entry : IsEntry nodes e)
    (count_lt : length nodes' < first_node) (needed_le : e.needed ≤ length nodes')
    (strings_stay : (b : ℕ) → b < first_node + e.needed → string_of nodes' b ≡ string_of nodes b)
  where
    body_stays : string_of nodes' e.body ≡ string_of nodes e.body
    body_stays = elim is_entry.body_is_among [
      | inl among ↦ strings_stay e.body among
      | inr none ↦
          no_string nodes' e.body 2147483647 (omega (arith, none.0)) (omega (arith, count_lt))
          ∙ sym (nil_if_no_length (string_of nodes e.body)
          (omega (arith, is_entry.length_is, none.1)))
    ]

    pub entry_stays : EntryStays nodes nodes' e
    entry_stays = elim is_entry.has_typecode [
      | inl is_symbol ↦ with_typecode (inl is_symbol)
          (symbol_string_is nodes' e.typecode is_symbol
          ∙ sym (symbol_string_is nodes e.typecode is_symbol))
      | inr none ↦ let no_typecode : string_of nodes' e.typecode ≡ [] =
          no_string nodes' e.typecode 2147483647 (omega (arith, none.0))
          (omega (arith, count_lt)) in
          with_typecode (inr (none.0, no_typecode, body_stays ∙ none.2)) (no_typecode ∙ sym none.1)
    ]
      where
        with_typecode : (e.typecode < first_node) ⊎ HasNoSymbols nodes' e
            → string_of nodes' e.typecode ≡ string_of nodes e.typecode → EntryStays nodes nodes' e
        with_typecode has_typecode typecode_stays = record {
          is_entry = record {
            has_typecode = has_typecode;
            body_is_among = is_entry.body_is_among;
            needed_le_count = needed_le;
            length_is = is_entry.length_is ∙ ap length (sym body_stays);
            length_lt_limit = is_entry.length_lt_limit;
          };
          formulas_equal = ap₂ (λ u v. u ++ v) typecode_stays body_stays;
        }

entry_is_kept : (nodes more nodes' : List (List ℕ)) (keep : ℕ) (e : Entry)
    → nodes' ≡ take keep nodes ++ more → keep ≤ length nodes → length nodes' < first_node
    → IsEntry nodes e → e.needed ≤ keep → EntryStays nodes nodes' e
entry_is_kept nodes more nodes' keep e nodes_are keep_le count_lt is_entry needed_le =
    let taken = length-take-le keep nodes keep_le in
    entry_stays nodes nodes' e is_entry count_lt
    (omega (arith, needed_le, taken, ap length nodes_are, length-append (take keep nodes) more))
    (λ b b_lt. ap (λ ns. string_of ns b) nodes_are
    ∙ string_with_more (take keep nodes) more b (omega (arith, b_lt, needed_le, taken))
    ∙ string_when_cut nodes keep b keep_le (omega (arith, b_lt, needed_le)))

module _ (nodes more nodes' : List (List ℕ)) (keep : ℕ) (es : List Entry)
    (nodes_are : nodes' ≡ take keep nodes ++ more) (keep_le : keep ≤ length nodes)
    (count_lt : length nodes' < first_node) (are_entries : All (IsEntry nodes) es)
    (are_kept : All (λ e. e.needed ≤ keep) es) where
  stay : AllByRecursion (EntryStays nodes nodes') es
  stay = each es (recursion_from_All (IsEntry nodes) es are_entries)
      (recursion_from_All (λ e. e.needed ≤ keep) es are_kept)
    where
      each : (es : List Entry) → AllByRecursion (IsEntry nodes) es
          → AllByRecursion (λ e. e.needed ≤ keep) es → AllByRecursion (EntryStays nodes nodes') es
      each [] all_in all_kept = tt
      each (e ∷ es) all_in all_kept = (
        entry_is_kept nodes more nodes' keep e nodes_are keep_le count_lt all_in.0 all_kept.0,
        each es all_in.1 all_kept.1,
      )

  pub entries_are_kept : All (IsEntry nodes') es
  entries_are_kept = All-from_recursion (IsEntry nodes') es (each es stay)
    where
      each : (es : List Entry) → AllByRecursion (EntryStays nodes nodes') es
          → AllByRecursion (IsEntry nodes') es
      each [] all_stay = tt
      each (e ∷ es) all_stay = (all_stay.0.is_entry, each es all_stay.1)

  pub formulas_are_kept : entry_formulas nodes' es ≡ entry_formulas nodes es
  formulas_are_kept = each es stay
    where
      each : (es : List Entry) → AllByRecursion (EntryStays nodes nodes') es
          → entry_formulas nodes' es ≡ entry_formulas nodes es
      each [] all_stay = refl
      each (e ∷ es) all_stay = ap₂ (λ f fs. f ∷ fs) all_stay.0.formulas_equal (each es all_stay.1)

pub entry_formulas_take : (nodes : List (List ℕ)) (n : ℕ) (es : List Entry)
    → entry_formulas nodes (take n es) ≡ take n (entry_formulas nodes es)
entry_formulas_take nodes zero es = refl
entry_formulas_take nodes (suc n) [] = refl
entry_formulas_take nodes (suc n) (e ∷ es) = search (rules, arith, (entry_formulas_take nodes n es))

pub entry_formulas_push : (nodes : List (List ℕ)) (es : List Entry) (e : Entry)
    → entry_formulas nodes (es ++ e ∷ []) ≡ entry_formulas nodes es ++ entry_formula nodes e ∷ []
entry_formulas_push nodes es e = grind (arith, common_steps)

-- the entry of a body that was made
module _ (nodes kept nodes' : List (List ℕ)) (bodies : List ℕ) (e : Entry)
    (made : IsMade kept nodes' bodies e.body) (strings_are : joined_string_of kept
    bodies ≡ joined_string_of nodes bodies) (is_symbol : e.typecode < first_node)
    (length_is : e.length ≡ length (joined_string_of nodes bodies))
    (length_lt : e.length < formula_limit) (needed_is : e.needed ≡ length nodes') where
  pub made_formula : entry_formula nodes' e ≡ e.typecode ∷ joined_string_of nodes bodies
  made_formula =
      ap₂ (λ u v. u ++ v) (symbol_string_is nodes' e.typecode is_symbol)
      (made.string_is ∙ strings_are)

  pub made_is_entry : IsEntry nodes' e
  made_is_entry = record {
    has_typecode = inl is_symbol;
    body_is_among = by_case (cases_lt 0 (length bodies));
    needed_le_count = omega (arith, needed_is);
    length_is = length_is ∙ ap length (sym (made.string_is ∙ strings_are));
    length_lt_limit = length_lt;
  }
    where
      by_case : (0 < length bodies) ⊎ (length bodies ≤ 0)
          → (e.body < first_node + e.needed) ⊎ ((e.body ≡ no_body) × (e.length ≡ 0))
      by_case (inl some) = inl (omega (arith, made.is_body some, needed_is))
      by_case (inr none) = inr
          (made.is_none (omega (arith, none)), length_is ∙ no_strings bodies (omega (arith, none)))
        where
          no_strings : (bodies : List ℕ) → length bodies ≡ 0
              → length (joined_string_of nodes bodies) ≡ 0
          no_strings [] no_length = refl
          no_strings (b ∷ bodies) no_length = absurd (omega (arith, no_length))

-- the entry, with another number of nodes that are needed
pub entry_with_needed : (nodes : List (List ℕ)) (e : Entry) (n : ℕ) → IsEntry nodes e
    → n ≤ length nodes → (e.body < first_node + e.needed → e.body < first_node + n)
    → IsEntry nodes (entry e.typecode e.body e.length n e.mask)
entry_with_needed nodes e n is_entry n_le body_lt = grind (arith, common_steps)

-- an entry without symbols
module _ (nodes : List (List ℕ)) (n mask : ℕ) (count_lt : length nodes < first_node)
    (n_le : n ≤ length nodes) where
  no_body_string : string_of nodes no_body ≡ []
  no_body_string = no_string nodes no_body 2147483647 refl (omega (arith, count_lt))

  pub nothing_is_entry : IsEntry nodes (entry no_body no_body 0 n mask)
  nothing_is_entry = record {
    has_typecode = inr (refl, no_body_string, no_body_string);
    body_is_among = inr (refl, refl);
    needed_le_count = n_le;
    length_is = ap length (sym no_body_string);
    length_lt_limit = omega arith;
  }

  pub nothing_formula : entry_formula nodes (entry no_body no_body 0 n mask) ≡ []
  nothing_formula = ap₂ (λ u v. u ++ v) no_body_string no_body_string

-- an entry of a typecode and one symbol
module _ (nodes : List (List ℕ)) (t s n mask : ℕ) (t_lt : t < first_node) (s_lt : s < first_node)
    (n_le : n ≤ length nodes) where
  pub pair_is_entry : IsEntry nodes (entry t s 1 n mask)
  pair_is_entry = record {
    has_typecode = inl t_lt;
    body_is_among = inl (omega (arith, s_lt));
    needed_le_count = n_le;
    length_is = ap length (sym (symbol_string_is nodes s s_lt));
    length_lt_limit = omega arith;
  }

  pub pair_formula : entry_formula nodes (entry t s 1 n mask) ≡ t ∷ s ∷ []
  pair_formula = ap₂ (λ u v. u ++ v) (symbol_string_is nodes t t_lt) (symbol_string_is nodes s s_lt)
