-- Whether entries are what hypotheses require, one hypothesis after the other.
use Rattle.std.proofs.Common.{◌≡◌, ℕ, suc, ◌+◌, ◌-◌, ◌<◌, Bool, ◌&&◌, List, ◌∷◌, take, drop, get_or}
use Rattle.std.proofs.Common.{map, length, bytes_eq, sym, ap, ap₂, ◌∙◌, arith, append-nil}
use Rattle.std.proofs.lemmas.List.{drop_more, drop-drop, get_or_default}
use Rattle.mm_spec.specs.Laws.Stack.{are_equal}
use Rattle.mm_rule.specs.declared.rule.Hypothesis.{Hypothesis}
use Rattle.mm_rule.specs.declared.rule.Hypothesis.TheVariants.{Floating, Essential}
use Rattle.mm_rule.specs.declared.rule.RulePart.{RulePart}
use Rattle.mm_rule.specs.Rule.{stored_part_count, hypothesis_parts, all_parts}
use Rattle.mm_rule.specs.Rule.{total_stored_part_count}
use Rattle.mm_machine.specs.declared.entry.Entry.{Entry}
use Rattle.mm_nodes.specs.Strings.{string_of}
use Rattle.mm_machine.specs.Entries.{no_entry, entry_formula}
use Rattle.mm_machine.specs.Filled.{filled_parts}

module _ (nodes : List (List ℕ)) (es : List Entry) (parts : List RulePart) (hs : List Hypothesis)
  where
    -- whether the entries from index `j` on are what the hypotheses require; the parts that are
    -- kept for these begin at `part_index`
    abbrev pub fit_from : ℕ → ℕ → Bool
    fit_from j part_index =
        are_equal (map (entry_formula nodes) (drop j es))
        (map (filled_parts nodes es) (all_parts (drop part_index parts) j (drop j hs)))

    -- `is_fitting` says whether entry `j` is what hypothesis `h` requires; the next parts begin at
    -- `next_part_index`
    pub record IsTested (j part_index : ℕ) (h : Hypothesis) (is_fitting : Bool)
        (next_part_index : ℕ)
        : Type 0 where
      pub next_part_index_is : next_part_index ≡ part_index + stored_part_count h
      pub is_fitting_is : is_fitting
          ≡ bytes_eq (entry_formula nodes (get_or es j no_entry))
          (filled_parts nodes es (hypothesis_parts (drop part_index parts) j h))

    module _ (j part_index : ℕ) (h : Hypothesis) (is_fitting : Bool) (next_part_index : ℕ) where
      -- a test by the values that the code has: the nodes `ns`, entry `e` and the parts `ps`
      pub typed_tested : (t : ℕ) → h ≡ Floating t → (ns : List (List ℕ)) (e : Entry) → ns ≡ nodes
          → e ≡ get_or es j e → j < length es
          → is_fitting ≡ bytes_eq (entry_formula ns e) (t ∷ string_of ns e.body)
          → next_part_index ≡ part_index → IsTested j part_index h is_fitting next_part_index
      typed_tested t h_is_floating ns e ns_are e_is j_lt is_fitting_is next_part_index_stays =
          let entry = get_or es j no_entry in
          rw h_is_floating
          (record {
            next_part_index_is = omega (arith, next_part_index_stays);
            is_fitting_is = is_fitting_is
                ∙ ap₂ (λ (ns : List (List ℕ)) (e : Entry).
                bytes_eq (entry_formula ns e) (t ∷ string_of ns e.body))
                ns_are (e_is ∙ get_or_default es j e no_entry j_lt)
                ∙ ap (λ z. bytes_eq (entry_formula nodes entry) (t ∷ z))
                (sym (append-nil (string_of nodes entry.body)));
          })

      pub essential_tested : (n : ℕ) → h ≡ Essential n → (ns : List (List ℕ)) (e : Entry)
          (ps : List RulePart) → ns ≡ nodes → e ≡ get_or es j e → ps ≡ parts → j < length es
          → is_fitting ≡ bytes_eq (entry_formula ns e)
          (filled_parts ns es (take ((part_index + n) - part_index) (drop part_index ps)))
          → next_part_index ≡ part_index + n → IsTested j part_index h is_fitting next_part_index
      essential_tested n h_is_essential ns e ps ns_are e_is ps_are j_lt is_fitting_is
          next_part_index_is =
          let entry = get_or es j no_entry in
          let length_is_n : (part_index + n) - part_index ≡ n = omega arith in
          rw h_is_essential
          (record {
            next_part_index_is = next_part_index_is;
            is_fitting_is = is_fitting_is
                ∙ ap₂ (λ (ns : List (List ℕ)) (e : Entry). bytes_eq (entry_formula ns e)
                (filled_parts ns es (take ((part_index + n) - part_index) (drop part_index ps))))
                ns_are (e_is ∙ get_or_default es j e no_entry j_lt)
                ∙ ap₂ (λ l ps. bytes_eq (entry_formula nodes entry)
                (filled_parts nodes es (take l (drop part_index ps)))) length_is_n ps_are;
          })

      module _ (tested : IsTested j part_index h is_fitting next_part_index)
          (j_lt_length_hs : j < length hs) (j_lt_length_es : j < length es)
          (h_is : h ≡ get_or hs j h) where
        drop_hs_is : drop j hs ≡ h ∷ drop (j + 1) hs
        drop_hs_is = drop_more hs j h j_lt_length_hs ∙ ap (λ z. z ∷ drop (j + 1) hs) (sym h_is)

        pub fit_from_splits : fit_from j part_index
            ≡ (is_fitting && fit_from (j + 1) next_part_index)
        fit_from_splits =
            let e = get_or es j no_entry in
            let parts_left = drop part_index parts in
            let next_j_is : suc j ≡ j + 1 = omega arith in
            let next_parts_are : drop (stored_part_count h) parts_left
            ≡ drop next_part_index parts =
            drop-drop (stored_part_count h) part_index parts
            ∙ ap (λ n. drop n parts) (sym tested.next_part_index_is) in
            ap₂ (λ u v. are_equal (map (entry_formula nodes) u)
            (map (filled_parts nodes es) (all_parts parts_left j v)))
            (drop_more es j no_entry j_lt_length_es) drop_hs_is
            ∙ ap₂ (λ u n. bytes_eq (entry_formula nodes e)
            (filled_parts nodes es (hypothesis_parts parts_left j h))
            && are_equal (map (entry_formula nodes) (drop (j + 1) es))
            (map (filled_parts nodes es) (all_parts u n (drop (j + 1) hs))))
            next_parts_are next_j_is
            ∙ ap (λ b. b && fit_from (j + 1) next_part_index) (sym tested.is_fitting_is)

        pub part_count_stays : part_index + total_stored_part_count (drop j hs) ≡ length parts
            → next_part_index + total_stored_part_count (drop (j + 1) hs) ≡ length parts
        part_count_stays part_count_is =
            omega (
              arith,
              ap total_stored_part_count drop_hs_is,
              part_count_is,
              tested.next_part_index_is,
            )
