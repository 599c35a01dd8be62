use Rattle.std.proofs.Common.{refl, rules, ◌≡◌, ◌∙◌, ◌+◌, ℕ, List, ◌∷◌, [], slice_get, Some, false}
use Rattle.std.proofs.Common.{sym, ap, arith, inl, inr, length-append}
use Rattle.std.proofs.lemmas.Bool.{cases_lt}
use Rattle.std.proofs.lemmas.List.{get_or_push, get_or_append_left}
use Rattle.std.proofs.lemmas.Option.{slice_get_within}
use Rattle.mm_database.specs.Names.{find, is_variable_in, names_of}
use Rattle.mm_database.proofs.names.NameTable.variable_flags.Goals as goal
use Rattle.mm_database.proofs.names.NameTable.variable_flags.Goals.{in-Some, in-None}
use Rattle.mm_database.proofs.NamesLaw.{entry_has_name, as_many_names_as_entries}
use Rattle.mm_database.proofs.NamesLaw.{entry_is_not_missing}

pub loop-i-preserved : goal.loop-i-preserved
loop-i-preserved g c =
    let es = c.self.inside.symbols in
    let vs = c.loop-i.variable_flags.items in
    let v = c.match-get_index.is_variable in
    let i = c.loop-i.i in
    let invariant = c.loop-i.invariant in
    let last_flag_is : (w : List ℕ) → slice_get (names_of es) i ≡ Some w
    → v ≡ is_variable_in (find es w) = λ w name_is_w. elim c.match-get_index.branch [
      | in-Some b ↦
          let key_is_w = entry_has_name es i b.in-Some.field-0-0.now b.in-Some.symbol.now w
          (sym b.in-Some.ensures.entry) name_is_w in
          rw (b.is_variable-is, ← key_is_w, b.in-Some.ensures.is_found) refl
      | in-None b ↦ absurd (entry_is_not_missing es i (slice_get_within (names_of es) i w name_is_w)
          (sym b.in-None.ensures.entry))
    ] in
    rw c.in_ok-push.ensures.items (record {
      count = rw length-append (ap (λ n. n + 1) invariant.count);
      each = λ j w j_le_i name_is_w. elim (cases_lt j i) [
        | inl j_lt_i ↦ get_or_append_left vs (v ∷ []) false j (omega (arith, invariant.count))
            ∙ invariant.each j w j_lt_i name_is_w
        | inr i_le_j ↦
            (let j_is_i : j ≡ i = omega arith in
            get_or_push vs v false j (invariant.count ∙ sym j_is_i)
            ∙ last_flag_is w (rw j_is_i at name_is_w))
      ];
    })

pub returns-clause-count_is : goal.returns-clause-count_is
returns-clause-count_is g c = search (rules, arith, as_many_names_as_entries)

pub returns-clause-flags_are : goal.returns-clause-flags_are
returns-clause-flags_are g c =
    search (rules, arith, slice_get, slice_get_within, as_many_names_as_entries)
