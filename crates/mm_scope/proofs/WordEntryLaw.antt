-- What is known of a word after one statement more.
use Rattle.std.proofs.Common.{◌≡◌, ℕ, ◌<◌, true, false, ◌&&◌, ◌||◌, not, List, [], ◌∷◌, ◌++◌}
use Rattle.std.proofs.Common.{length, flat_map, map, bytes_eq, nat_eq, Option, None, Some, refl}
use Rattle.std.proofs.Common.{sym, ◌∙◌, arith, true≢false}
use Rattle.std.proofs.lemmas.List.Folds.{list_any-append}
use Rattle.std.proofs.lemmas.Grind.{flat_map-append}
use Rattle.std.proofs.lemmas.Bool.{ne_eqb}
use Rattle.std.proofs.lemmas.Slice.Eq.{bytes_eq-Decides}
use Rattle.std.specs.List.{list_any}
use Rattle.std.proofs.Math.Bool.{or-false, or-true}
use Rattle.mm_spec.specs.Text.{Bytes, is_in}
use Rattle.mm_spec.specs.Statement.{Statement}
use Rattle.mm_spec.specs.Scope.{Typing, active_statements, variables_of, constants_of, typings_of}
use Rattle.mm_outline.specs.Blocks.{never}
use Rattle.mm_scope.specs.WordEntry.{WordEntry, entry, declared_entry, typed_entry, IsEntryOf}
use Rattle.mm_scope.specs.WordEntry.{typed_by, typecode_by, declared_by, gives_other_typecode}
use Rattle.mm_scope.specs.WordEntry.{is_constant_entry, is_variable_entry}
use Rattle.mm_outline.specs.Typed.{typed_words}
use Rattle.mm_scope.proofs.LatestLaw.{latest_unchanged, latest_is_new}

-- a word that the typings don't have gets no other typecode from them
no_typing_no_other_typecode : (c w : Bytes) (ts : List Typing)
    → is_in w (map (λ t. t.variable) ts ++ []) ≡ false
    → list_any (gives_other_typecode c w) (ts ++ []) ≡ false
no_typing_no_other_typecode c w [] w_not_typed = refl
no_typing_no_other_typecode c w (t ∷ ts) w_not_typed =
    grind (arith, no_typing_no_other_typecode c w ts)

module _ (db : List Statement) (s : Statement) (w : Bytes) where
  -- a word is in a list of all statements if it is in that of the earlier ones or of the last
  pub in_flat_map_push : (f : Statement → List Bytes)
      → is_in w (flat_map f (db ++ s ∷ [])) ≡ (is_in w (flat_map f db) || is_in w (f s ++ []))
  in_flat_map_push f =
      rw (flat_map-append f db (s ∷ []))
      (list_any-append (bytes_eq w) (flat_map f db) (f s ++ []))

  -- another typecode is given by an earlier statement or by the last
  other_typecode_push : (c : Bytes)
      → list_any (gives_other_typecode c w) (flat_map typings_of (db ++ s ∷ []))
      ≡ (list_any (gives_other_typecode c w) (flat_map typings_of db)
      || list_any (gives_other_typecode c w) (typings_of s ++ []))
  other_typecode_push c =
      rw (flat_map-append typings_of db (s ∷ []))
      (list_any-append (gives_other_typecode c w) (flat_map typings_of db) (typings_of s ++ []))

  -- the statement has not the word among these
  pub in_flat_map_unchanged : (f : Statement → List Bytes) → is_in w (f s ++ []) ≡ false
      → is_in w (flat_map f (db ++ s ∷ [])) ≡ is_in w (flat_map f db)
  in_flat_map_unchanged f s_has_not_w =
      rw (in_flat_map_push f, s_has_not_w) (or-false (is_in w (flat_map f db)))

  -- the statement has the word among these
  in_flat_map_of_last : (f : Statement → List Bytes) → is_in w (f s ++ []) ≡ true
      → is_in w (flat_map f (db ++ s ∷ [])) ≡ true
  in_flat_map_of_last f s_has_w =
      rw (in_flat_map_push f, s_has_w) (or-true (is_in w (flat_map f db)))

  -- the statement doesn't type the word
  other_typecode_unchanged : (c : Bytes) → is_in w (typed_words s ++ []) ≡ false
      → list_any (gives_other_typecode c w) (flat_map typings_of (db ++ s ∷ []))
      ≡ list_any (gives_other_typecode c w) (flat_map typings_of db)
  other_typecode_unchanged c s_types_not_w =
      rw (
        other_typecode_push c,
        no_typing_no_other_typecode c w (typings_of s) s_types_not_w,
      ) (or-false (list_any (gives_other_typecode c w) (flat_map typings_of db)))

  -- the statement says nothing of the word
  pub entry_is_unchanged : (x : Option WordEntry) → IsEntryOf db w x
      → is_in w (constants_of s ++ []) ≡ false → is_in w (variables_of s ++ []) ≡ false
      → is_in w (typed_words s ++ []) ≡ false → IsEntryOf (db ++ s ∷ []) w x
  entry_is_unchanged x x_is_entry s_is_no_constant s_is_no_variable s_types_not_w = record {
    constant_is_known = in_flat_map_unchanged constants_of s_is_no_constant
        ∙ x_is_entry.constant_is_known;
    variable_is_known = in_flat_map_unchanged variables_of s_is_no_variable
        ∙ x_is_entry.variable_is_known;
    declaration_is_latest = λ is_variable. latest_unchanged db s variables_of w (declared_by x)
        (x_is_entry.declaration_is_latest is_variable) s_is_no_variable;
    typing_is_latest = λ is_typed. latest_unchanged db s typed_words w (typed_by x)
        (x_is_entry.typing_is_latest is_typed) s_types_not_w;
    untyped_has_no_typing = λ typed_is_never. in_flat_map_unchanged typed_words s_types_not_w
        ∙ x_is_entry.untyped_has_no_typing typed_is_never;
    other_typecode = λ c. other_typecode_unchanged c s_types_not_w ∙ x_is_entry.other_typecode c;
  }

  -- what is known of a word after a statement that declares it as a constant
  pub entry_of_new_constant : IsEntryOf db w None → is_in w (constants_of s ++ []) ≡ true
      → is_in w (variables_of s ++ []) ≡ false → is_in w (typed_words s ++ []) ≡ false → (n : ℕ)
      → IsEntryOf (db ++ s ∷ []) w (Some (entry false n never w))
  entry_of_new_constant w_has_no_entry s_is_constant s_is_no_variable s_types_not_w n = record {
    constant_is_known = in_flat_map_of_last constants_of s_is_constant;
    variable_is_known = in_flat_map_unchanged variables_of s_is_no_variable
        ∙ w_has_no_entry.variable_is_known;
    declaration_is_latest = λ is_variable. absurd (true≢false (sym is_variable));
    typing_is_latest = λ is_typed. absurd (is_typed refl);
    untyped_has_no_typing = λ typed_is_never. in_flat_map_unchanged typed_words s_types_not_w
        ∙ w_has_no_entry.untyped_has_no_typing refl;
    other_typecode = λ c. other_typecode_unchanged c s_types_not_w
        ∙ w_has_no_entry.other_typecode c;
  }

  -- the entry after a declaration is that of a variable, with this statement; what is known of its
  -- typing stays
  is_declared : (x : Option WordEntry)
      → (is_constant_entry (declared_entry true (length db) w x) ≡ false)
      × (is_variable_entry (declared_entry true (length db) w x) ≡ true)
      × (declared_by (declared_entry true (length db) w x) ≡ length db)
      × (typed_by (declared_entry true (length db) w x) ≡ typed_by x)
      × ((c : Bytes) → (not (nat_eq (typed_by x) never) && not (bytes_eq c (typecode_by x)))
      ≡ (not (nat_eq (typed_by (declared_entry true (length db) w x)) never)
      && not (bytes_eq c (typecode_by (declared_entry true (length db) w x)))))
  is_declared None = (refl, refl, refl, refl, λ c. refl)
  is_declared (Some e) = (refl, refl, refl, refl, λ c. refl)

  -- what is known of a word after a statement that declares it as a variable
  pub entry_of_new_variable : (x : Option WordEntry) → IsEntryOf db w x
      → is_constant_entry x ≡ false
      → is_in w (flat_map variables_of (active_statements db (length db))) ≡ false
      → is_in w (constants_of s ++ []) ≡ false → is_in w (variables_of s ++ []) ≡ true
      → is_in w (typed_words s ++ []) ≡ false
      → IsEntryOf (db ++ s ∷ []) w (declared_entry true (length db) w x)
  entry_of_new_variable x x_is_entry x_is_no_constant w_is_inactive s_is_no_constant s_is_variable
      s_types_not_w =
      let x_is_declared = is_declared x in
      let same_typing = x_is_declared.3 in
      record {
        constant_is_known = in_flat_map_unchanged constants_of s_is_no_constant
            ∙ x_is_entry.constant_is_known ∙ x_is_no_constant ∙ sym x_is_declared.0;
        variable_is_known = in_flat_map_of_last variables_of s_is_variable ∙ sym x_is_declared.1;
        declaration_is_latest = λ is_variable. rw x_is_declared.2
            (latest_is_new db s variables_of w s_is_variable w_is_inactive);
        typing_is_latest = λ is_typed. rw same_typing
            (latest_unchanged db s typed_words w (typed_by x)
            (x_is_entry.typing_is_latest
            (λ typed_is_never. is_typed (same_typing ∙ typed_is_never))) s_types_not_w);
        untyped_has_no_typing = λ typed_is_never. in_flat_map_unchanged typed_words s_types_not_w
            ∙ x_is_entry.untyped_has_no_typing (sym same_typing ∙ typed_is_never);
        other_typecode = λ c. other_typecode_unchanged c s_types_not_w ∙ x_is_entry.other_typecode c
            ∙ x_is_declared.4 c;
      }

  -- what is known of a word after a `$f` that types it
  pub entry_of_typed_variable : (e : WordEntry) → IsEntryOf db w (Some e) → length db < never
      → (c : Bytes)
      → is_in w (flat_map typed_words (active_statements db (length db))) ≡ false
      → list_any (gives_other_typecode c w) (flat_map typings_of db) ≡ false
      → is_in w (constants_of s ++ []) ≡ false → is_in w (variables_of s ++ []) ≡ false
      → typings_of s ≡ record { typecode = c; variable = w } ∷ []
      → IsEntryOf (db ++ s ∷ []) w (typed_entry (length db) c (Some e))
  entry_of_typed_variable e e_is_entry db_lt_never c w_has_no_active_type no_other_typecode_before
      s_is_no_constant s_is_no_variable s_types_w = record {
        constant_is_known = in_flat_map_unchanged constants_of s_is_no_constant
            ∙ e_is_entry.constant_is_known;
        variable_is_known = in_flat_map_unchanged variables_of s_is_no_variable
            ∙ e_is_entry.variable_is_known;
        declaration_is_latest = λ is_variable. latest_unchanged db s variables_of w e.declaration
            (e_is_entry.declaration_is_latest is_variable) s_is_no_variable;
        typing_is_latest =
            λ is_typed. latest_is_new db s typed_words w s_has_typing w_has_no_active_type;
        untyped_has_no_typing =
            λ number_is_never. absurd (omega (arith, number_is_never, db_lt_never));
        other_typecode = other_typecode_after;
      }
    where
      w_is_w : bytes_eq w w ≡ true
      w_is_w = (bytes_eq-Decides w w).1 refl

      s_has_typing : is_in w (typed_words s ++ []) ≡ true
      s_has_typing = rw (s_types_w, w_is_w) refl

      other_typecode_after : (d : Bytes)
          → list_any (gives_other_typecode d w) (flat_map typings_of (db ++ s ∷ []))
          ≡ (not (nat_eq (length db) never) && not (bytes_eq d c))
      other_typecode_after d =
          let length_ne_never : nat_eq (length db) never ≡ false =
          ne_eqb (length db) never
          (λ length_is_never. omega (arith, length_is_never, db_lt_never)) in
          let typecode_is_same = sym (e_is_entry.other_typecode c) ∙ no_other_typecode_before in
          rw (
            other_typecode_push d,
            e_is_entry.other_typecode d,
            s_types_w,
            w_is_w,
            length_ne_never,
          ) (grind (arith, bytes_eq-Decides, typecode_is_same))
