-- What a list of names says of them.
use Rattle.std.proofs.Common.{refl, Result, Ok, Err, OnOk, is_some, ◌≡◌, ℕ, suc, ◌≤◌, ◌<◌, true}
use Rattle.std.proofs.Common.{Bool, ◌||◌, false, List, [], ◌∷◌, ◌++◌, length, map, slice_get}
use Rattle.std.proofs.Common.{Option, None, Some, bytes_eq, if◌then◌else◌, sym, ap, ◌∙◌, arith}
use Rattle.std.proofs.lemmas.Option.{slice_get-get_or, none-some, slice_get-map, same_Some}
use Rattle.std.proofs.lemmas.List.{length-map}
use Rattle.std.proofs.lemmas.Map.Made.{is_some-lookup}
use Rattle.std.specs.Map.{keys_of, lookup}
use Rattle.indexmap.specs.IndexMap.{insert_entry}
use Rattle.mm_spec.specs.Text.{Bytes, is_in}
use Rattle.mm_spec.specs.Frame.{index_of}
use Rattle.mm_database.specs.declared.name.Name.{Name}
use Rattle.mm_database.specs.Names.{find, names_of, with_name}
use Rattle.mm_database.proofs.SymbolsLaw.{key_is_name, missing_index_is_length}

-- the keys of a map with one entry more
pub names_inserted : {V : Type 0} (es : List (Name × V)) (k : Name) (v : V)
    → map (λ x. x.bytes.now)
    (keys_of (insert_entry (λ (a b : Name). bytes_eq a.bytes.now b.bytes.now) es k v))
    ≡ with_name k.bytes.now (map (λ x. x.bytes.now) (keys_of es))
names_inserted [] k v = refl
names_inserted (e ∷ es) k v = names_with_k (bytes_eq k.bytes.now e.0.bytes.now)
    (names_inserted es k v)
  where
    ns : List Bytes
    ns = map (λ x. x.bytes.now) (keys_of es)

    names_behind : (b : Bool)
        → map (λ x. x.bytes.now)
        (keys_of (insert_entry (λ (a b : Name). bytes_eq a.bytes.now b.bytes.now) es k v))
        ≡ (if b then ns else (ns ++ k.bytes.now ∷ []))
        → e.0.bytes.now
        ∷ map (λ x. x.bytes.now)
        (keys_of (insert_entry (λ (a b : Name). bytes_eq a.bytes.now b.bytes.now) es k v))
        ≡ (if b then (e.0.bytes.now ∷ ns) else ((e.0.bytes.now ∷ ns) ++ k.bytes.now ∷ []))
    names_behind true rest_inserted = ap (λ l. e.0.bytes.now ∷ l) rest_inserted
    names_behind false rest_inserted = ap (λ l. e.0.bytes.now ∷ l) rest_inserted

    names_with_k : (b : Bool)
        → map (λ x. x.bytes.now)
        (keys_of (insert_entry (λ (a b : Name). bytes_eq a.bytes.now b.bytes.now) es k v))
        ≡ with_name k.bytes.now ns
        → map (λ x. x.bytes.now)
        (keys_of
        (if b then ((e.0, v) ∷ es) else
        (e ∷ insert_entry (λ (a b : Name). bytes_eq a.bytes.now b.bytes.now) es k v)))
        ≡ (if b || is_in k.bytes.now ns then (e.0.bytes.now ∷ ns) else
        ((e.0.bytes.now ∷ ns) ++ k.bytes.now ∷ []))
    names_with_k true rest_inserted = refl
    names_with_k false rest_inserted = names_behind (is_in k.bytes.now ns) rest_inserted

-- a name that is there stays the list as it was
pub with_known_name_is_unchanged : (w : Bytes) (ns : List Bytes) → is_in w ns ≡ true
    → with_name w ns ≡ ns
with_known_name_is_unchanged w ns w_in_ns = ap (λ b. if b then ns else (ns ++ w ∷ [])) w_in_ns

-- each entry has one name
pub as_many_names_as_entries : {V : Type 0} (es : List (Name × V))
    → length es ≡ length (map (λ x. x.bytes.now) (keys_of es))
as_many_names_as_entries es =
    sym (length-map (keys_of es) (λ x. x.bytes.now) ∙ length-map es (λ e. e.0))

-- the number of a name that isn't there
pub missing_number_is_count : {V : Type 0} (w : Bytes) (es : List (Name × V)) → find es w ≡ None
    → length es ≡ index_of w (names_of es)
missing_number_is_count w es w_is_missing =
    as_many_names_as_entries es
    ∙ missing_index_is_length w (names_of es)
    (sym (key_is_name w (keys_of es)) ∙ sym (is_some-lookup (λ k. bytes_eq w k.bytes.now) es)
    ∙ ap is_some w_is_missing)

-- a name's index
pub index_of_le_length : (w : Bytes) (ns : List Bytes) → index_of w ns ≤ length ns
index_of_le_length w [] = omega arith
index_of_le_length w (n ∷ ns) =
    let rest = index_of_le_length w ns in
    elim (bytes_eq w n) as (λ b. elim b [ true ↦ 0 | false ↦ suc (index_of w ns) ]
    ≤ suc (length ns)) [ true ↦ omega arith | false ↦ omega (arith, rest) ]

-- what follows from a clause holds of the result too
pub on_ok_then : {A E : Type 0} {P Q : Type 0} (r : Result A E) → OnOk r P → (P → Q) → OnOk r Q
on_ok_then (Ok a) p_holds q_from_p = q_from_p p_holds
on_ok_then (Err e) p_holds q_from_p = tt

-- a name that is found is there
pub found_name_is_in : {V : Type 0} (w : Bytes) (es : List (Name × V)) (o : Option V)
    → lookup (λ (k : Name). bytes_eq w k.bytes.now) es ≡ o → is_some o ≡ true
    → is_in w (map (λ x. x.bytes.now) (keys_of es)) ≡ true
found_name_is_in w es o found_is_o o_is_some =
    rw (← key_is_name, ← is_some-lookup, found_is_o) o_is_some

-- the name at the number of an entry
pub name_of_entry : {V : Type 0} (es : List (Name × V)) (i : ℕ) (k : Name) (v : V)
    → slice_get es i ≡ Some (k, v) → slice_get (map (λ x. x.bytes.now) (keys_of es)) i
    ≡ Some k.bytes.now
name_of_entry es i k v entry_i_is_k = rw (slice_get-map, slice_get-map, entry_i_is_k) refl

-- the name of an entry
pub entry_has_name : {V : Type 0} (es : List (Name × V)) (i : ℕ) (k : Name) (v : V) (w : Bytes)
    → slice_get es i ≡ Some (k, v) → slice_get (map (λ x. x.bytes.now) (keys_of es)) i ≡ Some w
    → k.bytes.now ≡ w
entry_has_name es i k v w entry_i_is_k name_i_is_w =
    same_Some _ _ (sym (name_of_entry es i k v entry_i_is_k) ∙ name_i_is_w)

-- where there is an entry, it isn't missing
pub entry_is_not_missing : {V : Type 0} (es : List (Name × V)) (i : ℕ)
    → i < length (map (λ x. x.bytes.now) (keys_of es)) → slice_get es i ≡ None → ⊥
entry_is_not_missing [] i i_lt_length entry_i_is_none = omega (arith, i_lt_length)
entry_is_not_missing (x ∷ es) i i_lt_length entry_i_is_none = none-some _ (sym entry_i_is_none
    ∙ slice_get-get_or (x ∷ es) i x (rw (length-map, length-map) at i_lt_length))
