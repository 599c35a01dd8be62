-- Which words the active statements have.
use Rattle.std.proofs.lemmas.Grind.{common_steps, flat_map-append}
use Rattle.std.proofs.Common.{cond, ◌≡◌, ℕ, zero, suc, ◌+◌, Bool, true, false, ◌&&◌, ◌||◌, List, []}
use Rattle.std.proofs.Common.{◌∷◌, flat_map, map, bytes_eq, refl, ap, ◌∙◌, arith}
use Rattle.std.proofs.lemmas.List.Folds.{list_any-append}
use Rattle.std.specs.List.{list_any, range_with_len, filter}
use Rattle.mm_spec.specs.Text.{Bytes, is_in}
use Rattle.mm_spec.specs.Statement.{Statement}
use Rattle.mm_spec.specs.Scope.{Typing, statement_at, typings_of}
use Rattle.mm_outline.specs.Typed.{has_word, typed_words}

module _ (db : List Statement) (f : Statement → List Bytes) (w : Bytes) where
  pub word_of_active_is_any : (p : ℕ → Bool) (n a : ℕ)
      → is_in w (flat_map f (flat_map (statement_at db) (filter p (range_with_len a n))))
      ≡ list_any (λ j. p j && has_word db f w j) (range_with_len a n)
  word_of_active_is_any p zero a = refl
  word_of_active_is_any p (suc n) a = among_by_test (p a) (word_of_active_is_any p n (a + 1))
    where
      among_by_test : (b : Bool)
          → is_in w (flat_map f (flat_map (statement_at db) (filter p (range_with_len (a + 1) n))))
          ≡ list_any (λ j. p j && has_word db f w j) (range_with_len (a + 1) n)
          → is_in w
          (flat_map f
          (flat_map (statement_at db)
          (cond b (a ∷ filter p (range_with_len (a + 1) n)) (filter p (range_with_len (a + 1) n)))))
          ≡ ((b && has_word db f w a)
          || list_any (λ j. p j && has_word db f w j) (range_with_len (a + 1) n))
      among_by_test true later_among =
          ap (is_in w)
          (flat_map-append f (statement_at db a)
          (flat_map (statement_at db) (filter p (range_with_len (a + 1) n))))
          ∙ list_any-append _ (flat_map f (statement_at db a))
          (flat_map f (flat_map (statement_at db) (filter p (range_with_len (a + 1) n))))
          ∙ ap (λ b. has_word db f w a || b) later_among
      among_by_test false later_among = later_among

typed_variable_is_any : (w : Bytes) (ts : List Typing)
    → list_any (λ t. bytes_eq w t.variable) ts ≡ is_in w (map (λ t. t.variable) ts)
typed_variable_is_any w [] = refl
typed_variable_is_any w (t ∷ ts) = ap (λ b. bytes_eq w t.variable || b) (typed_variable_is_any w ts)

-- whether a statement types a word
pub typed_word_is_typing : (w : Bytes) (xs : List Statement)
    → list_any (λ t. bytes_eq w t.variable) (flat_map typings_of xs)
    ≡ is_in w (flat_map typed_words xs)
typed_word_is_typing w [] = refl
typed_word_is_typing w (s ∷ xs) =
    let later = typed_word_is_typing w xs in
    grind (arith, common_steps, list_any-append, bytes_eq, typed_variable_is_any)
