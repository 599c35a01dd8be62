-- Lists of words read, one word after another.
use Rattle.std.proofs.Common.{rules, arith, ◌≡◌, ℕ, Bool, true, false, if◌then◌else◌, List, [], ◌∷◌}
use Rattle.std.proofs.Common.{◌++◌, Option, Some, None, is_some, refl, append_assoc}
use Rattle.std.proofs.lemmas.Grind.{common_steps}
use Rattle.mm_spec.specs.Roles.{role_of, fault_of, is_token, opens_comment}
use Rattle.mm_spec.specs.Readings.{Reading, reading, with_tokens, bytes_of}
use Rattle.mm_spec.specs.Laws.Readings.{append_reading}
use Rattle.mm_spec.specs.declared.Word.{Word}
use Rattle.mm_spec.specs.declared.Fault.{Fault}
use Rattle.mm_spec.specs.declared.Role.{Role}
use Rattle.mm_spec.specs.declared.Role.TheVariants.{Token, Opening, Closing, Comment, Faulty}

-- a word that is read as a token is one
pub read_as_token : (b : Bool) (w : List ℕ) → role_of b w ≡ Token → is_token w ≡ true
unfolding role_of
read_as_token false w role_is_token = token_outside (is_token w) (opens_comment w) role_is_token
  where
    token_outside : (t o : Bool) → (if t then Token else (if o then Opening else Faulty)) ≡ Token
        → t ≡ true
    token_outside true o role_is_token = refl
    token_outside false true role_is_token = absurd (cc)
    token_outside false false role_is_token = absurd (cc)
read_as_token true w role_is_token =
    search (rules, arith, none_inside)
  where
    none_inside : (c o : Bool) → (if c then Closing else (if o then Comment else Faulty)) ≡ Token
        → ⊥
    none_inside true o role_is_token = cc
    none_inside false true role_is_token = cc
    none_inside false false role_is_token = cc

with_tokens_push : (ts : List Word) (w : Word) (r : Reading)
    → with_tokens ts (with_tokens (w ∷ []) r) ≡ with_tokens (ts ++ w ∷ []) r
with_tokens_push ts w r = rw append_assoc refl

pub reading_token : (text : List ℕ) (ts : List Word) (open_comment : Option ℕ) (w : Word)
    → (ws : List Word)
    → role_of (is_some open_comment) (bytes_of text w) ≡ Token →
    with_tokens ts (reading text open_comment (w ∷ ws))
    ≡ with_tokens (ts ++ w ∷ []) (reading text open_comment ws)
unfolding reading
reading_token text ts open_comment w ws role_is = search (rules, arith, with_tokens_push)

pub reading_opening : (text : List ℕ) (open_comment : Option ℕ) (w : Word) (ws : List Word)
    → role_of (is_some open_comment) (bytes_of text w) ≡ Opening →
    reading text open_comment (w ∷ ws) ≡ reading text (Some w.start) ws
unfolding reading
reading_opening text open_comment w ws role_is = rw (role_is, reading) refl

pub reading_closing : (text : List ℕ) (open_comment : Option ℕ) (w : Word) (ws : List Word)
    → role_of (is_some open_comment) (bytes_of text w) ≡ Closing →
    reading text open_comment (w ∷ ws) ≡ reading text None ws
unfolding reading
reading_closing text open_comment w ws role_is = rw (role_is, reading) refl

pub reading_comment : (text : List ℕ) (open_comment : Option ℕ) (w : Word) (ws : List Word)
    → role_of (is_some open_comment) (bytes_of text w) ≡ Comment →
    reading text open_comment (w ∷ ws) ≡ reading text open_comment ws
unfolding reading
reading_comment text open_comment w ws role_is = rw (role_is, reading) refl

pub reading_faulty : (text : List ℕ) (open_comment : Option ℕ) (w : Word) (ws : List Word)
    → role_of (is_some open_comment) (bytes_of text w) ≡ Faulty →
    reading text open_comment (w ∷ ws)
    ≡ record {
      tokens = [];
      fault = Some (fault_of (is_some open_comment) w.start (bytes_of text w));
      open_comment = open_comment;
    }
unfolding reading
reading_faulty text open_comment w ws role_is = rw (role_is, reading) refl

pub reading_end : (text : List ℕ) (open_comment : Option ℕ)
    → reading text open_comment []
    ≡ record { tokens = []; fault = None; open_comment = open_comment }
unfolding reading
reading_end text open_comment = refl

-- ---- one stretch of words after another

pub append_reading_with_tokens : (text : List ℕ) (ts ys us : List Word) (f : Option Fault)
    (c : Option ℕ) →
    with_tokens ts (append_reading text (record { tokens = us; fault = f; open_comment = c }) ys)
    ≡ append_reading text (record { tokens = ts ++ us; fault = f; open_comment = c }) ys
append_reading_with_tokens text ts ys us f c = grind (arith, common_steps, append_assoc)

pub reading_of_token : (text : List ℕ) (c : Option ℕ) (w : Word) (ws : List Word)
    → role_of (is_some c) (bytes_of text w) ≡ Token →
    reading text c (w ∷ ws) ≡ with_tokens (w ∷ []) (reading text c ws)
reading_of_token text c w ws role_is_token = reading_token text [] c w ws role_is_token

pub reading_append : (text : List ℕ) (c : Option ℕ) (xs ys : List Word)
    → reading text c (xs ++ ys) ≡ append_reading text (reading text c xs) ys
reading_append text c [] ys =
    cc (reading_end text c)
reading_append text c (x ∷ xs) ys =
    appended_by_role (role_of (is_some c) (bytes_of text x)) refl (λ d. reading_append text d xs ys)
  where
    appended_by_role : (r : Role) → role_of (is_some c) (bytes_of text x) ≡ r
        → ((d : Option ℕ) → reading text d (xs ++ ys) ≡ append_reading text (reading text d xs) ys)
        →
        reading text c (x ∷ (xs ++ ys)) ≡ append_reading text (reading text c (x ∷ xs)) ys
    appended_by_role Token role_is later_appended =
        search (rules, arith, reading_of_token, append_reading_with_tokens)
    appended_by_role Opening role_is later_appended =
        search (rules, arith, reading_opening)
    appended_by_role Closing role_is later_appended =
        search (rules, arith, reading_closing)
    appended_by_role Comment role_is later_appended =
        search (rules, arith, reading_comment)
    appended_by_role Faulty role_is later_appended =
        search (rules, arith, reading_faulty)
