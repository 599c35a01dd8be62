-- How symbols are marked and listed, each once.
use Rattle.std.proofs.Common.{◌≡◌, ℕ, ◌+◌, ◌<◌, ◌≤◌, Bool, true, false, ◌&&◌, ◌||◌, List, [], ◌∷◌}
use Rattle.std.proofs.Common.{◌++◌, length, get_or, set, nat_eq, arith}
use Rattle.std.proofs.lemmas.Bool.Decides.{nat_tests}
use Rattle.std.proofs.lemmas.Grind.{common_steps, get_or_default_zero}
use Rattle.std.proofs.lemmas.List.{length-set}
use Rattle.mm_spec.specs.Derivation.{is_member}
use Rattle.mm_frame.specs.Hypotheses.{AreStamps}
use Rattle.mm_spec.proofs.MemberLaw.{member_push}

-- stamps stay those of the variables if a symbol is stamped and added to them
pub stamps_with_symbol : (n stamp : ℕ) (stamps variables : List ℕ) (s : ℕ)
    → AreStamps n stamp stamps variables → s < n
    → AreStamps n stamp (set stamps s stamp) (variables ++ s ∷ [])
stamps_with_symbol n stamp stamps variables s are_stamps s_lt_n =
    grind (arith, common_steps, length-set, member_push)

-- none has a new stamp
pub fresh_stamps_are_of_none : (n k : ℕ) (stamps variables : List ℕ) → length stamps ≡ n
    → ((x : ℕ) → x < n → get_or stamps x 0 ≤ k) → variables ≡ []
    → AreStamps n (k + 1) stamps variables
fresh_stamps_are_of_none n k stamps variables length_is_n stamps_le_k variables_are_none =
    grind (arith, common_steps)

-- a symbol that has been noted already, one that is new, and one that is no variable
pub listed_with_new : (v : ℕ → Bool) (s x : ℕ) (b : Bool) → v s ≡ true
    → (b || nat_eq x s) ≡ (b || (v x && nat_eq x s))
listed_with_new v s x b s_is_variable = grind (arith, nat_tests)

-- a symbol that is already listed changes nothing
pub listed_is_unchanged : (v m : ℕ → Bool) (s x : ℕ) → m s ≡ true
    → m x ≡ (m x || (v x && nat_eq x s))
listed_is_unchanged v m s x s_is_listed = grind (arith, nat_tests)

-- a symbol that is no variable changes nothing
pub not_listed_is_unchanged : (v m : ℕ → Bool) (s x : ℕ) → v s ≡ false
    → m x ≡ (m x || (v x && nat_eq x s))
not_listed_is_unchanged v m s x s_is_no_variable = grind (arith, nat_tests)

-- a symbol with this stamp has been found
pub stamped_is_member : (n stamp : ℕ) (stamps variables : List ℕ) (s index r : ℕ)
    → AreStamps n stamp stamps variables
    → s < n → index ≡ s → r ≡ get_or stamps index r → r ≡ stamp → is_member variables s ≡ true
stamped_is_member n stamp stamps variables s index r are_stamps s_lt_n index_is_s r_is_stamp_of_s
    r_is_stamp =
    grind (arith, common_steps, get_or_default_zero)
