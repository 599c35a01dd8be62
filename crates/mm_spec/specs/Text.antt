-- Words with their places, and labels (Metamath book, "Preliminaries"); faults are this project's
-- own.
use Rattle.std.specs.Prelude.{ℕ, Bool, ◌||◌, ◌&&◌, List, nat_le, ◌==◌, bytes_eq, map}
use Rattle.std.specs.List.{list_any, list_all}
pub use Rattle.mm_spec.specs.declared.Fault.{Fault}
use Rattle.mm_spec.specs.declared.Code.{Code}

-- a word: its bytes
abbrev pub Bytes : Type 0
Bytes = List ℕ

-- a word with its place, which is that of its first byte
pub record Token : Type 0 where
  pub at : ℕ
  pub word : Bytes

abbrev pub token : ℕ → Bytes → Token
token at word = record { at = at; word = word }

abbrev pub fault : ℕ → Code → Fault
fault at code = record { at = at; code = code }

-- whether the word is among the words
abbrev pub is_in : Bytes → List Bytes → Bool
is_in w ws = list_any (bytes_eq w) ws

-- the words of the tokens
abbrev pub words : List Token → List Bytes
words ts = map (λ t. t.word) ts

-- whether the word contains a `$`
abbrev pub has_dollar : Bytes → Bool
has_dollar w = list_any (λ b. b == 0x24) w

-- a letter, a digit, `-`, `_` or `.` (Metamath book, "Preliminaries"): by their codes `A` to `Z`,
-- `a` to `z`, `0` to `9`, and these three
abbrev pub is_label_byte : ℕ → Bool
is_label_byte b =
    (nat_le 65 b && nat_le b 90) || (nat_le 97 b && nat_le b 122) || (nat_le 48 b && nat_le b 57)
    || (b == 45) || (b == 95) || (b == 46)

-- whether each byte is one that a label may have
abbrev pub is_label : Bytes → Bool
is_label w = list_all is_label_byte w
