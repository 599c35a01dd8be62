-- Numbers have one spelling. (This project's own.)
use Rattle.std.specs.Prelude.{◌≡◌, ◌≤◌, ℕ, List, codes}
use Rattle.mm_laws.specs.Spelling.{AreLettersOf}

-- each number from 1 on is spelled by one list of letters
abbrev pub NumbersHaveOneSpelling : Type 0
NumbersHaveOneSpelling =
    (n : ℕ) → 1 ≤ n
    → (letters : List ℕ) × AreLettersOf letters n
    × ((other_letters : List ℕ) → AreLettersOf other_letters n → other_letters ≡ letters)

-- the first and the last numbers of one letter, two and three, and the first of four
abbrev pub BookNumbers : Type 0
BookNumbers =
    AreLettersOf (codes "A") 1 × AreLettersOf (codes "T") 20 × AreLettersOf (codes "UA") 21
    × AreLettersOf (codes "YT") 120 × AreLettersOf (codes "UUA") 121
    × AreLettersOf (codes "YYT") 620 × AreLettersOf (codes "UUUA") 621
