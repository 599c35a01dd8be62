-- What a word is, by its bytes: outside comments, and inside one (Metamath book, "Preliminaries"
-- and "Preprocessing").
use Rattle.std.specs.Prelude.{ℕ, ◌+◌, ◌==◌, ◌||◌, ◌&&◌, Bool, true, false, not, List, [], ◌∷◌}
use Rattle.std.specs.Prelude.{length, slice_index, if◌then◌else◌, Some, None, codes}
use Rattle.std.specs.List.{list_all, list_any, position}
use Rattle.mm_spec.specs.Bytes.{is_printable}
use Rattle.mm_spec.specs.Text.{has_dollar}
use Rattle.mm_spec.specs.declared.Code.TheVariants.{BadByte, MarkInComment, StrayDollar}
use Rattle.mm_spec.specs.declared.Fault.{Fault}
use Rattle.mm_spec.specs.declared.Role.{Role}
use Rattle.mm_spec.specs.declared.Role.TheVariants.{Token, Opening, Closing, Comment, Faulty}

-- every byte is printable
unfoldable pub is_clean : List ℕ → Bool
is_clean word = list_all is_printable word

-- `$` and that byte, and nothing else
unfoldable pub is_dollar_and : ℕ → List ℕ → Bool
is_dollar_and b word = length word == 2 && slice_index word 0 == 0x24 && slice_index word 1 == b

-- `$c $v $f $e $d $a $p $= $. ${ $} $[ $]`: the keywords but for `$(` and `$)`
unfoldable pub is_keyword : List ℕ → Bool
is_keyword word = list_any (λ b. is_dollar_and b word) (codes "cvfedap=.{}[]")

-- the two bytes are `$(` or `$)`, the marks at which comments open and close
unfoldable pub is_comment_mark : ℕ → ℕ → Bool
is_comment_mark a b = a == 0x24 && (b == 0x28 || b == 0x29)

-- whether `$(` or `$)` occurs in it
unfoldable pub has_comment_mark : List ℕ → Bool
has_comment_mark [] = false
has_comment_mark (a ∷ []) = false
has_comment_mark (a ∷ b ∷ word) = is_comment_mark a b || has_comment_mark (b ∷ word)

-- printable bytes, and no `$` unless it is a keyword
unfoldable pub is_token : List ℕ → Bool
is_token word = is_clean word && (not (has_dollar word) || is_keyword word)

-- `$(`
abbrev pub opens_comment : List ℕ → Bool
opens_comment word = is_dollar_and 0x28 word

-- `$)`
abbrev pub closes_comment : List ℕ → Bool
closes_comment word = is_dollar_and 0x29 word

-- printable bytes with neither `$(` nor `$)` among them
unfoldable pub is_comment_word : List ℕ → Bool
is_comment_word word = is_clean word && not (has_comment_mark word)

-- what a word is: outside a comment (false), and inside one (true)
unfoldable pub role_of : Bool → List ℕ → Role
role_of false word =
    if is_token word then Token else (if opens_comment word then Opening else Faulty)
role_of true word =
    if closes_comment word then Closing else (if is_comment_word word then Comment else Faulty)

-- The fault of a faulty word that begins at the place: its first bad byte if it has one (E01);
-- otherwise a mark inside a comment (E02), or a dollar sign outside one (E04).
unfoldable pub fault_of : Bool → ℕ → List ℕ → Fault
fault_of in_comment at word = elim (position (λ b. not (is_printable b)) word) [
  | Some i ↦ record { at = at + i; code = BadByte }
  | None ↦ record { at = at; code = if in_comment then MarkInComment else StrayDollar }
]
