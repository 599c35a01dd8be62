-- Plain words: they are tokens outside comments, and comment words inside.
use Rattle.std.specs.Prelude.{◌≡◌, ◌==◌, ◌&&◌, ℕ, Bool, not, List, slice_index, true, false}
use Rattle.mm_spec.specs.Bytes.{is_printable}
use Rattle.mm_spec.specs.Roles.{is_clean}
use Rattle.mm_spec.specs.Text.{has_dollar}

-- printable bytes, and no `$` among them
pub record IsPlainWord (word : List ℕ) : Type 0 where
  pub clean : is_clean word ≡ true
  pub no_dollar : has_dollar word ≡ false

-- whether the byte at the place is printable and isn't `$`
unfoldable pub plain_at : List ℕ → ℕ → Bool
plain_at text i = is_printable (slice_index text i) && not (slice_index text i == 0x24)
