-- Words after a keyword are passed over.
use Rattle.std.proofs.lemmas.Grind.{common_steps}
use Rattle.std.proofs.Common.{◌≡◌, ℕ, zero, suc, ◌+◌, ◌-◌, ◌<◌, ◌≤◌, false, List, [], length, arith}
use Rattle.mm_spec.specs.Text.{has_dollar}
use Rattle.mm_spec.specs.Laws.Table as table
use Rattle.mm_spec.specs.declared.Word.{Word}
use Rattle.mm_outline.specs.Parts.{progress, token_at, IsPartBefore}
use Rattle.mm_outline.specs.NextStatement.{Leads, tokens_from}
use Rattle.mm_outline.specs.declared.parts.Part.{Part}
use Rattle.mm_outline.specs.declared.parts.Part.TheVariants.{Start, Labelled}
use Rattle.mm_outline.proofs.BetweenLaw.{between_with_one_more}
use Rattle.mm_outline.proofs.ProgressLaw.{nothing_read_leads_to_itself, leads_one_after_other}
use Rattle.mm_outline.proofs.ProgressLaw.{continued_leads_on, tokens_from_begin_with}

-- a part after a keyword
abbrev pub TakesWords : Part → Type 0
TakesWords Start = ⊥
TakesWords (Labelled l) = ⊥
TakesWords _ = Unit {0}

-- a part that takes words before token i does so before each later token
pub part_stays_part : (part : Part) (i j : ℕ) → TakesWords part → i ≤ j → IsPartBefore part i
    → IsPartBefore part j
part_stays_part part i j h1 h2 h3 = grind (arith, common_steps)

module _ (text : List ℕ) (ws : List Word) (d : ℕ) where
  -- a word without `$` continues the statement and leaves the part as it is
  plain_word_continues : (part : Part) (i : ℕ) → TakesWords part → IsPartBefore part i
      → i < length ws
      → has_dollar (token_at text ws i).word ≡ false
      → table.continued (progress text ws d part (i + 1))
      ≡ table.transition (progress text ws d part i) (table.class (token_at text ws i).word)
      (token_at text ws i)
  plain_word_continues part i takes_words is_part i_lt_length no_dollar =
      grind (arith, common_steps, between_with_one_more)

  plain_words_are_passed : (part : Part) (n i j : ℕ) → i + n ≡ j → TakesWords part
      → IsPartBefore part i → j ≤ length ws
      → ((k : ℕ) → i ≤ k → k < j → has_dollar (token_at text ws k).word ≡ false)
      → Leads (progress text ws d part i) (tokens_from text ws i) [] (progress text ws d part j)
      (tokens_from text ws j)
  plain_words_are_passed part zero i j j_is takes_words is_part j_le_length no_dollars =
      let same : i ≡ j = omega arith in rw same (nothing_read_leads_to_itself _ _)
  plain_words_are_passed part (suc n) i j j_is takes_words is_part j_le_length no_dollars =
      let i_lt_length : i < length ws = omega arith in
      let later_is_part = part_stays_part part i (i + 1) takes_words (omega arith) is_part in
      let later = plain_words_are_passed part n (i + 1) j (omega arith) takes_words later_is_part
      j_le_length (λ k i_lt_k k_lt_j. no_dollars k (omega arith) k_lt_j) in
      leads_one_after_other {row = []} (rw (tokens_from_begin_with text ws i i_lt_length)
      (continued_leads_on (plain_word_continues part i takes_words is_part i_lt_length
      (no_dollars i (omega arith) (omega arith))))) later

  pub plain_words_are_passed_up_to : (part : Part) (i j : ℕ) → TakesWords part → IsPartBefore part i
      → i ≤ j
      → j ≤ length ws → ((k : ℕ) → i ≤ k → k < j → has_dollar (token_at text ws k).word ≡ false)
      → Leads (progress text ws d part i) (tokens_from text ws i) [] (progress text ws d part j)
      (tokens_from text ws j)
  plain_words_are_passed_up_to part i j takes_words is_part i_le_j j_le_length no_dollars =
      plain_words_are_passed part (j - i) i j (omega arith) takes_words is_part j_le_length
      no_dollars
