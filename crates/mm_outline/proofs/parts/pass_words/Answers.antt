use Rattle.std.proofs.Common.{◌≡◌, refl}
use Rattle.mm_outline.specs.declared.parts.Part.{Part}
use Rattle.mm_outline.specs.declared.parts.Part.TheVariants.{Start, Labelled, Words, Formula, Proof}
use Rattle.mm_outline.proofs.PassedLaw.{TakesWords, plain_words_are_passed_up_to, part_stays_part}
use Rattle.mm_outline.proofs.parts.pass_words.Goals as goal

pub returns-in_default : goal.returns-in_default
returns-in_default c =
    let keyword_found = c.next_keyword.ensures in
    let takes_words = takes_by_part c.args.part refl in
    record {
      from_le_to = keyword_found.from_le_result;
      to_le_count = keyword_found.result_le_count;
      is_part =
          part_stays_part c.args.part c.args.token_index c.next_keyword.result takes_words
          keyword_found.from_le_result
          c.requires.is_part_before;
      leads =
          λ d. plain_words_are_passed_up_to c.args.text.now c.args.tokens.now d c.args.part
          c.args.token_index
          c.next_keyword.result takes_words c.requires.is_part_before keyword_found.from_le_result
          keyword_found.result_le_count keyword_found.none_has_dollar;
    }
  where
    takes_by_part : (p : Part) → c.args.part ≡ p → TakesWords p
    takes_by_part Start part_is = c.in_default.not-Start part_is
    takes_by_part (Labelled l) part_is = c.in_default.not-Labelled l part_is
    takes_by_part (Words k w) part_is = tt
    takes_by_part (Formula w) part_is = tt
    takes_by_part (Proof w q) part_is = tt
