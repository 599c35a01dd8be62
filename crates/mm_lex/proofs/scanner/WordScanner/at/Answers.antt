use Rattle.std.proofs.Common.{◌≡◌, ◌<◌, ◌∙◌, ℕ, true, false, List, length, take, sym, subst}
use Rattle.std.specs.Int.{bit_at}
use Rattle.mm_bytes.specs.Masks.{mask}
use Rattle.mm_spec.specs.Bytes.{is_white}
use Rattle.mm_spec.specs.Words.{white_at}
use Rattle.mm_lex.specs.Plain.{plain_at}
use Rattle.mm_lex.proofs.BlockLaw.{one_bit_begins_word, zero_bit_begins_none, taken_dropped_is_all}
use Rattle.mm_lex.proofs.BlockLaw.{place_in_dropped, plain_at_dropped, white_at_dropped}
use Rattle.mm_lex.proofs.scanner.WordScanner.at.Goals as goal

pub invariant_of-result-clause-others_are_plain : goal.invariant_of-result-clause-others_are_plain
invariant_of-result-clause-others_are_plain c i i_lt_64 place_in_text bit_is_zero =
    let text = c.args.text.now in
    let masks = c.masks_of-masks.result in
    sym (plain_at_dropped text c.args.base i)
    ∙ subst (λ (bytes : List ℕ). (i : ℕ) → i < 64 → i < length bytes → bit_at masks.stops i ≡ 0
    → plain_at bytes i ≡ true) (taken_dropped_is_all text c.args.base)
    c.masks_of-masks.ensures.others_are_plain
    i i_lt_64 (place_in_dropped text c.args.base i place_in_text) bit_is_zero

pub invariant_of-result-clause-others_not_white : goal.invariant_of-result-clause-others_not_white
invariant_of-result-clause-others_not_white c i i_lt_64 place_in_text bit_is_zero =
    let text = c.args.text.now in
    let masks = c.masks_of-masks.result in
    sym (white_at_dropped text c.args.base i)
    ∙ subst (λ (bytes : List ℕ). (i : ℕ) → i < 64 → i < length bytes → bit_at masks.stops i ≡ 0
    → white_at bytes i ≡ false) (taken_dropped_is_all text c.args.base)
    c.masks_of-masks.ensures.others_not_white
    i i_lt_64 (place_in_dropped text c.args.base i place_in_text) bit_is_zero

pub invariant_of-result-clause-begins : goal.invariant_of-result-clause-begins
invariant_of-result-clause-begins c =
    let text = c.args.text.now in
    let masks = c.masks_of-masks.result in
    let white_is =
    subst (λ (bytes : List ℕ). masks.white ≡ mask is_white (take 64 bytes))
    (taken_dropped_is_all text c.args.base) c.masks_of-masks.ensures.white_is in
    one_bit_begins_word text c.args.base masks.white c.starts_of.result c.may_begin.result white_is
    c.may_begin.ensures c.starts_of.ensures.first_bit c.starts_of.ensures.next_bits

pub invariant_of-result-clause-begins_none : goal.invariant_of-result-clause-begins_none
invariant_of-result-clause-begins_none c i i_lt_64 place_in_text _ =
    let text = c.args.text.now in
    let masks = c.masks_of-masks.result in
    let white_is =
    subst (λ (bytes : List ℕ). masks.white ≡ mask is_white (take 64 bytes))
    (taken_dropped_is_all text c.args.base) c.masks_of-masks.ensures.white_is in
    zero_bit_begins_none text c.args.base masks.white c.starts_of.result c.may_begin.result white_is
    c.may_begin.ensures c.starts_of.ensures.first_bit c.starts_of.ensures.next_bits i i_lt_64
    place_in_text
