use Rattle.std.proofs.Common.{◌≡◌, ◌∙◌, ◌+◌, ◌++◌, ◌∷◌, [], map, take, get_or, ap, arith}
use Rattle.std.proofs.lemmas.List.{take_more, map-append}
use Rattle.mm_outline.specs.Parts.{outline}
use Rattle.mm_outline.specs.declared.parts.Kind.TheVariants.{Constants}
use Rattle.mm_database.specs.RetainedWords.{retained_words}
use Rattle.mm_lists.proofs.ListsLaw.{taken_joined_are_all_joined, joined_with_one_more, none_joined}
use Rattle.mm_stmt.proofs.retained_words.retain_all_words.Goals as goal

pub loop-outline-init : goal.loop-outline-init
loop-outline-init g c = none_joined _ _ c.new-words.ensures.items c.new-ends.ensures.items

pub loop-outline-preserved : goal.loop-outline-preserved
loop-outline-preserved g c =
    let ws = c.args.tokens.now in
    let os = c.args.outlines.now in
    let i = c.loop-outline.outline-index in
    let o = get_or os i (outline Constants 0 0 0) in
    let one_more_is_taken : map (retained_words ws) (take (i + 1) os)
    ≡ map (retained_words ws) (take i os) ++ retained_words ws o ∷ [] =
    ap (map (retained_words ws)) (take_more os i (outline Constants 0 0 0) (omega arith))
    ∙ map-append (retained_words ws) (take i os) (o ∷ []) in
    rw (one_more_is_taken, c.in_ok-end_list.ensures.bound_is_added, c.in_ok-retain_words.ensures)
    (joined_with_one_more (map (retained_words ws) (take i os)) (retained_words ws o)
    c.loop-outline.words.items
    c.loop-outline.ends.items c.loop-outline.invariant)

pub from_ends-requires : goal.from_ends-requires
from_ends-requires g c =
    let index_bound = c.loop-outline.auto.outline-index-end in
    let index_is_past_end = c.loop-outline-test.false in
    (taken_joined_are_all_joined (retained_words c.args.tokens.now) c.args.outlines.now
    c.loop-outline.outline-index
    _ _
    (omega (arith, index_bound, index_is_past_end)) c.loop-outline.invariant).are_bounds

pub returns : goal.returns
returns g c =
    let index_bound = c.loop-outline.auto.outline-index-end in
    let index_is_past_end = c.loop-outline-test.false in
    c.from_ends.ensures
    ∙ (taken_joined_are_all_joined (retained_words c.args.tokens.now) c.args.outlines.now
    c.loop-outline.outline-index _
    _ (omega (arith, index_bound, index_is_past_end)) c.loop-outline.invariant).cut_is_lists
