use Rattle.std.proofs.Common.{rules, ◌≡◌, ◌<◌, ◌+◌, ◌∙◌, length, sym, arith}
use Rattle.std.proofs.lemmas.Bool.{eqb-true}
use Rattle.mm_lex.proofs.CutsLaw.{first_batch_is_joined, next_batch_is_joined}
use Rattle.mm_lex.proofs.CutsLaw.{next_batch_is_neighbour, joined_batch_is_whole_text}
use Rattle.mm_lex.proofs.batches.read_text.Goals as goal

pub joining-init : goal.joining-init
joining-init g c =
    let length_is : length c.in_ok-batches.batches.items ≡ c.min-batch_count.result =
    sym c.in_ok-batches.batches.ok.0 ∙ c.in_ok-batches.ensures.count_is_batches in
    first_batch_is_joined c.args.text.now c.args.places.now
    (length c.args.places.now + 1) c.min-batch_count.result c.in_ok-batches.batches.items
    c.remove.new.self.items c.in_ok-whole.whole
    (omega (arith, c.min-batch_count.ensures))
    (omega (arith, c.min-batch_count.ensures)) length_is c.in_ok-batches.ensures.each_is_batch
    c.in_ok-whole.ensures.value c.in_ok-whole.ensures.items

pub join-requires-clause-neighbours : goal.join-requires-clause-neighbours
join-requires-clause-neighbours g c =
    let some_left : 0 < length c.joining.batches.items = search rules in
    (next_batch_is_neighbour c.args.text.now c.args.places.now
    (length c.args.places.now + 1) c.min-batch_count.result c.joining.batches.items c.joining.whole
    c.in_ok-batch.batch
    c.joining.invariant some_left c.in_ok-batch.ensures.value).0

pub joining-preserved : goal.joining-preserved
joining-preserved g c =
    let some_left : 0 < length c.joining.batches.items = search rules in
    next_batch_is_joined c.args.text.now c.args.places.now
    (length c.args.places.now + 1) c.min-batch_count.result c.joining.batches.items
    c.remove-in-joining.new.self.items
    c.joining.whole c.in_ok-batch.batch c.in_ok-whole-2.whole c.joining.invariant some_left
    c.in_ok-batch.ensures.value c.in_ok-batch.ensures.items
    c.in_ok-whole-2.ensures.from_is c.in_ok-whole-2.ensures.to_is c.in_ok-whole-2.ensures.is_summary

pub returns-clause-to_is : goal.returns-clause-to_is
returns-clause-to_is g c =
    let none_left : length c.joining.batches.items ≡ 0 =
    sym c.joining.batches.ok.0
    ∙ eqb-true c.joining.batches.len 0 (sym c.is_empty.ensures ∙ c.joining-test.false) in
    joined_batch_is_whole_text c.args.text.now c.args.places.now
    (length c.args.places.now + 1) c.min-batch_count.result c.joining.batches.items c.joining.whole
    (omega (arith, c.min-batch_count.ensures)) (omega (arith, c.min-batch_count.ensures))
    (omega arith) c.joining.invariant none_left

pub read_batches-requires-clause-some_batches : goal.read_batches-requires-clause-some_batches
read_batches-requires-clause-some_batches g c κs =
    (let least_is = c.min-batch_count.ensures in omega (arith, least_is))

pub read_batches-requires-clause-batches_le_pieces :
    goal.read_batches-requires-clause-batches_le_pieces
read_batches-requires-clause-batches_le_pieces g c κs =
    (let least_is = c.min-batch_count.ensures in omega (arith, least_is))

pub remove-requires : goal.remove-requires
remove-requires g c =
    let least_is = c.min-batch_count.ensures in
    let length_is = c.in_ok-batches.ensures.count_is_batches in
    omega (arith, least_is, length_is)
