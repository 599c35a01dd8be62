use Rattle.std.proofs.Common.{◌<◌, ◌∙◌, [], ℕ, sym, subst, arith, IfNone, Option}
use Rattle.mm_nodes.specs.Strings.{first_node, strings_of}
use Rattle.mm_nodes.specs.Store.{nodes_of, segment_string, AreSame}
use Rattle.mm_nodes.proofs.WalkLaw.{reading_begins, reads_later, reads_into, both_read, b_is}
use Rattle.mm_nodes.proofs.WalkLaw.{less_work_later, less_work_into, index_lt, both_read_far}
use Rattle.mm_nodes.proofs.WalkLaw.{first_body_is, different_if_symbols_are, nil_if_no_length}
use Rattle.mm_nodes.proofs.WalkLaw.{equal_at_first_end, equal_at_second_end, less_left, less_right}
use Rattle.mm_nodes.proofs.WalkLaw.{less_if_left_opens, less_if_right_opens, less_if_both_go_on}
use Rattle.mm_nodes.proofs.walk.are_equal.Goals as goal

pub loop-left-init : goal.loop-left-init
loop-left-init g c =
    record {
      reads = record {
        common = [];
        left = reading_begins c.requires.are_nodes c.args.first c.clear.new.self.items
            c.requires.first_is_segment c.clear.ensures.items;
        right = reading_begins c.requires.are_nodes c.args.second c.clear-2.new.self.items
            c.requires.second_is_segment c.clear-2.ensures.items;
      };
    }

pub returns-in-None : goal.returns-in-None
returns-in-None g c =
    equal_at_first_end c.requires.are_nodes c.loop-left.invariant.reads c.requires.lengths_equal
    c.if-left.true
    (nil_if_no_length c.loop-left.left_later.items
    (omega (arith, c.in-None.ensures.cases.0, c.loop-left.left_later.ok.0)))

pub loop-left-smaller-in-Some : goal.loop-left-smaller-in-Some
loop-left-smaller-in-Some g c =
    less_left _ _ _ (less_work_later c.requires.are_nodes c.loop-left.invariant.reads.left
    c.pop.new.self.items c.in-Some.next c.in-Some.ensures.items)

pub loop-left-preserved-in-Some : goal.loop-left-preserved-in-Some
loop-left-preserved-in-Some g c =
    record {
      reads = record {
        common = c.loop-left.invariant.reads.common;
        left = reads_later c.requires.are_nodes c.loop-left.invariant.reads.left c.if-left.true
            c.pop.new.self.items c.in-Some.next c.in-Some.ensures.items;
        right = c.loop-left.invariant.reads.right;
      };
    }

pub returns-in-None-pop : goal.returns-in-None-pop
returns-in-None-pop g c =
    equal_at_second_end c.requires.are_nodes c.loop-left.invariant.reads c.requires.lengths_equal
    c.if-right.true
    (nil_if_no_length c.loop-left.right_later.items
    (omega (arith, c.in-None-pop.ensures.cases.0, c.loop-left.right_later.ok.0)))

pub loop-left-smaller-in-Some-pop : goal.loop-left-smaller-in-Some-pop
loop-left-smaller-in-Some-pop g c =
    less_right _ _ _ (less_work_later c.requires.are_nodes c.loop-left.invariant.reads.right
    c.pop-then-right.new.self.items c.in-Some-pop.next c.in-Some-pop.ensures.items)

pub loop-left-preserved-in-Some-pop : goal.loop-left-preserved-in-Some-pop
loop-left-preserved-in-Some-pop g c =
    record {
      reads = record {
        common = c.loop-left.invariant.reads.common;
        left = c.loop-left.invariant.reads.left;
        right = reads_later c.requires.are_nodes c.loop-left.invariant.reads.right c.if-right.true
            c.pop-then-right.new.self.items c.in-Some-pop.next c.in-Some-pop.ensures.items;
      };
    }

pub first_difference-requires-clause-left_is_in : goal.first_difference-requires-clause-left_is_in
first_difference-requires-clause-left_is_in g c =
    c.loop-left.invariant.reads.left.is_in.end_le_length

pub first_difference-requires-clause-right_is_in :
    goal.first_difference-requires-clause-right_is_in
first_difference-requires-clause-right_is_in g c =
    c.loop-left.invariant.reads.right.is_in.end_le_length

pub loop-left-smaller-in-None-first_difference : goal.loop-left-smaller-in-None-first_difference
loop-left-smaller-in-None-first_difference g c =
    less_if_both_go_on c.requires.are_nodes c.loop-left.invariant.reads c.min-both.result
    (omega (arith, c.min-both.ensures, c.if-left.false, c.if-right.false))
    (omega (arith, c.min-both.ensures, c.if-left.false))
    (omega (arith, c.min-both.ensures, c.if-right.false))

pub loop-left-preserved-in-None-first_difference :
    goal.loop-left-preserved-in-None-first_difference
loop-left-preserved-in-None-first_difference g c =
    record {
      reads =
          both_read_far c.requires.are_nodes c.loop-left.invariant.reads c.min-both.result
          (omega (arith, c.min-both.ensures, c.if-left.false))
          (omega (arith, c.min-both.ensures, c.if-right.false))
          (subst (AreSame c.args.bodies.now c.loop-left.left.start c.loop-left.right.start)
          (sym c.min-both.ensures) c.in-None-first_difference.ensures.none_differs);
    }

pub bounds-bodies-left : goal.bounds-bodies-left
bounds-bodies-left g c =
    let first = c.in-Some-first_difference.ensures.is_first.left_lt in
    omega (arith, c.loop-left.invariant.reads.left.is_in.end_le_length, first)

pub bounds-bodies-right : goal.bounds-bodies-right
bounds-bodies-right g c =
    let first = c.in-Some-first_difference.ensures.is_first.right_lt in
    omega (arith, c.loop-left.invariant.reads.right.is_in.end_le_length, first)

pub returns-in-None-None : goal.returns-in-None-None
returns-in-None-None g c =
    let is_first = c.in-Some-first_difference.ensures.is_first in
    let reads = both_read c.requires.are_nodes c.loop-left.invariant.reads is_first in
    let left_body = c.index-bodies-left in
    let right_body = c.index-bodies-right in
    let left_lt = is_first.left_lt in
    let right_lt = is_first.right_lt in
    different_if_symbols_are (segment_string c.args.bodies.now c.args.heads.now c.args.first)
    (segment_string c.args.bodies.now c.args.heads.now c.args.second)
    reads.common _ _ (strings_of (nodes_of c.args.bodies.now c.args.heads.now))
    left_body.result right_body.result
    (first_body_is c.requires.are_nodes reads.left left_lt left_body.result left_body.is)
    (first_body_is c.requires.are_nodes reads.right right_lt right_body.result right_body.is)
    (subst (λ (r : Option ℕ). IfNone r (left_body.result < first_node)) c.in-None-None.is-0
    c.index.ensures.is_symbol)
    c.in-None-None.ensures.is_symbol
    (λ same. is_first.differ
    (sym (b_is c.requires.are_nodes reads.left left_lt left_body.result left_body.is)
    ∙ same
    ∙ b_is c.requires.are_nodes reads.right right_lt right_body.result right_body.is))

pub segment_of-right-requires : goal.segment_of-right-requires
segment_of-right-requires g c =
    let is_first = c.in-Some-first_difference.ensures.is_first in
    let reads = both_read c.requires.are_nodes c.loop-left.invariant.reads is_first in
    index_lt c.requires.are_nodes reads.right is_first.right_lt c.index-bodies-right.result
    c.index-bodies-right.is c.in-None-Some.index c.in-None-Some.ensures.is_node

pub loop-left-smaller-in-None-Some : goal.loop-left-smaller-in-None-Some
loop-left-smaller-in-None-Some g c =
    let is_first = c.in-Some-first_difference.ensures.is_first in
    let reads = both_read c.requires.are_nodes c.loop-left.invariant.reads is_first in
    let body = c.index-bodies-right in
    let node = c.in-None-Some in
    let opened = c.segment_of-right in
    let later = c.put_off.new.later.items in
    less_if_right_opens c.requires.are_nodes c.loop-left.invariant.reads is_first opened.result
    later
    (less_work_into c.requires.are_nodes reads.right is_first.right_lt body.result body.is
    node.index node.ensures.is_node opened.result later opened.ensures
    c.in_ok-put_off-in-None-Some.ensures)

pub loop-left-preserved-in-None-Some : goal.loop-left-preserved-in-None-Some
loop-left-preserved-in-None-Some g c =
    let is_first = c.in-Some-first_difference.ensures.is_first in
    let reads = both_read c.requires.are_nodes c.loop-left.invariant.reads is_first in
    let body = c.index-bodies-right in
    let node = c.in-None-Some in
    let opened = c.segment_of-right in
    let later = c.put_off.new.later.items in
    record {
      reads = record {
        common = reads.common;
        left = reads.left;
        right = reads_into c.requires.are_nodes reads.right is_first.right_lt body.result body.is
            node.index node.ensures.is_node opened.result later opened.ensures
            c.in_ok-put_off-in-None-Some.ensures;
      };
    }

pub segment_of-left-requires : goal.segment_of-left-requires
segment_of-left-requires g c =
    let is_first = c.in-Some-first_difference.ensures.is_first in
    let reads = both_read c.requires.are_nodes c.loop-left.invariant.reads is_first in
    index_lt c.requires.are_nodes reads.left is_first.left_lt c.index-bodies-left.result
    c.index-bodies-left.is c.in-Some-None.index c.in-Some-None.ensures.is_node

pub loop-left-smaller-in-Some-None : goal.loop-left-smaller-in-Some-None
loop-left-smaller-in-Some-None g c =
    let is_first = c.in-Some-first_difference.ensures.is_first in
    let reads = both_read c.requires.are_nodes c.loop-left.invariant.reads is_first in
    let body = c.index-bodies-left in
    let node = c.in-Some-None in
    let opened = c.segment_of-left in
    let later = c.put_off-in-Some-None.new.later.items in
    less_if_left_opens c.requires.are_nodes c.loop-left.invariant.reads is_first opened.result
    later
    (less_work_into c.requires.are_nodes reads.left is_first.left_lt body.result body.is
    node.index node.ensures.is_node opened.result later opened.ensures
    c.in_ok-put_off-in-Some-None.ensures)

pub loop-left-preserved-in-Some-None : goal.loop-left-preserved-in-Some-None
loop-left-preserved-in-Some-None g c =
    let is_first = c.in-Some-first_difference.ensures.is_first in
    let reads = both_read c.requires.are_nodes c.loop-left.invariant.reads is_first in
    let body = c.index-bodies-left in
    let node = c.in-Some-None in
    let opened = c.segment_of-left in
    let later = c.put_off-in-Some-None.new.later.items in
    record {
      reads = record {
        common = reads.common;
        left = reads_into c.requires.are_nodes reads.left is_first.left_lt body.result body.is
            node.index node.ensures.is_node opened.result later opened.ensures
            c.in_ok-put_off-in-Some-None.ensures;
        right = reads.right;
      };
    }

pub segment_of-left-requires-then-length_of : goal.segment_of-left-requires-then-length_of
segment_of-left-requires-then-length_of g c =
    let is_first = c.in-Some-first_difference.ensures.is_first in
    let reads = both_read c.requires.are_nodes c.loop-left.invariant.reads is_first in
    index_lt c.requires.are_nodes reads.left is_first.left_lt c.index-bodies-left.result
    c.index-bodies-left.is c.in-Some-Some.i c.in-Some-Some.ensures.is_node

pub loop-left-smaller-then-length_of : goal.loop-left-smaller-then-length_of
loop-left-smaller-then-length_of g c =
    let is_first = c.in-Some-first_difference.ensures.is_first in
    let reads = both_read c.requires.are_nodes c.loop-left.invariant.reads is_first in
    let body = c.index-bodies-left in
    let node = c.in-Some-Some in
    let opened = c.segment_of-left-then-length_of in
    let later = c.put_off-then-length_of.new.later.items in
    less_if_left_opens c.requires.are_nodes c.loop-left.invariant.reads is_first opened.result
    later
    (less_work_into c.requires.are_nodes reads.left is_first.left_lt body.result body.is
    node.i node.ensures.is_node opened.result later opened.ensures
    c.in_ok-put_off-in-Some-Some.ensures)

pub loop-left-preserved-then-length_of : goal.loop-left-preserved-then-length_of
loop-left-preserved-then-length_of g c =
    let is_first = c.in-Some-first_difference.ensures.is_first in
    let reads = both_read c.requires.are_nodes c.loop-left.invariant.reads is_first in
    let body = c.index-bodies-left in
    let node = c.in-Some-Some in
    let opened = c.segment_of-left-then-length_of in
    let later = c.put_off-then-length_of.new.later.items in
    record {
      reads = record {
        common = reads.common;
        left = reads_into c.requires.are_nodes reads.left is_first.left_lt body.result body.is
            node.i node.ensures.is_node opened.result later opened.ensures
            c.in_ok-put_off-in-Some-Some.ensures;
        right = reads.right;
      };
    }

pub segment_of-right-requires-else-length_of : goal.segment_of-right-requires-else-length_of
segment_of-right-requires-else-length_of g c =
    let is_first = c.in-Some-first_difference.ensures.is_first in
    let reads = both_read c.requires.are_nodes c.loop-left.invariant.reads is_first in
    index_lt c.requires.are_nodes reads.right is_first.right_lt c.index-bodies-right.result
    c.index-bodies-right.is c.in-Some-Some.j c.in-Some-Some.ensures'.is_node

pub loop-left-smaller : goal.loop-left-smaller
loop-left-smaller g c =
    let is_first = c.in-Some-first_difference.ensures.is_first in
    let reads = both_read c.requires.are_nodes c.loop-left.invariant.reads is_first in
    let body = c.index-bodies-right in
    let node = c.in-Some-Some in
    let opened = c.segment_of-right-else-length_of in
    let later = c.put_off-else-length_of.new.later.items in
    less_if_right_opens c.requires.are_nodes c.loop-left.invariant.reads is_first opened.result
    later
    (less_work_into c.requires.are_nodes reads.right is_first.right_lt body.result body.is
    node.j node.ensures'.is_node opened.result later opened.ensures
    c.in_ok-put_off-in-Some-Some-2.ensures)

pub loop-left-preserved : goal.loop-left-preserved
loop-left-preserved g c =
    let is_first = c.in-Some-first_difference.ensures.is_first in
    let reads = both_read c.requires.are_nodes c.loop-left.invariant.reads is_first in
    let body = c.index-bodies-right in
    let node = c.in-Some-Some in
    let opened = c.segment_of-right-else-length_of in
    let later = c.put_off-else-length_of.new.later.items in
    record {
      reads = record {
        common = reads.common;
        left = reads.left;
        right = reads_into c.requires.are_nodes reads.right is_first.right_lt body.result body.is
            node.j node.ensures'.is_node opened.result later opened.ensures
            c.in_ok-put_off-in-Some-Some-2.ensures;
      };
    }
