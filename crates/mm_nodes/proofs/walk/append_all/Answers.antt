use Rattle.std.proofs.Common.{rules, ◌++◌, ◌∙◌, ◌∷◌, [], sym, ap, arith, append-nil}
use Rattle.std.proofs.lemmas.List.{append_assoc}
use Rattle.mm_nodes.specs.Strings.{strings_of}
use Rattle.mm_nodes.specs.Store.{nodes_of}
use Rattle.mm_nodes.proofs.WalkLaw.{reading_begins, reads_later, reads_on, reads_into, index_lt}
use Rattle.mm_nodes.proofs.WalkLaw.{less_work_later, less_work_on, less_work_into, all_is_read}
use Rattle.mm_nodes.proofs.WalkLaw.{nil_if_no_length, symbol_string}
use Rattle.mm_nodes.proofs.walk.append_all.Goals as goal

pub loop-rest-init : goal.loop-rest-init
loop-rest-init g c = search (rules, arith, reading_begins, append-nil)

pub returns-in-None : goal.returns-in-None
returns-in-None g c =
    c.loop-rest.invariant.reads.2 ∙ ap (λ u. c.args.list.now.items ++ u) (all_is_read
    c.requires.are_nodes c.loop-rest.invariant.reads.1 c.if-rest.true (nil_if_no_length
    c.loop-rest.later.items (omega (arith, c.in-None.ensures.cases.0, c.loop-rest.later.ok.0))))

pub loop-rest-smaller-in-Some : goal.loop-rest-smaller-in-Some
loop-rest-smaller-in-Some g c =
    less_work_later c.requires.are_nodes c.loop-rest.invariant.reads.1 c.pop.new.self.items
    c.in-Some.next c.in-Some.ensures.items

pub loop-rest-preserved-in-Some : goal.loop-rest-preserved-in-Some
loop-rest-preserved-in-Some g c =
    record {
      reads = (
        c.loop-rest.invariant.reads.0,
        reads_later c.requires.are_nodes
            c.loop-rest.invariant.reads.1 c.if-rest.true c.pop.new.self.items c.in-Some.next
            c.in-Some.ensures.items,
        c.loop-rest.invariant.reads.2,
      );
    }

pub loop-rest-smaller-in-None-index : goal.loop-rest-smaller-in-None-index
loop-rest-smaller-in-None-index g c = search (rules, arith, less_work_on)

pub loop-rest-preserved-in-None-index : goal.loop-rest-preserved-in-None-index
loop-rest-preserved-in-None-index g c =
    record {
      reads = (
        c.loop-rest.invariant.reads.0 ++ c.index-bodies-rest.result ∷ [],
        reads_on
            c.requires.are_nodes c.loop-rest.invariant.reads.1 c.if-rest.false
            c.index-bodies-rest.result c.index-bodies-rest.is _
            (ap (λ u. c.loop-rest.invariant.reads.0 ++ u)
            (sym (symbol_string (strings_of (nodes_of c.args.bodies.now c.args.heads.now))
            c.index-bodies-rest.result c.in-None-index.ensures.is_symbol))),
        c.in_ok-push-in-None-index.ensures.items ∙ ap (λ u. u ++ c.index-bodies-rest.result ∷ [])
            c.loop-rest.invariant.reads.2 ∙ append_assoc c.args.list.now.items
            c.loop-rest.invariant.reads.0 (c.index-bodies-rest.result ∷ []),
      );
    }

pub segment_of-rest-requires : goal.segment_of-rest-requires
segment_of-rest-requires g c =
    index_lt c.requires.are_nodes c.loop-rest.invariant.reads.1 c.if-rest.false
    c.index-bodies-rest.result c.index-bodies-rest.is c.in-Some-index.index
    c.in-Some-index.ensures.is_node

pub loop-rest-smaller : goal.loop-rest-smaller
loop-rest-smaller g c =
    less_work_into c.requires.are_nodes c.loop-rest.invariant.reads.1 c.if-rest.false
    c.index-bodies-rest.result c.index-bodies-rest.is c.in-Some-index.index
    c.in-Some-index.ensures.is_node c.segment_of-rest.result c.put_off.new.later.items
    c.segment_of-rest.ensures c.in_ok-put_off-in-Some-index.ensures

pub loop-rest-preserved : goal.loop-rest-preserved
loop-rest-preserved g c =
    record {
      reads = (
        c.loop-rest.invariant.reads.0,
        reads_into c.requires.are_nodes
            c.loop-rest.invariant.reads.1 c.if-rest.false c.index-bodies-rest.result
            c.index-bodies-rest.is c.in-Some-index.index c.in-Some-index.ensures.is_node
            c.segment_of-rest.result c.put_off.new.later.items c.segment_of-rest.ensures
            c.in_ok-put_off-in-Some-index.ensures,
        c.loop-rest.invariant.reads.2,
      );
    }
