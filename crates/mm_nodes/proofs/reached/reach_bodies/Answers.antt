use Rattle.mm_nodes.proofs.ReachedLaw.{symbol_is_listed, node_is_reached, reaches_none}
use Rattle.mm_nodes.proofs.reached.reach_bodies.Goals as goal
use Rattle.mm_nodes.proofs.reached.reach_bodies.Goals.{in-None+in_ok-push-in-None}
use Rattle.mm_nodes.proofs.reached.reach_bodies.Goals.{in-Some+in_ok-add-in-Some}

pub loop-body-init : goal.loop-body-init
loop-body-init g c = reaches_none c.args.reached.now c.args.list.now.items

pub loop-body-preserved : goal.loop-body-preserved
loop-body-preserved g c =
    elim c.match-index.branch [
      | in-None+in_ok-push-in-None w ↦
          rw (w.reached-is, w.list-is)
          (symbol_is_listed c.args.bodies.now c.args.reached.now c.args.list.now.items
          c.loop-body.reached c.loop-body.list.items w.push.new.self.items
          c.loop-body.body-index c.body-item.result c.loop-body-test.true c.body-item.is
          w.in-None.ensures.is_symbol w.in_ok-push-in-None.ensures.items c.loop-body.invariant)
      | in-Some+in_ok-add-in-Some w ↦
          rw (w.reached-is, w.list-is)
          (node_is_reached c.args.bodies.now c.args.reached.now c.args.list.now.items
          c.loop-body.reached c.loop-body.list.items w.add.new.self c.loop-body.body-index
          c.body-item.result w.in-Some.node c.loop-body-test.true c.body-item.is
          w.in-Some.ensures.is_node w.in_ok-add-in-Some.ensures c.loop-body.invariant)
    ]
