use Rattle.std.proofs.Common.{ℕ, List, length, subst, sym, arith, slice_set}
use Rattle.mm_nodes.specs.Reached.{HaveSlots}
use Rattle.mm_nodes.proofs.ReachedLaw.{slots_after}
use Rattle.mm_nodes.proofs.reached.Reached.add.Goals as goal

pub invariant_of-self-2 : goal.invariant_of-self-2
invariant_of-self-2 g c =
    let nodes = c.self.inside.nodes.items in
    let slots = c.add_slots.new.slots.items in
    subst (λ (i : ℕ). HaveSlots c.push.new.self.items (slice_set slots c.args.node i))
    (omega (arith, c.len-index.ensures, c.self.inside.nodes.ok.0))
    (subst (λ (ns : List ℕ). HaveSlots ns (slice_set slots c.args.node (length nodes)))
    (sym c.in_ok-push.ensures.items)
    (slots_after nodes c.self.inside.slots.items slots c.args.node c.self.invariant
    (λ has. c.has.ensures.lacks_node c.if-has.false (rw (sym c.self.view_is) has))
    c.add_slots.ensures.slots_stay
    (omega (
      arith,
      c.saturating_add.ensures,
      c.in_ok-add_slots.ensures.is_long,
      c.ranges.node.fits,
    ))))
