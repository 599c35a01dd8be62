use Rattle.mm_nodes.proofs.nodes.Nodes.length.Goals as goal

pub length_of-requires : goal.length_of-requires
length_of-requires g c = rw (c.as_slice.ensures, c.deref.ensures.value) c.self.invariant.are_nodes
