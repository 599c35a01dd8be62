-- Citations by all nodes of a proof, and by the essential ones.
use Rattle.std.proofs.Common.{rules, arith}
use Rattle.mm_laws.specs.Laws.Citations.{EssentialIsCited, EachLabelIsCited}
use Rattle.mm_spec.proofs.NodesLaw.{node_label_is_member, node_label_iff_member}

pub essential_is_cited : EssentialIsCited
essential_is_cited db t a cites_a =
    search (rules, arith, node_label_iff_member, node_label_is_member)

pub each_label_is_cited : EachLabelIsCited
each_label_is_cited db t a = search (rules, arith, node_label_iff_member)
