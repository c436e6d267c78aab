-- The links of the nodes from i on stand.
use Rattle.links.proofs.Links.{Linking}
use Rattle.links.proofs.link_nodes.Given as goal

abbrev pub invariant-loop-i : goal.invariant-loop-i
invariant-loop-i l = Linking l.key l.total l.initial.links l.links l.i
