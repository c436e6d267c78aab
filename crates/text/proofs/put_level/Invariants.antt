-- The lines of the nodes of the level before this one have been put.
use lib.Dec.{eqb}
use lib.ListN.{length, get_or}
use Rattle.slices.specs.Lists.{filter, range}
use Rattle.rows.specs.Written.{row_at}
use Rattle.morton.specs.Keys.{level_of}
use Rattle.text.proofs.Lined.{Lined}
use Rattle.text.proofs.put_level.Given as goal

abbrev pub invariant-loop-node : goal.invariant-loop-node
invariant-loop-node l = Lined l.key l.own (row_at l.u_starts l.u_keys) (row_at l.v_starts l.v_keys) (λ k. filter (λ i. eqb (level_of (get_or l.key i 0)) l.level) (range 0 k)) l.number l.initial.out l.n l.out l.end l.next l.node (length l.key)
