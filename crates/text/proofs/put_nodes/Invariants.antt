-- The lines of the levels before this one have been put.
use Rattle.slices.specs.Lists.{range, concat_map}
use Rattle.rows.specs.Written.{row_at}
use Rattle.text.specs.Listing.{of_level}
use Rattle.text.proofs.Lined.{Lined}
use Rattle.text.proofs.put_nodes.Given as goal

abbrev pub invariant-loop-level : goal.invariant-loop-level
invariant-loop-level l = Lined l.key l.own (row_at l.u_starts l.u_keys) (row_at l.v_starts l.v_keys) (λ k. concat_map (of_level l.key) (range 0 k)) 0 l.initial.out l.n l.out l.end l.number l.level 17
