-- `gathering::put_key` meets its contract.
use mathlib.Core.Path.{◌≡◌}
use lib.ListN.{length}
use Rattle.gathering.proofs.Down.{Down}
use Rattle.gathering.proofs.put_key.Given as goal

abbrev pub invariant-loop-l : goal.invariant-loop-l
invariant-loop-l l = Down l.axes l.room l.nodes l.k l.initial.key l.key l.child l.next l.n l.p l.l × (length l.key ≡ length l.initial.key) × (length l.child ≡ length l.initial.child) × (length l.next ≡ length l.initial.next)
