-- `kept_keys::gather` meets its contract.
use mathlib.Core.Path.{◌≡◌}
use lib.ListN.{length}
use Rattle.kept_keys.proofs.Gathering.{So}
use Rattle.kept_keys.proofs.gather.Given as goal

abbrev pub invariant-loop-k : goal.invariant-loop-k
invariant-loop-k l = So l.axes l.rows l.room l.key l.child l.next l.n l.k-index × (length l.key ≡ length l.initial.key) × (length l.child ≡ length l.initial.child) × (length l.next ≡ length l.initial.next)
