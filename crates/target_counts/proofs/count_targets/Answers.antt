-- `target_counts::count_targets` meets its contract.
use Rattle.std.proofs.Common.{rules}
use mathlib.Core.Path.{sym, ap, subst}
use Prim.Native.Nat.{◌*◌, ◌/◌, ◌≤◌}
use native.Mathlib.Omega.{arith}
use lib.ListN.{length}
use Rattle.space.proofs.Batches.{rows_fit}
use Rattle.target_counts.proofs.count_targets.Goals as goal

pub some_codes-some-requires : goal.some_codes-some-requires
some_codes-some-requires c = let e = ap (λ f. f.axes) c.frame_of.ensures in (omega (arith, e, c.requires.le_axes.0), omega (arith, e, c.requires.le_axes.1), c.requires.le_axes.3, subst (λ k. length c.args.targets.now / c.args.b.axes * k ≤ length c.args.targets.now) (sym e) (rows_fit c.args.b.axes (length c.args.targets.now)), search rules)
