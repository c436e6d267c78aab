-- `first_rows::number_first` meets its contract.
use mathlib.Core.Path.{◌≡◌, refl, sym, ◌∙◌}
use Prim.Native.Nat.{ℕ, suc, ◌+◌, ◌-◌, ◌<◌}
use native.Mathlib.Omega.{arith}
use Rattle.first_rows.proofs.Filling.{from-none, from-number, from_all, found_at, found_none, cleared}
use Rattle.first_rows.proofs.number_first.Goals as goal

back : (i : ℕ) → 0 < i → i ≡ suc (i - 1)
back i h = omega arith

sub_add : (i : ℕ) → 0 < i → i - 1 + 1 ≡ i
sub_add i h = omega arith

pub loop-i-init : goal.loop-i-init
loop-i-init c = (cleared _ _ _ _ _ c.requires _ c.clear_usize.ensures, refl)

pub loop-i-preserved-in-Some : goal.loop-i-preserved-in-Some
loop-i-preserved-in-Some c = let e : c.loop-i.i - 1 + 1 ≡ c.loop-i.i = sub_add c.loop-i.i c.loop-i-test.true in rw e (let f = from-number _ _ _ _ c.requires _ _ _ c.loop-i.invariant.0 (back _ c.loop-i-test.true) _ (found_at c.args.axes c.args.key.now _ c.find_node.result c.find_node.ensures _ c.in-Some.is).0 (found_at c.args.axes c.args.key.now _ c.find_node.result c.find_node.ensures _ c.in-Some.is).1 in (f, f.placed ∙ sym c.loop-i.invariant.0.placed ∙ c.loop-i.invariant.1))

pub loop-i-preserved : goal.loop-i-preserved
loop-i-preserved c = (from-none _ _ _ _ _ c.requires _ _ _ c.loop-i.invariant.0 (back _ c.loop-i-test.true) (found_none c.args.axes c.args.key.now _ c.find_node.result c.find_node.ensures c.in_default.is c.requires.ascend), c.loop-i.invariant.1)

pub returns : goal.returns
returns c = from_all _ _ _ _ _ c.loop-i.invariant.0 c.loop-i-test.false
