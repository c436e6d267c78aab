-- The links of the nodes from i on stand, and after a turn that of the node before.
use native.Mathlib.Omega.{arith}
use mathlib.Core.Path.{◌≡◌, sym, ◌∙◌}
use Prim.Native.Nat.{ℕ, suc, ◌-◌, ◌<◌}
use Rattle.links.proofs.Links.{linking-start, linking-from, linking-leaf, linking-more, linking-done}
use Rattle.links.proofs.link_nodes.Goals as goal

back : (i : ℕ) → 0 < i → i ≡ suc (i - 1)
back i h = omega arith

pub loop-i-init : goal.loop-i-init
loop-i-init c = linking-start _ _ _ c.requires.0 c.requires.1

pub has_children-requires : goal.has_children-requires
has_children-requires c = omega (arith, c.loop-i.invariant.most, c.loop-i-test.true)

pub find_next-next-requires : goal.find_next-next-requires
find_next-next-requires c = (linking-from _ _ _ c.requires.0 c.requires.1 _ _ _ c.loop-i.invariant (back _ c.loop-i-test.true), omega (arith, c.loop-i.invariant.most, c.loop-i-test.true))

pub bounds-links-i : goal.bounds-links-i
bounds-links-i c = omega (arith, c.loop-i.invariant.most, c.loop-i.invariant.long, c.loop-i-test.true, c.requires.1)

pub loop-i-preserved-then-has_children : goal.loop-i-preserved-then-has_children
loop-i-preserved-then-has_children c = linking-more _ _ _ c.requires.0 c.requires.1 _ _ _ c.loop-i.invariant (back _ c.loop-i-test.true) (sym c.has_children.ensures ∙ c.if-has_children.true) _ c.find_next-next.ensures

pub loop-i-preserved : goal.loop-i-preserved
loop-i-preserved c = linking-leaf _ _ _ c.requires.0 c.requires.1 _ _ _ c.loop-i.invariant (back _ c.loop-i-test.true) (sym c.has_children.ensures ∙ c.if-has_children.false)

pub returns : goal.returns
returns c = linking-done _ _ _ c.requires.0 c.requires.1 _ _ c.loop-i.invariant c.loop-i-test.false
