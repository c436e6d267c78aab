-- `grow::grow_cell`, `grow_child`, `grow_children` and `grow_pairs` meet their contracts. The levels left fall.
use mathlib.Core.Path.{refl, sym, ap, subst, ◌∙◌}
use mathlib.Core.List.{[], ◌∷◌, ◌++◌}
use native.Mathlib.Omega.{arith}
use Rattle.parting.specs.Setting.{Setting, setting}
use Rattle.parting.specs.Parts.{CellWords, DealsCell}
use Rattle.parting.proofs.Descending.{over-child}
use Rattle.grow.specs.Steps.{AtChildren, AfterChildren, AtPairs, AfterPairs}
use lib.ListN.{get_or, take, drop}
use Rattle.slices.specs.Lists.{sum}
use Rattle.morton.proofs.Arithmetic.{one_shifted}
use Rattle.grow.specs.Cells.{owned_by}
use Rattle.grow.specs.Rows.{marked}
use Rattle.parting.proofs.Choosing.{child-room}
use Rattle.grow.proofs.Stepping.{cell-ordered, cell-few, cell-words, cell-some, cell-children, cell_out, cell-leaf, cell-inner, pairing-start, pair_left, pair-at, pair_fits, pair-more, pairing-end, child-few, child-out, child-leaf, child-pairs, child-inner, growing-start, children-few, child-left, child_fits, child-at-step, child-end-fits, growing-more, child-sum-fits, put-at, growing-end}
use Prim.Native.Nat.{ℕ, ◌+◌, ◌*◌, ◌^◌, ◌%◌, ◌<◌}
use Rattle.grow.proofs.+grow_cell_grow_child_grow_children_grow_pairs.Goals as goal

pub grow_cell-overflow_sub-sum : goal.grow_cell-overflow_sub-sum
grow_cell-overflow_sub-sum t c = omega (arith, cell-ordered c.args.g (setting c.args.z c.args.sums.now) c.args.cell c.args.left c.args.lo c.args.hi c.args.work.now (marked c.args.key.now c.args.mark.now c.args.from) c.requires.0.0 c.requires.0.2.0 c.requires.0.2.1 c.requires.0.2.2 c.requires.0.2.3)

pub grow_cell-returns-then-not-is_put : goal.grow_cell-returns-then-not-is_put
grow_cell-returns-then-not-is_put t c = cell_out c.args.g (setting c.args.z c.args.sums.now) c.args.cell c.args.left c.args.lo c.args.hi c.args.work.now (marked c.args.key.now c.args.mark.now c.args.from) c.requires.0.0 c.is_put.result c.is_put.ensures (c.if-not-is_put.true)

pub grow_cell-does_split-requires : goal.grow_cell-does_split-requires
grow_cell-does_split-requires t c = (c.requires.0.0.good, (c.requires.0.2.0, c.requires.0.2.3.stands.behind), c.requires.1)

pub grow_cell-put_row-requires : goal.grow_cell-put_row-requires
grow_cell-put_row-requires t c = (c.requires.0.2.3.stands.rows.bounded, cell-few c.args.g (setting c.args.z c.args.sums.now) c.args.cell c.args.left c.args.lo c.args.hi c.args.work.now (marked c.args.key.now c.args.mark.now c.args.from) c.requires.0.0 c.requires.0.2.0 c.requires.0.2.1 c.requires.0.2.2 c.requires.0.2.3)

pub grow_cell-returns-then-not-does_split : goal.grow_cell-returns-then-not-does_split
grow_cell-returns-then-not-does_split t c = cell-leaf c.args.g (setting c.args.z c.args.sums.now) c.args.cell c.args.left c.args.lo c.args.hi c.args.work.now (marked c.args.key.now c.args.mark.now c.args.from) c.requires.0.0 (marked c.put_row.new.key c.put_row.new.mark c.put_row.result) c.is_put.result c.does_split.result c.is_put.ensures (c.if-not-is_put.false) c.does_split.ensures (c.if-not-does_split.true) c.put_row.ensures

pub grow_cell-descend-y-requires : goal.grow_cell-descend-y-requires
grow_cell-descend-y-requires t c = let some = cell-some c.args.g (setting c.args.z c.args.sums.now) c.args.cell c.args.left c.args.lo c.args.hi c.args.work.now (marked c.args.key.now c.args.mark.now c.args.from) c.requires.0.0 c.requires.0.2.0 c.requires.0.2.1 c.requires.0.2.2 c.requires.0.2.3 c.does_split.result c.does_split.ensures (c.if-not-does_split.false) in (c.requires.0.0.good, omega (arith, c.requires.0.0.levels, some), c.requires.1)

pub grow_cell-deal_cell-pairs-requires : goal.grow_cell-deal_cell-pairs-requires
grow_cell-deal_cell-pairs-requires t c = let e = c.descend-y.ensures.same c.args.sums.now in (c.requires.0.0, cell-some c.args.g (setting c.args.z c.args.sums.now) c.args.cell c.args.left c.args.lo c.args.hi c.args.work.now (marked c.args.key.now c.args.mark.now c.args.from) c.requires.0.0 c.requires.0.2.0 c.requires.0.2.1 c.requires.0.2.2 c.requires.0.2.3 c.does_split.result c.does_split.ensures (c.if-not-does_split.false), c.requires.0.1, (c.requires.0.2.0, owned_by c.args.g c.requires.0.2.0 c.requires.0.2.1, c.requires.0.2.2, subst (λ (q : Setting). CellWords c.args.g q c.requires.0.2.0 c.args.cell c.args.lo c.args.hi c.args.work.now (owned_by c.args.g c.requires.0.2.0 c.requires.0.2.1) c.requires.0.2.2) (sym e) (cell-words c.args.g (setting c.args.z c.args.sums.now) c.args.cell c.args.left c.args.lo c.args.hi c.args.work.now (marked c.args.key.now c.args.mark.now c.args.from) c.requires.0.0 c.requires.0.2.0 c.requires.0.2.1 c.requires.0.2.2 c.requires.0.2.3 c.is_put.result c.is_put.ensures (c.if-not-is_put.false))), c.descend-y.ensures.at)

pub grow_cell-grow_children-requires : goal.grow_cell-grow_children-requires
grow_cell-grow_children-requires t c = let some = cell-some c.args.g (setting c.args.z c.args.sums.now) c.args.cell c.args.left c.args.lo c.args.hi c.args.work.now (marked c.args.key.now c.args.mark.now c.args.from) c.requires.0.0 c.requires.0.2.0 c.requires.0.2.1 c.requires.0.2.2 c.requires.0.2.3 c.does_split.result c.does_split.ensures (c.if-not-does_split.false) in let e = c.descend-y.ensures.same c.args.sums.now in (omega (arith, c.decreases), ((c.requires.0.0, some, (c.requires.0.2.0, c.requires.0.2.1, c.requires.0.2.2, subst (λ (q : Setting). AtChildren c.args.g q c.requires.0.2.0 c.args.cell c.args.lo c.args.hi c.deal_cell-pairs.result.counts c.deal_cell-pairs.result.to c.deal_cell-pairs.new.work (marked c.args.key.now c.args.mark.now c.args.from) c.requires.0.2.1 c.requires.0.2.2) (sym e) (cell-children c.args.g (setting c.args.z c.args.sums.now) c.args.cell c.args.left c.args.lo c.args.hi c.args.work.now (marked c.args.key.now c.args.mark.now c.args.from) c.requires.0.0 c.requires.0.2.0 c.requires.0.2.1 c.requires.0.2.2 c.requires.0.2.3 c.deal_cell-pairs.result.counts c.deal_cell-pairs.result.to c.deal_cell-pairs.new.work c.is_put.result c.does_split.result c.is_put.ensures (c.if-not-is_put.false) c.does_split.ensures (c.if-not-does_split.false) (subst (λ (q : Setting). DealsCell c.args.g q c.args.cell c.args.lo c.args.hi c.args.work.now c.deal_cell-pairs.result.counts c.deal_cell-pairs.result.to c.deal_cell-pairs.new.work) e c.deal_cell-pairs.ensures)))), c.descend-y.ensures.at))

pub grow_cell-returns : goal.grow_cell-returns
grow_cell-returns t c = let e = c.descend-y.ensures.same c.args.sums.now in cell-inner c.args.g (setting c.args.z c.args.sums.now) c.args.cell c.args.left c.args.lo c.args.hi c.args.work.now (marked c.args.key.now c.args.mark.now c.args.from) c.requires.0.0 c.deal_cell-pairs.result.counts c.deal_cell-pairs.result.to c.deal_cell-pairs.new.work c.grow_children.new.work (marked c.grow_children.new.key c.grow_children.new.mark c.grow_children.result) c.is_put.result c.does_split.result c.is_put.ensures (c.if-not-is_put.false) c.does_split.ensures (c.if-not-does_split.false) (subst (λ (q : Setting). DealsCell c.args.g q c.args.cell c.args.lo c.args.hi c.args.work.now c.deal_cell-pairs.result.counts c.deal_cell-pairs.result.to c.deal_cell-pairs.new.work) e c.deal_cell-pairs.ensures) (subst (λ (q : Setting). AfterChildren c.args.g q c.args.cell c.args.left c.args.lo c.args.hi c.deal_cell-pairs.result.counts c.deal_cell-pairs.result.to c.deal_cell-pairs.new.work (marked c.args.key.now c.args.mark.now c.args.from) c.grow_children.new.work (marked c.grow_children.new.key c.grow_children.new.mark c.grow_children.result)) e c.grow_children.ensures)

pub grow_child-returns-then-not-is_put : goal.grow_child-returns-then-not-is_put
grow_child-returns-then-not-is_put t c = child-out c.args.g (setting c.args.z c.args.sums.now) c.args.child.key c.args.left c.args.a c.args.at c.args.child.sum c.args.child.split c.args.counts.now c.args.work.now (marked c.args.key.now c.args.mark.now c.args.from) c.is_put.result c.is_put.ensures (c.if-not-is_put.true)

pub grow_child-put_row-m-requires : goal.grow_child-put_row-m-requires
grow_child-put_row-m-requires t c = (c.requires.0.2.3.stands.rows.bounded, child-few c.args.g (setting c.args.z c.args.sums.now) c.args.child.key c.args.left c.args.a c.args.at c.args.child.sum c.args.child.split c.args.counts.now c.args.work.now (marked c.args.key.now c.args.mark.now c.args.from) c.requires.0.2.0 c.requires.0.2.1 c.requires.0.2.2 c.requires.0.2.3)

pub grow_child-returns-then-not-split : goal.grow_child-returns-then-not-split
grow_child-returns-then-not-split t c = child-leaf c.args.g (setting c.args.z c.args.sums.now) c.args.child.key c.args.left c.args.a c.args.at c.args.child.sum c.args.child.split c.args.counts.now c.args.work.now (marked c.args.key.now c.args.mark.now c.args.from) (marked c.put_row-m.new.key c.put_row-m.new.mark c.put_row-m.result) c.is_put.result c.is_put.ensures (c.if-not-is_put.false) (c.if-not-split.true) c.put_row-m.ensures

pub grow_child-descend-y-requires : goal.grow_child-descend-y-requires
grow_child-descend-y-requires t c = (c.requires.0.0.good, omega (arith, c.requires.0.0.levels), c.requires.1)

pub grow_child-grow_pairs-requires : goal.grow_child-grow_pairs-requires
grow_child-grow_pairs-requires t c = let e = c.descend-y.ensures.same c.args.sums.now in (omega (arith, c.decreases), ((c.requires.0.0, c.requires.0.1, (c.requires.0.2.0, c.requires.0.2.1 ++ (c.args.child.key ∷ []), c.requires.0.2.2, subst (λ (q : Setting). AtPairs c.args.g q c.requires.0.2.0 c.args.child.key c.args.a c.args.at c.args.counts.now c.args.work.now (marked c.put_row-m.new.key c.put_row-m.new.mark c.put_row-m.result) (c.requires.0.2.1 ++ (c.args.child.key ∷ [])) c.requires.0.2.2) (sym e) (child-pairs c.args.g (setting c.args.z c.args.sums.now) c.args.child.key c.args.left c.args.a c.args.at c.args.child.sum c.args.child.split c.args.counts.now c.args.work.now (marked c.args.key.now c.args.mark.now c.args.from) (marked c.put_row-m.new.key c.put_row-m.new.mark c.put_row-m.result) (c.if-not-split.false) c.put_row-m.ensures c.requires.0.2.0 c.requires.0.2.1 c.requires.0.2.2 c.requires.0.2.3))), c.descend-y.ensures.at))

pub grow_child-returns : goal.grow_child-returns
grow_child-returns t c = let e = c.descend-y.ensures.same c.args.sums.now in child-inner c.args.g (setting c.args.z c.args.sums.now) c.args.child.key c.args.left c.args.a c.args.at c.args.child.sum c.args.child.split c.args.counts.now c.args.work.now (marked c.args.key.now c.args.mark.now c.args.from) (marked c.put_row-m.new.key c.put_row-m.new.mark c.put_row-m.result) (marked c.grow_pairs.new.key c.grow_pairs.new.mark c.grow_pairs.result) c.grow_pairs.new.work c.is_put.result c.is_put.ensures (c.if-not-is_put.false) (c.if-not-split.false) c.put_row-m.ensures (subst (λ (q : Setting). AfterPairs c.args.g q c.args.child.key c.args.left c.args.a c.args.at c.args.counts.now c.args.work.now (marked c.put_row-m.new.key c.put_row-m.new.mark c.put_row-m.result) c.grow_pairs.new.work (marked c.grow_pairs.new.key c.grow_pairs.new.mark c.grow_pairs.result)) e c.grow_pairs.ensures)

pub grow_children-overflow_shl-many : goal.grow_children-overflow_shl-many
grow_children-overflow_shl-many t c = omega (arith, c.requires.0.0.good.most)

pub grow_children-overflow_sub-below : goal.grow_children-overflow_sub-below
grow_children-overflow_sub-below t c = omega (arith, c.requires.0.1)

pub grow_children-overflow_sub-hi : goal.grow_children-overflow_sub-hi
grow_children-overflow_sub-hi t c = omega (arith, c.requires.0.2.3.ends)

pub grow_children-put_row-m-requires : goal.grow_children-put_row-m-requires
grow_children-put_row-m-requires t c = (c.requires.0.2.3.stands.rows.bounded, children-few c.args.g (setting c.args.z c.args.sums.now) c.args.cell c.args.left c.args.lo c.args.hi c.args.counts.now c.args.to.now c.args.work.now (marked c.args.key.now c.args.mark.now c.args.from) c.requires.0.0 c.requires.0.1 c.requires.0.2.0 c.requires.0.2.1 c.requires.0.2.2 c.requires.0.2.3)

pub grow_children-loop-c-init : goal.grow_children-loop-c-init
grow_children-loop-c-init t c = (omega arith, growing-start c.args.g (setting c.args.z c.args.sums.now) c.args.cell c.args.left c.args.lo c.args.hi c.args.counts.now c.args.to.now c.args.work.now (marked c.put_row-m.new.key c.put_row-m.new.mark c.put_row-m.result) c.requires.0.0 c.requires.0.1, (refl, refl, refl))

pub grow_children-overflow_mul-a : goal.grow_children-overflow_mul-a
grow_children-overflow_mul-a t c = let is = one_shifted c.args.g.axes (omega (arith, c.requires.0.0.good.most)) in let small : c.loop-c.c < 2 ^ c.args.g.axes = omega (arith, c.loop-c-test.true) in let room = child-room c.args.g.axes c.loop-c.c c.requires.0.0.good.most small in let same = ap (c.loop-c.c *◌) is in omega arith

pub grow_children-child_at-child-requires : goal.grow_children-child_at-child-requires
grow_children-child_at-child-requires t c = let is = one_shifted c.args.g.axes (omega (arith, c.requires.0.0.good.most)) in let small : c.loop-c.c < 2 ^ c.args.g.axes = omega (arith, c.loop-c-test.true) in let room = child-room c.args.g.axes c.loop-c.c c.requires.0.0.good.most small in let same = ap (c.loop-c.c *◌) is in (c.requires.0.0.good, omega (arith, c.requires.0.0.levels, c.requires.0.1), small, omega arith, subst (λ (n : ℕ). sum (take (2 ^ c.args.g.axes) (drop n c.args.counts.now)) < 18446744073709551616) (sym same) (child-sum-fits c.args.g (setting c.args.z c.args.sums.now) c.args.cell c.args.left c.args.lo c.args.hi c.args.counts.now c.args.to.now c.args.work.now (marked c.put_row-m.new.key c.put_row-m.new.mark c.put_row-m.result) c.requires.0.0 c.requires.0.1 c.requires.0.2.0 (c.requires.0.2.1 ++ (c.args.cell ∷ [])) c.requires.0.2.2 (put-at c.args.g (setting c.args.z c.args.sums.now) c.args.cell c.args.left c.args.lo c.args.hi c.args.counts.now c.args.to.now c.args.work.now (marked c.put_row-m.new.key c.put_row-m.new.mark c.put_row-m.result) c.requires.0.0 c.requires.0.1 (marked c.args.key.now c.args.mark.now c.args.from) c.put_row-m.ensures c.requires.0.2.0 c.requires.0.2.1 c.requires.0.2.2 c.requires.0.2.3) c.loop-c.c small))

pub grow_children-grow_child-m-requires : goal.grow_children-grow_child-m-requires
grow_children-grow_child-m-requires t c = let is = one_shifted c.args.g.axes (omega (arith, c.requires.0.0.good.most)) in let small : c.loop-c.c < 2 ^ c.args.g.axes = omega (arith, c.loop-c-test.true) in (omega (arith, c.decreases, c.requires.0.1), ((child-left c.args.g (setting c.args.z c.args.sums.now) c.args.cell c.args.left c.args.lo c.args.hi c.args.counts.now c.args.to.now c.args.work.now (marked c.put_row-m.new.key c.put_row-m.new.mark c.put_row-m.result) c.requires.0.0 c.requires.0.1 c.loop-c.work (marked c.loop-c.key c.loop-c.mark c.loop-c.m) c.loop-c.at c.loop-c.c c.child_at-child.result.key (c.loop-c.c * (1 * 2 ^ c.args.g.axes % 18446744073709551616)) c.child_at-child.result.sum c.child_at-child.result.split c.loop-c.invariant.1 small c.child_at-child.ensures.0 (ap (c.loop-c.c *◌) is) c.child_at-child.ensures.1 c.child_at-child.ensures.2, child_fits c.args.g (setting c.args.z c.args.sums.now) c.args.cell c.args.left c.args.lo c.args.hi c.args.counts.now c.args.to.now c.args.work.now (marked c.put_row-m.new.key c.put_row-m.new.mark c.put_row-m.result) c.requires.0.0 c.requires.0.1 c.loop-c.work (marked c.loop-c.key c.loop-c.mark c.loop-c.m) c.loop-c.at c.loop-c.c c.child_at-child.result.key (c.loop-c.c * (1 * 2 ^ c.args.g.axes % 18446744073709551616)) c.child_at-child.result.sum c.child_at-child.result.split c.loop-c.invariant.1 small c.child_at-child.ensures.0 (ap (c.loop-c.c *◌) is) c.child_at-child.ensures.1 c.child_at-child.ensures.2, (c.requires.0.2.0, _, _, child-at-step c.args.g (setting c.args.z c.args.sums.now) c.args.cell c.args.left c.args.lo c.args.hi c.args.counts.now c.args.to.now c.args.work.now (marked c.put_row-m.new.key c.put_row-m.new.mark c.put_row-m.result) c.requires.0.0 c.requires.0.1 c.loop-c.work (marked c.loop-c.key c.loop-c.mark c.loop-c.m) c.loop-c.at c.loop-c.c c.child_at-child.result.key (c.loop-c.c * (1 * 2 ^ c.args.g.axes % 18446744073709551616)) c.child_at-child.result.sum c.child_at-child.result.split c.loop-c.invariant.1 small c.child_at-child.ensures.0 (ap (c.loop-c.c *◌) is) c.child_at-child.ensures.1 c.child_at-child.ensures.2 c.requires.0.2.0 (c.requires.0.2.1 ++ (c.args.cell ∷ [])) c.requires.0.2.2 (put-at c.args.g (setting c.args.z c.args.sums.now) c.args.cell c.args.left c.args.lo c.args.hi c.args.counts.now c.args.to.now c.args.work.now (marked c.put_row-m.new.key c.put_row-m.new.mark c.put_row-m.result) c.requires.0.0 c.requires.0.1 (marked c.args.key.now c.args.mark.now c.args.from) c.put_row-m.ensures c.requires.0.2.0 c.requires.0.2.1 c.requires.0.2.2 c.requires.0.2.3))), over-child c.args.g.axes c.args.z c.args.cell c.loop-c.c c.child_at-child.result.key c.requires.1 (omega (arith, c.requires.0.0.levels, c.requires.0.1)) small c.child_at-child.ensures.0))

pub grow_children-overflow_add-at : goal.grow_children-overflow_add-at
grow_children-overflow_add-at t c = let is = one_shifted c.args.g.axes (omega (arith, c.requires.0.0.good.most)) in let small : c.loop-c.c < 2 ^ c.args.g.axes = omega (arith, c.loop-c-test.true) in omega (arith, child-end-fits c.args.g (setting c.args.z c.args.sums.now) c.args.cell c.args.left c.args.lo c.args.hi c.args.counts.now c.args.to.now c.args.work.now (marked c.put_row-m.new.key c.put_row-m.new.mark c.put_row-m.result) c.requires.0.0 c.requires.0.1 c.loop-c.work (marked c.loop-c.key c.loop-c.mark c.loop-c.m) c.loop-c.at c.loop-c.c c.child_at-child.result.key (c.loop-c.c * (1 * 2 ^ c.args.g.axes % 18446744073709551616)) c.child_at-child.result.sum c.child_at-child.result.split c.loop-c.invariant.1 small c.child_at-child.ensures.0 (ap (c.loop-c.c *◌) is) c.child_at-child.ensures.1 c.child_at-child.ensures.2 c.requires.0.2.0 (c.requires.0.2.1 ++ (c.args.cell ∷ [])) c.requires.0.2.2 (put-at c.args.g (setting c.args.z c.args.sums.now) c.args.cell c.args.left c.args.lo c.args.hi c.args.counts.now c.args.to.now c.args.work.now (marked c.put_row-m.new.key c.put_row-m.new.mark c.put_row-m.result) c.requires.0.0 c.requires.0.1 (marked c.args.key.now c.args.mark.now c.args.from) c.put_row-m.ensures c.requires.0.2.0 c.requires.0.2.1 c.requires.0.2.2 c.requires.0.2.3))

pub grow_children-loop-c-preserved : goal.grow_children-loop-c-preserved
grow_children-loop-c-preserved t c = let is = one_shifted c.args.g.axes (omega (arith, c.requires.0.0.good.most)) in let small : c.loop-c.c < 2 ^ c.args.g.axes = omega (arith, c.loop-c-test.true) in (omega (arith, c.loop-c-test.true), growing-more c.args.g (setting c.args.z c.args.sums.now) c.args.cell c.args.left c.args.lo c.args.hi c.args.counts.now c.args.to.now c.args.work.now (marked c.put_row-m.new.key c.put_row-m.new.mark c.put_row-m.result) c.requires.0.0 c.requires.0.1 c.loop-c.work (marked c.loop-c.key c.loop-c.mark c.loop-c.m) c.loop-c.at c.loop-c.c c.child_at-child.result.key (c.loop-c.c * (1 * 2 ^ c.args.g.axes % 18446744073709551616)) c.child_at-child.result.sum c.child_at-child.result.split c.loop-c.invariant.1 small c.child_at-child.ensures.0 (ap (c.loop-c.c *◌) is) c.child_at-child.ensures.1 c.child_at-child.ensures.2 c.grow_child-m.new.work (marked c.grow_child-m.new.key c.grow_child-m.new.mark c.grow_child-m.result) c.grow_child-m.ensures, (c.grow_child-m.auto.work ∙ c.loop-c.invariant.2.0, c.grow_child-m.auto.key ∙ c.loop-c.invariant.2.1, c.grow_child-m.auto.mark ∙ c.loop-c.invariant.2.2))

pub grow_children-returns : goal.grow_children-returns
grow_children-returns t c = let is = one_shifted c.args.g.axes (omega (arith, c.requires.0.0.good.most)) in growing-end c.args.g (setting c.args.z c.args.sums.now) c.args.cell c.args.left c.args.lo c.args.hi c.args.counts.now c.args.to.now c.args.work.now (marked c.put_row-m.new.key c.put_row-m.new.mark c.put_row-m.result) c.requires.0.0 c.requires.0.1 (marked c.args.key.now c.args.mark.now c.args.from) c.put_row-m.ensures c.loop-c.work (marked c.loop-c.key c.loop-c.mark c.loop-c.m) c.loop-c.at c.loop-c.c c.loop-c.invariant.1 (omega (arith, is, c.loop-c-test.false))

pub grow_pairs-overflow_shl-many : goal.grow_pairs-overflow_shl-many
grow_pairs-overflow_shl-many t c = omega (arith, c.requires.0.0.good.most)

pub grow_pairs-loop-b-init : goal.grow_pairs-loop-b-init
grow_pairs-loop-b-init t c = (omega arith, pairing-start c.args.g (setting c.args.z c.args.sums.now) c.args.cell c.args.left c.args.a c.args.at c.args.counts.now c.args.work.now (marked c.args.key.now c.args.mark.now c.args.from) c.requires.0.0 c.requires.0.1, (refl, refl, refl))

pub grow_pairs-overflow_add-here : goal.grow_pairs-overflow_add-here
grow_pairs-overflow_add-here t c = let is = one_shifted c.args.g.axes (omega (arith, c.requires.0.0.good.most)) in let small : c.loop-b.b < 2 ^ c.args.g.axes = omega (arith, c.loop-b-test.true) in omega (arith, c.requires.0.1)

pub grow_pairs-offset_bounds-counts-a : goal.grow_pairs-offset_bounds-counts-a
grow_pairs-offset_bounds-counts-a t c = let is = one_shifted c.args.g.axes (omega (arith, c.requires.0.0.good.most)) in let small : c.loop-b.b < 2 ^ c.args.g.axes = omega (arith, c.loop-b-test.true) in omega (arith, c.requires.0.1)

pub grow_pairs-bounds-counts-a : goal.grow_pairs-bounds-counts-a
grow_pairs-bounds-counts-a t c = let is = one_shifted c.args.g.axes (omega (arith, c.requires.0.0.good.most)) in let small : c.loop-b.b < 2 ^ c.args.g.axes = omega (arith, c.loop-b-test.true) in omega (arith, c.requires.0.1)

pub grow_pairs-child_of-child-requires : goal.grow_pairs-child_of-child-requires
grow_pairs-child_of-child-requires t c = let is = one_shifted c.args.g.axes (omega (arith, c.requires.0.0.good.most)) in let small : c.loop-b.b < 2 ^ c.args.g.axes = omega (arith, c.loop-b-test.true) in (c.requires.0.0.good, omega (arith, c.requires.0.0.levels), small)

pub grow_pairs-overflow_add-x : goal.grow_pairs-overflow_add-x
grow_pairs-overflow_add-x t c = let is = one_shifted c.args.g.axes (omega (arith, c.requires.0.0.good.most)) in let small : c.loop-b.b < 2 ^ c.args.g.axes = omega (arith, c.loop-b-test.true) in omega (arith, pair_fits c.args.g (setting c.args.z c.args.sums.now) c.args.cell c.args.left c.args.a c.args.at c.args.counts.now c.args.work.now (marked c.args.key.now c.args.mark.now c.args.from) c.requires.0.0 c.requires.0.1 c.loop-b.work (marked c.loop-b.key c.loop-b.mark c.loop-b.m) c.loop-b.x c.loop-b.b c.child_of-child.result (get_or c.args.counts.now (c.args.a + c.loop-b.b) 0) c.loop-b.invariant.1 small c.child_of-child.ensures refl c.requires.0.2.0 c.requires.0.2.1 c.requires.0.2.2 c.requires.0.2.3)

pub grow_pairs-grow_cell-m-requires : goal.grow_pairs-grow_cell-m-requires
grow_pairs-grow_cell-m-requires t c = let is = one_shifted c.args.g.axes (omega (arith, c.requires.0.0.good.most)) in let small : c.loop-b.b < 2 ^ c.args.g.axes = omega (arith, c.loop-b-test.true) in let cell = pair_left c.args.g (setting c.args.z c.args.sums.now) c.args.cell c.args.left c.args.a c.args.at c.args.counts.now c.args.work.now (marked c.args.key.now c.args.mark.now c.args.from) c.requires.0.0 c.requires.0.1 c.loop-b.work (marked c.loop-b.key c.loop-b.mark c.loop-b.m) c.loop-b.x c.loop-b.b c.child_of-child.result (get_or c.args.counts.now (c.args.a + c.loop-b.b) 0) c.loop-b.invariant.1 small c.child_of-child.ensures refl in (omega (arith, c.decreases), ((cell.0, cell.1, (c.requires.0.2.0, _, _, pair-at c.args.g (setting c.args.z c.args.sums.now) c.args.cell c.args.left c.args.a c.args.at c.args.counts.now c.args.work.now (marked c.args.key.now c.args.mark.now c.args.from) c.requires.0.0 c.requires.0.1 c.loop-b.work (marked c.loop-b.key c.loop-b.mark c.loop-b.m) c.loop-b.x c.loop-b.b c.child_of-child.result (get_or c.args.counts.now (c.args.a + c.loop-b.b) 0) c.loop-b.invariant.1 small c.child_of-child.ensures refl c.requires.0.2.0 c.requires.0.2.1 c.requires.0.2.2 c.requires.0.2.3)), over-child c.args.g.axes c.args.z c.args.cell c.loop-b.b c.child_of-child.result c.requires.1 (omega (arith, c.requires.0.0.levels)) small c.child_of-child.ensures))

pub grow_pairs-overflow_add-x-in-loop-b : goal.grow_pairs-overflow_add-x-in-loop-b
grow_pairs-overflow_add-x-in-loop-b t c = let is = one_shifted c.args.g.axes (omega (arith, c.requires.0.0.good.most)) in let small : c.loop-b.b < 2 ^ c.args.g.axes = omega (arith, c.loop-b-test.true) in omega (arith, pair_fits c.args.g (setting c.args.z c.args.sums.now) c.args.cell c.args.left c.args.a c.args.at c.args.counts.now c.args.work.now (marked c.args.key.now c.args.mark.now c.args.from) c.requires.0.0 c.requires.0.1 c.loop-b.work (marked c.loop-b.key c.loop-b.mark c.loop-b.m) c.loop-b.x c.loop-b.b c.child_of-child.result (get_or c.args.counts.now (c.args.a + c.loop-b.b) 0) c.loop-b.invariant.1 small c.child_of-child.ensures refl c.requires.0.2.0 c.requires.0.2.1 c.requires.0.2.2 c.requires.0.2.3)

pub grow_pairs-loop-b-preserved : goal.grow_pairs-loop-b-preserved
grow_pairs-loop-b-preserved t c = let is = one_shifted c.args.g.axes (omega (arith, c.requires.0.0.good.most)) in let small : c.loop-b.b < 2 ^ c.args.g.axes = omega (arith, c.loop-b-test.true) in (omega (arith, c.loop-b-test.true), pair-more c.args.g (setting c.args.z c.args.sums.now) c.args.cell c.args.left c.args.a c.args.at c.args.counts.now c.args.work.now (marked c.args.key.now c.args.mark.now c.args.from) c.requires.0.0 c.requires.0.1 c.loop-b.work (marked c.loop-b.key c.loop-b.mark c.loop-b.m) c.loop-b.x c.loop-b.b c.child_of-child.result (get_or c.args.counts.now (c.args.a + c.loop-b.b) 0) c.loop-b.invariant.1 small c.child_of-child.ensures refl c.grow_cell-m.new.work (marked c.grow_cell-m.new.key c.grow_cell-m.new.mark c.grow_cell-m.result) c.grow_cell-m.ensures, (c.grow_cell-m.auto.work ∙ c.loop-b.invariant.2.0, c.grow_cell-m.auto.key ∙ c.loop-b.invariant.2.1, c.grow_cell-m.auto.mark ∙ c.loop-b.invariant.2.2))

pub grow_pairs-returns : goal.grow_pairs-returns
grow_pairs-returns t c = let is = one_shifted c.args.g.axes (omega (arith, c.requires.0.0.good.most)) in pairing-end c.args.g (setting c.args.z c.args.sums.now) c.args.cell c.args.left c.args.a c.args.at c.args.counts.now c.args.work.now (marked c.args.key.now c.args.mark.now c.args.from) c.requires.0.0 c.requires.0.1 c.loop-b.work (marked c.loop-b.key c.loop-b.mark c.loop-b.m) c.loop-b.x c.loop-b.b c.loop-b.invariant.1 (omega (arith, is, c.loop-b-test.false))
