-- `text::put_level` meets its contract.
use Prim.Native.Nat.{◌<◌}
use lib.Dec.{eqb}
use lib.ListN.{length, get_or}
use native.Mathlib.Omega.{arith}
use borrow.Author.Tests.{eq-eqb, ne_eqb}
use Rattle.rows.specs.Written.{row_at}
use Rattle.morton.specs.Keys.{level_of}
use Rattle.text.proofs.Lined.{picked_none, picked-yes, picked-no, lined-none, lined-node, lined-same, lined-less, lined-all}
use Rattle.text.proofs.put_level.Goals as goal
use Rattle.text.proofs.put_level.Goals.{then-key-node, else-key-node}

pub loop-node-init : goal.loop-node-init
loop-node-init c = lined-none c.args.key.now c.args.own.now (row_at c.args.u_starts.now c.args.u_keys.now) (row_at c.args.v_starts.now c.args.v_keys.now) _ _ _ _ _ (picked_none (λ i. eqb (level_of (get_or c.args.key.now i 0)) c.args.level))

pub overflow_add-next : goal.overflow_add-next
overflow_add-next c = let less : c.loop-node.next < length c.args.key.now = lined-less c.args.key.now _ _ _ (λ i. eqb (level_of (get_or c.args.key.now i 0)) c.args.level) _ _ _ _ _ _ _ _ c.loop-node.invariant c.loop-node-test.true (eq-eqb _ _ c.if-key-node.true) _ c.requires in
    omega (arith, less)

pub loop-node-preserved : goal.loop-node-preserved
loop-node-preserved c = elim c.if-key-node.branch [
  | then-key-node w ↦ rw (w.out-is, w.end-is, w.next-is) (lined-node _ _ _ _ _ _ _ _ _ _ _ _ _ c.loop-node.invariant c.loop-node-test.true _ _ w.put_node-end.auto.out w.put_node-end.ensures (picked-yes (λ i. eqb (level_of (get_or c.args.key.now i 0)) c.args.level) _ (eq-eqb _ _ w.if-key-node.true)))
  | else-key-node w ↦ rw (w.out-is, w.end-is, w.next-is) (lined-same _ _ _ _ _ _ _ _ _ _ _ _ _ c.loop-node.invariant c.loop-node-test.true (picked-no (λ i. eqb (level_of (get_or c.args.key.now i 0)) c.args.level) _ (ne_eqb _ _ w.if-key-node.false)))
]

pub returns : goal.returns
returns c = let all = lined-all _ _ _ _ _ _ _ _ _ _ _ _ _ c.loop-node.invariant c.loop-node-test.false in record { lines = all.0; number = all.1 }
