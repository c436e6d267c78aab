-- `node_counts::keep_counts` meets its contract.
use mathlib.Core.Path.{sym, ◌∙◌}
use native.Mathlib.Omega.{arith}
use Rattle.node_counts.proofs.Counts.{settled_same, settled-past, settled-inner, settled-all}
use Rattle.node_counts.proofs.keep_counts.Goals as goal
use Rattle.node_counts.proofs.keep_counts.Goals.{then-not-is_leaf, then-not-is_leaf-via-then-not-is_leaf, then-not-is_leaf-via-else-not-is_leaf+then-not-run_fits, else-not-is_leaf+else-not-run_fits}

pub loop-q-preserved : goal.loop-q-preserved
loop-q-preserved c =
    elim c.if-not-is_leaf.branch [
      | then-not-is_leaf w ↦
          rw w.own-is (elim w.then-not-is_leaf.branch [
            | then-not-is_leaf-via-then-not-is_leaf v ↦ settled-inner _ _ _ _ _ _ _ c.loop-q.invariant c.loop-q-test.true (sym c.is_leaf.ensures ∙ v.if-not-is_leaf.true) (omega (arith, c.requires.owns))
            | then-not-is_leaf-via-else-not-is_leaf+then-not-run_fits v ↦ settled-past _ _ _ _ _ _ _ c.loop-q.invariant c.loop-q-test.true (sym c.is_leaf.ensures ∙ v.if-not-is_leaf.false) (sym v.run_fits.ensures ∙ v.if-not-run_fits.true) (omega (arith, c.requires.owns))
          ])
      | else-not-is_leaf+else-not-run_fits w ↦ rw w.own-is (settled_same _ _ _ _ _ _ _ c.loop-q.invariant c.loop-q-test.true (sym c.is_leaf.ensures ∙ w.if-not-is_leaf.false) (sym w.run_fits.ensures ∙ w.if-not-run_fits.false))
    ]

pub returns : goal.returns
returns c = settled-all _ _ _ _ _ _ _ c.requires.owns c.loop-q.invariant c.loop-q-test.false
