-- `kept_keys::gather` meets its contract.
use mathlib.Core.Path.{sym, ◌∙◌}
use Rattle.kept_keys.proofs.Gathering.{so-valid, so-invalid, so-short, so-done}
use Rattle.kept_keys.proofs.gather.Goals as goal
use Rattle.kept_keys.proofs.gather.Goals.{then-is_valid+else-room-n, else-is_valid}

pub returns-then-room-n : goal.returns-then-room-n
returns-then-room-n c = so-short _ _ _ _ _ _ _ _ c.loop-k.invariant.0 c.loop-k-test.true (sym c.is_valid.ensures ∙ c.if-is_valid.true) _ _ _ _ c.put_key-n.ensures c.requires.0 c.if-room-n.true

pub loop-k-preserved : goal.loop-k-preserved
loop-k-preserved c =
    elim c.if-is_valid.branch [
      | then-is_valid+else-room-n w ↦
          rw (w.key-is, w.child-is, w.next-is, w.n-is)
          (so-valid _ _ _ _ _ _ _ _ c.loop-k.invariant.0 c.loop-k-test.true (sym c.is_valid.ensures ∙ w.if-is_valid.true) _ _ _ _ w.put_key-n.ensures w.put_key-n.auto.key w.put_key-n.auto.child w.put_key-n.auto.next w.if-room-n.false, w.put_key-n.auto.key ∙ c.loop-k.invariant.1, w.put_key-n.auto.child ∙ c.loop-k.invariant.2, w.put_key-n.auto.next ∙ c.loop-k.invariant.3)
      | else-is_valid w ↦
          rw (w.key-is, w.child-is, w.next-is, w.n-is)
          (so-invalid _ _ _ _ _ _ _ _ c.loop-k.invariant.0 c.loop-k-test.true (sym c.is_valid.ensures ∙ w.if-is_valid.false), c.loop-k.invariant.1, c.loop-k.invariant.2, c.loop-k.invariant.3)
    ]

pub returns : goal.returns
returns c = so-done _ _ _ _ _ _ _ _ c.loop-k.invariant.0 c.loop-k-test.false
