-- `text::put_nodes` meets its contract.
use native.Mathlib.Omega.{arith}
use Rattle.rows.specs.Written.{row_at}
use Rattle.text.specs.Listing.{of_level}
use Rattle.text.proofs.Putting.{numbered-none, numbered_more}
use Rattle.text.proofs.Lined.{lined-none, lined-more, lined-all}
use Rattle.text.proofs.Levels.{levels-most}
use Rattle.text.proofs.put_nodes.Goals as goal

pub loop-level-init : goal.loop-level-init
loop-level-init c = lined-none c.args.key.now c.args.own.now (row_at c.args.u_starts.now c.args.u_keys.now) (row_at c.args.v_starts.now c.args.v_keys.now) _ _ _ _ _ (numbered-none (of_level c.args.key.now))

pub put_level-lines-requires : goal.put_level-lines-requires
put_level-lines-requires c = omega (arith, levels-most c.args.key.now c.loop-level.level, c.loop-level.invariant.number)

pub loop-level-preserved : goal.loop-level-preserved
loop-level-preserved c = lined-more _ _ _ _ _ _ _ _ _ _ _ _ _ c.loop-level.invariant (omega (arith, c.loop-level-test.true)) _ (of_level c.args.key.now c.loop-level.level) _ _ c.put_level-lines.auto.out
    c.put_level-lines.ensures.lines c.put_level-lines.ensures.number (numbered_more (of_level c.args.key.now) c.loop-level.level)

pub returns : goal.returns
returns c = (lined-all _ _ _ _ _ _ _ _ _ _ _ _ _ c.loop-level.invariant (omega (arith, c.loop-level-test.false))).0
