-- `descent::store_owners` meets its contract. The owners among the nodes passed have been put.
use native.Mathlib.Omega.{arith}
use lib.ListN.{get_or}
use Rattle.sourced.proofs.Putting.{put-room, store-past}
use Rattle.links.proofs.Children.{tree-formed}
use Rattle.descent.proofs.Owners.{none-put, stored-owner, stored_past, run-put}
use Rattle.descent.proofs.store_owners.Goals as goal
use Rattle.descent.proofs.store_owners.Goals.{then-own-c-gt0, else-own-c-gt0}

pub loop-c-init : goal.loop-c-init
loop-c-init c = (omega (arith, c.requires.3), none-put _ _ _ _ _ c.requires.0.linked _ _ _)

pub offset_bounds-key-c : goal.offset_bounds-key-c
offset_bounds-key-c c = omega (arith, c.requires.2, c.loop-c-test.true)

pub bounds-key-c : goal.bounds-key-c
bounds-key-c c = omega (arith, c.requires.2, c.loop-c-test.true)

pub offset_bounds-out-m : goal.offset_bounds-out-m
offset_bounds-out-m c = omega (arith, c.loop-c.auto.out, c.loop-c.invariant.0, c.loop-c-test.true)

pub bounds-out-m : goal.bounds-out-m
bounds-out-m c = omega (arith, c.loop-c.auto.out, c.loop-c.invariant.0, c.loop-c-test.true)

pub offset_bounds-own-c : goal.offset_bounds-own-c
offset_bounds-own-c c = omega (arith, c.requires.2, c.loop-c-test.true, (tree-formed c.requires.0.linked).owns)

pub bounds-own-c : goal.bounds-own-c
bounds-own-c c = omega (arith, c.requires.2, c.loop-c-test.true, (tree-formed c.requires.0.linked).owns)

pub overflow_add-m : goal.overflow_add-m
overflow_add-m c = omega (arith, c.loop-c.invariant.0, c.loop-c-test.true)

pub loop-c-preserved : goal.loop-c-preserved
loop-c-preserved c =
    let k = get_or c.args.key.now c.loop-c.c 0 in
    elim c.if-own-c-gt0.branch [
      | then-own-c-gt0 w ↦ rw w.m-is (
        omega (arith, c.loop-c.invariant.0, c.loop-c-test.true),
        stored-owner _ _ _ _ _ c.requires.0.linked _ _ c.loop-c.auto.c (omega (arith, c.requires.2, c.loop-c-test.true)) _ _ _ _ _ c.loop-c.invariant.1 w.if-own-c-gt0.true (put-room _ _ k (omega (arith, c.loop-c.auto.out, c.loop-c.invariant.0, c.loop-c-test.true))),
      )
      | else-own-c-gt0 w ↦ rw w.m-is (
        omega (arith, c.loop-c.invariant.0, c.loop-c-test.true),
        stored_past _ _ _ _ _ c.requires.0.linked _ _ c.loop-c.auto.c (omega (arith, c.requires.2, c.loop-c-test.true)) _ _ _ _ _ c.loop-c.invariant.1 w.if-own-c-gt0.false (store-past _ _ k (omega (arith, c.loop-c.auto.out, c.loop-c.invariant.0, c.loop-c-test.true))),
      )
    ]

pub returns : goal.returns
returns c = run-put _ _ _ _ _ c.requires.0.linked _ _ _ (c.loop-c.auto.c-end c.requires.1) c.loop-c-test.false _ _ _ _ c.loop-c.invariant.1
