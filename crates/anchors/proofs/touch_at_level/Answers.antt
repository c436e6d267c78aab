-- The axes are tested from the last to the first; on those passed the anchors are at most 1 apart.
use mathlib.Core.Path.{sym, ap, ◌∙◌}
use Prim.Native.Nat.{ℕ, ◌-◌}
use native.Mathlib.Omega.{arith}
use Rattle.morton.specs.Keys.{level_of, code_of}
use Rattle.morton.specs.Anchors.{anchor}
use Rattle.anchors.proofs.Placing.{held_at, anchor-small, near-over, near-under, near_next, near_none}
use Rattle.anchors.proofs.touch_at_level.Goals as goal

pub overflow_add-q : goal.overflow_add-q
overflow_add-q c = let p = held_at c.args.axes c.args.a _ c.anchors_of-p.ensures (c.loop-n.n - 1) (omega arith) in
    let q = held_at c.args.axes c.args.b _ c.anchors_of-q.ensures (c.loop-n.n - 1) (omega arith) ∙ ap (λ (l : ℕ). anchor c.args.axes (c.loop-n.n - 1) l (code_of c.args.b)) (sym c.requires.2) in
    omega (arith, q, ap (λ (l : ℕ). anchor c.args.axes (c.loop-n.n - 1) l (code_of c.args.b)) c.requires.2, anchor-small c.args.axes c.args.b (c.loop-n.n - 1) c.requires.1)

pub returns-then-q-n : goal.returns-then-q-n
returns-then-q-n c = let p = held_at c.args.axes c.args.a _ c.anchors_of-p.ensures (c.loop-n.n - 1) (omega arith) in
    let q = held_at c.args.axes c.args.b _ c.anchors_of-q.ensures (c.loop-n.n - 1) (omega arith) ∙ ap (λ (l : ℕ). anchor c.args.axes (c.loop-n.n - 1) l (code_of c.args.b)) (sym c.requires.2) in
    sym (near-over c.args.axes (level_of c.args.a) (code_of c.args.a) (code_of c.args.b) c.loop-n.n (c.loop-n.n - 1) (omega arith) (omega (arith, p, q))) ∙ c.loop-n.invariant

pub overflow_add-p : goal.overflow_add-p
overflow_add-p c = let p = held_at c.args.axes c.args.a _ c.anchors_of-p.ensures (c.loop-n.n - 1) (omega arith) in
    let q = held_at c.args.axes c.args.b _ c.anchors_of-q.ensures (c.loop-n.n - 1) (omega arith) ∙ ap (λ (l : ℕ). anchor c.args.axes (c.loop-n.n - 1) l (code_of c.args.b)) (sym c.requires.2) in
    omega (arith, p, anchor-small c.args.axes c.args.a (c.loop-n.n - 1) c.requires.0)

pub returns-then-p-n : goal.returns-then-p-n
returns-then-p-n c = let p = held_at c.args.axes c.args.a _ c.anchors_of-p.ensures (c.loop-n.n - 1) (omega arith) in
    let q = held_at c.args.axes c.args.b _ c.anchors_of-q.ensures (c.loop-n.n - 1) (omega arith) ∙ ap (λ (l : ℕ). anchor c.args.axes (c.loop-n.n - 1) l (code_of c.args.b)) (sym c.requires.2) in
    sym (near-under c.args.axes (level_of c.args.a) (code_of c.args.a) (code_of c.args.b) c.loop-n.n (c.loop-n.n - 1) (omega arith) (omega (arith, p, q)) (omega (arith, p, q))) ∙ c.loop-n.invariant

pub loop-n-preserved : goal.loop-n-preserved
loop-n-preserved c = let p = held_at c.args.axes c.args.a _ c.anchors_of-p.ensures (c.loop-n.n - 1) (omega arith) in
    let q = held_at c.args.axes c.args.b _ c.anchors_of-q.ensures (c.loop-n.n - 1) (omega arith) ∙ ap (λ (l : ℕ). anchor c.args.axes (c.loop-n.n - 1) l (code_of c.args.b)) (sym c.requires.2) in
    sym (near_next c.args.axes (level_of c.args.a) (code_of c.args.a) (code_of c.args.b) c.loop-n.n (c.loop-n.n - 1) (omega arith) (omega (arith, p, q)) (omega (arith, p, q))) ∙ c.loop-n.invariant

pub returns : goal.returns
returns c = sym (near_none _ _ _ _ c.loop-n.n (omega arith)) ∙ c.loop-n.invariant
