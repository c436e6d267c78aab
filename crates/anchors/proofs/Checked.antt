-- The refusals of two keys and of anchors, as tests that pass or fail.
use mathlib.Core.Path.{◌≡◌}
use mathlib.Core.Bool.{true, ◌&&◌}
use mathlib.Core.List.{List}
use Prim.Native.Nat.{ℕ, ◌≤◌}
use lib.Dec.{leb}
use borrow.Author.Tests.{leb-true}
use Rattle.refusal.specs.declared.Refusal.TheVariants.{Dims, Key}
use Rattle.refusal.specs.Chain.{ask}
use Rattle.refusal.proofs.Chain.{asked, both-done}
use Rattle.slices.proofs.Tests.{and_l, and_r}
use Rattle.morton.specs.Keys.{axes_known, ValidKey}
use Rattle.morton.specs.Anchors.{on_level}
use Rattle.morton.specs.Answers.{key_check}
use Rattle.morton.proofs.Checks.{axes-facts, checked}
use Rattle.anchors.specs.Answers.{pair_check, anchor_check}
use Rattle.refusal.specs.Outcome.{accepted}

pub pair-checked : (d j k : ℕ) → pair_check d j k ≡ accepted → ValidKey d j × ValidKey d k
pair-checked d j k e = let p = both-done (key_check d j) (key_check d k) e in (checked d j p.0, checked d k p.1)

-- anchors that are not refused are on a valid level
pub anchor-checked : (d level : ℕ) (xs : List ℕ) → anchor_check d level xs ≡ accepted → (1 ≤ d) × (d ≤ 3) × (level ≤ 16) × (on_level d level xs ≡ true)
anchor-checked d level xs e =
    let p = both-done (ask (axes_known d) Dims) (ask (leb level 16 && on_level d level xs) Key) e in
    let f = axes-facts d (asked (axes_known d) Dims p.0) in
    let g = asked (leb level 16 && on_level d level xs) Key p.1 in
    (f.0, f.1, leb-true level 16 (and_l _ _ g), and_r (leb level 16) _ g)
