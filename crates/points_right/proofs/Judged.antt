-- What a tree handed in says of its columns.
use mathlib.Core.Path.{◌≡◌, sym, subst}
use mathlib.Core.Bool.{true}
use mathlib.Core.List.{List}
use Prim.Native.Nat.{ℕ, ◌+◌, ◌*◌, ◌/◌, ◌≤◌, ◌<◌}
use native.Mathlib.Omega.{arith}
use native.Mathlib.Nat.{div-mul-le_self}
use lib.Ieee.{Float}
use lib.ListN.{length, get_or}
use Rattle.slices.specs.Lists.{sum}
use Rattle.axes.proofs.Known.{axes-facts}
use Rattle.morton.specs.Keys.{axes_known, level_of}
use Rattle.morton.proofs.Checks.{valid-facts}
use Rattle.tree.specs.WellFormed.{well_formed}
use Rattle.tree.proofs.Rules.{all-facts}
use Rattle.tree.proofs.Column.{column-root}
use Rattle.space.specs.declared.Frame.{Frame}
use Rattle.points_right.specs.Points.{point_in, RunRight, PointsRight}
use Rattle.points_right.proofs.Runs.{Before, before-done, run_ends}

pub record Judging (d : ℕ) (points : List Float) (keys own begin total : List ℕ) : Type 0 where
  pub some : 1 ≤ d
  pub most : d ≤ 3
  pub rows : length points / d * d ≤ length points
  pub owns : length own ≡ length keys
  pub begins : length begin ≡ length keys
  pub totals : length total ≡ length keys
  pub nodes : 0 < length keys
  pub root : get_or total 0 0 ≡ sum own
  pub few : sum own ≤ 1048576
  pub ends : (j : ℕ) → j < length keys → get_or begin j 0 + get_or own j 0 ≤ sum own
  pub levels : (j : ℕ) → j < length keys → level_of (get_or keys j 0) ≤ 16

pub judging : (d : ℕ) (points : List Float) (keys own begin total : List ℕ) → axes_known d ≡ true → well_formed d keys own begin total ≡ true → Judging d points keys own begin total
judging d points keys own begin total a h =
    let w = all-facts d keys own begin total h in
    record {
      some = (axes-facts d a).0;
      most = (axes-facts d a).1;
      rows = div-mul-le_self (length points) d;
      owns = w.owns;
      begins = w.begins;
      totals = w.totals;
      nodes = w.some;
      root = column-root d keys own begin total h;
      few = w.rows.most;
      ends = run_ends d keys own begin total w;
      levels = λ j l. (valid-facts d (get_or keys j 0) a (w.rows.tree.ascending.sound j l)).level;
    }

-- by the frame g of the box
module _ (n : ℕ) (f g : Frame) (e : f ≡ g) (points : List Float) (keys own begin order : List ℕ) where
  pub one-wrong : (j : ℕ) → j < length keys → (RunRight n (point_in f points) order (get_or keys j 0) (get_or begin j 0) (get_or begin j 0 + get_or own j 0) → ⊥)
      → PointsRight n (point_in g points) keys own begin order → ⊥
  one-wrong j l h p = h (subst (λ (x : Frame). RunRight n (point_in x points) order (get_or keys j 0) (get_or begin j 0) (get_or begin j 0 + get_or own j 0)) (sym e) (p.runs j l))

  pub all_right : (j : ℕ) → Before n (point_in f points) keys own begin order j → length keys ≤ j → length order ≡ n → sum own ≡ n
      → PointsRight n (point_in g points) keys own begin order
  all_right j b h l s = subst (λ (x : Frame). PointsRight n (point_in x points) keys own begin order) e (before-done n (point_in f points) keys own begin order j b h l s)

-- what a run asks
pub run-asks : (d : ℕ) (points : List Float) (keys own begin total : List ℕ) → Judging d points keys own begin total → (j m a : ℕ) → j < length keys → m ≡ length points / d → sum own ≡ m → a ≡ d
    → (1 ≤ a) × (a ≤ 3) × (length points / d * a ≤ length points) × (level_of (get_or keys j 0) ≤ 16) × (get_or begin j 0 + get_or own j 0 ≤ m)
run-asks d points keys own begin total w j m a l e s q = (
  omega (arith, w.some, q),
  omega (arith, w.most, q),
  subst (λ (x : ℕ). length points / d * x ≤ length points) (sym q) w.rows,
  w.levels j l,
  omega (arith, w.ends j l, s),
)
