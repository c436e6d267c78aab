-- A build on a grid: what is laid out is what the growth asks for.
use mathlib.Core.Path.{◌≡◌, sym, ap, ap₂, subst, ◌∙◌}
use mathlib.Core.Bool.{Bool, true, cond, true≢false}
use mathlib.Core.List.{List}
use Prim.Native.Nat.{ℕ, ◌+◌, ◌*◌, ◌^◌, ◌≤◌, ◌<◌}
use native.Mathlib.Omega.{arith}
use lib.Ieee.{Float}
use lib.ListN.{length, get_or, take, drop}
use lib.Seq.{slice}
use Rattle.axes.proofs.Known.{axes-known}
use Rattle.morton.specs.Keys.{axes_known}
use Rattle.morton.specs.Depth.{reference_depth}
use Rattle.dealing.proofs.Frames.{slice_at}
use Rattle.refine.specs.Sums.{Sums}
use Rattle.growth.specs.Nodes.{nodes}
use Rattle.space.specs.declared.Box.{Box}
use Rattle.space.specs.declared.Frame.{Frame}
use Rattle.space.specs.Cells.{frame_of}
use Rattle.space.specs.Rows.{rows_of}
use Rattle.space.proofs.Refusals.{Fine}
use Rattle.space.proofs.Batches.{codes-length}
use Rattle.laying.specs.Points.{codes_of}
use Rattle.grids.specs.declared.Grid.{Grid}
use Rattle.grids.specs.Grids.{listed}
use Rattle.grids.specs.Ranges.{grid_codes}
use Rattle.grids.proofs.Totals.{listed-codes}
use Rattle.grid_laying.specs.Layout.{GridLaid}
use Rattle.grid_laying.proofs.Chains.{sited-box}
use Rattle.parting.specs.declared.Sizes.{Sizes}
use Rattle.parting.specs.Setting.{setting, aims_at, Gridded}
use Rattle.parting.specs.Spans.{SpanAt}
use Rattle.build.specs.Asked.{Asked, rule_of, built_keys}
use Rattle.build.specs.Summing.{Sourced, SumsMade}
use Rattle.build.specs.Steps.{LaidOut}
use Rattle.build.specs.OnGrid.{OnGrid}
use Rattle.build.proofs.Growing.{keys_are, codes-lt}

module _ (b : Box) (s : List Float) (g : Grid) (order : ℕ) (work : List ℕ) (G : GridLaid b s g order work) where
  pub box : Fine b
  box = sited-box b g G.sited

  abbrev n : ℕ
  n = rows_of b s

  below : (i : ℕ) → i < rows_of b s → get_or work (rows_of b s + i) 0 < 2 ^ (b.axes * 16)
  below i h =
      subst (λ (x : ℕ). x < 2 ^ (b.axes * 16)) (ap (λ (xs : List ℕ). get_or xs i 0) (sym G.laid.sources_at) ∙ slice_at n (2 * n) work i (omega (arith, G.room))) (codes-lt b s i (omega (arith, codes-length n (frame_of b) s)))

  pub grid-sourced : (order : ℕ) → rows_of b s ≤ order → Sourced b.axes (rows_of b s) work order
  grid-sourced order h = record { most = box.most; few = G.few; inside = omega (arith, G.room); below = below; fits = h }

  module _ (a : Asked) (eb : a.box ≡ b) (es : a.sources ≡ s) (et : a.targets ≡ listed b.axes g) (eo : a.order ≡ order) where
    pub grid-laid : (depth nodes' : ℕ) (sums : List ℕ) (z : Sizes) → OnGrid b g (rows_of b s) nodes' depth z → rows_of b s ≤ length sums → SumsMade b.axes (rows_of b s) 1 work depth sums → LaidOut a nodes' z work sums
    grid-laid depth nodes' sums z Z fits made = record {
      room_is = Z.room_is;
      fits = omega (arith, Z.sources_are);
      coded = record {
        known = subst (λ (x : Box). axes_known x.axes ≡ true) (sym eb) (axes-known b.axes box.least box.most);
        few = omega (arith, G.few, Z.sources_are);
        beside = omega (arith, G.room, Z.sources_are);
        room = λ off. absurd (true≢false (sym Z.on ∙ off));
        some = λ on. omega (arith, Z.some);
        codes = λ i h. subst (λ (x : Box). get_or work (z.sources + i) 0 < 2 ^ (x.axes * 16)) (sym eb) (subst (λ (m : ℕ). get_or work (m + i) 0 < 2 ^ (b.axes * 16)) (sym Z.sources_are) (below i (omega (arith, Z.sources_are))));
        refined = λ h. record {
          order = omega (arith, eo, G.fits);
          few = omega (arith, Z.some);
          sorted = λ off. absurd (true≢false (sym Z.on ∙ off));
          lies_on_grid = λ on. subst (λ (x : Box). Gridded x.axes z.frame z.grid) (sym eb) Z.gridded;
          deep = Z.depth_is ∙ made.deep (omega arith) ∙ ap₂ (λ (x : Box) (m : ℕ). reference_depth x.axes m) (sym eb) (sym Z.sources_are);
          sums = subst (λ (x : Box). Sums x.axes z.depth (slice z.sources (2 * z.sources) work) sums) (sym eb) (subst (λ (m : ℕ). Sums b.axes z.depth (slice m (2 * m) work) sums) (sym Z.sources_are) (subst (λ (m : ℕ). Sums b.axes m (slice n (2 * n) work) sums) (sym Z.depth_is) (made.made (omega arith))));
        };
      };
      sources_are = ap (λ (m : ℕ). slice m (2 * m) work) Z.sources_are ∙ G.laid.sources_at ∙ ap₂ (λ (x : Box) (xs : List Float). codes_of x xs) (sym eb) (sym es);
      nodes_are = nodes-so;
      spanned = subst (λ (x : Box). SpanAt x.axes z 0) (sym eb) Z.spanned;
    }
      where
        codes_are : aims_at (setting z sums) (drop (2 * z.sources) work) ≡ codes_of a.box a.targets
        codes_are =
            ap (λ (u : Bool). cond u (grid_codes z.frame z.grid) (take z.targets (drop (2 * z.sources) work))) Z.on
            ∙ ap₂ (λ (f : Frame) (q : Grid). grid_codes f q) Z.frame_is Z.grid_is
            ∙ sym (listed-codes b g box.least)
            ∙ ap₂ (λ (x : Box) (xs : List Float). codes_of x xs) (sym eb) (sym et)

        nodes-so : nodes (rule_of a) (codes_of a.box a.sources) (aims_at (setting z sums) (drop (2 * z.sources) work)) ≡ built_keys a
        nodes-so = ap (nodes (rule_of a) (codes_of a.box a.sources)) codes_are ∙ keys_are a
