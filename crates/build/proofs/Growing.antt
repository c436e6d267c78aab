-- From the work as it is laid out to what the growth asks for.
use mathlib.Core.Path.{◌≡◌, refl, sym, ap, ap₂, subst, ◌∙◌}
use mathlib.Core.Bool.{Bool, true, cond, true≢false}
use mathlib.Core.List.{List, [], ◌∷◌}
use Prim.Native.Nat.{ℕ, zero, suc, ◌+◌, ◌*◌, ◌-◌, ◌^◌, ◌≤◌, ◌<◌}
use native.Mathlib.Omega.{arith}
use lib.Ieee.{Float}
use lib.ListN.{length, get_or, take, drop}
use lib.Seq.{slice, length-slice}
use Rattle.slices.specs.Order.{Sorted, ascending}
use Rattle.slices.proofs.Order.{ascending-sorted}
use Rattle.axes.proofs.Known.{axes-known}
use Rattle.codes.proofs.Codes.{encode-lt}
use Rattle.morton.specs.Keys.{axes_known}
use Rattle.morton.specs.Depth.{reference_depth}
use Rattle.space.specs.declared.Box.{Box}
use Rattle.space.specs.declared.Frame.{Frame}
use Rattle.space.specs.Cells.{frame_of, anchors16, code16}
use Rattle.space.specs.Rows.{rows_of}
use Rattle.space.proofs.Batches.{codes-length, code-at-row}
use Rattle.growth.proofs.Arranged.{Codes}
use Rattle.dealing.proofs.Frames.{slice_at}
use Rattle.refine.specs.Sums.{Sums, Summable}
use Rattle.refine.proofs.Made.{summable}
use Rattle.laying.specs.Points.{codes_of}
use Rattle.laying.proofs.Prepared.{Passed}
use Rattle.laying.specs.Layout.{PointsLaid}
use Rattle.grids.specs.Ranges.{grid_codes}
use Rattle.growth.specs.Nodes.{nodes}
use Rattle.parting.specs.declared.Sizes.{Sizes}
use Rattle.parting.specs.Setting.{setting, aims_at}
use Rattle.build.specs.Asked.{Asked, rule_of, built_keys}
use Rattle.build.proofs.Sorted.{nodes-any}
use Rattle.build.specs.Summing.{Sourced, SumsMade}
use Rattle.build.specs.Steps.{Plain, LaidOut}

pub keys_are : (a : Asked) → nodes (rule_of a) (codes_of a.box a.sources) (codes_of a.box a.targets) ≡ built_keys a
unfolding built_keys
keys_are a = refl

-- a part that is lent is the slice up to its end
pub slice-lent : (a t e : ℕ) (s : List ℕ) → e ≡ a + t → take t (drop a s) ≡ slice a e s
slice-lent zero t e s h = let q : t ≡ e = omega (arith, h) in ap (λ (n : ℕ). take n s) q
slice-lent (suc a) t zero s h = absurd (omega (arith, h))
slice-lent (suc a) zero (suc e) [] h = refl
slice-lent (suc a) (suc t) (suc e) [] h = refl
slice-lent (suc a) t (suc e) (x ∷ xs) h = slice-lent a t e xs (omega (arith, h))

-- ---- the codes of points
code_lt : (f : Frame) (xs : List Float) → code16 f xs < 2 ^ (f.axes * 16)
unfolding code16
code_lt f xs = encode-lt f.axes 16 (anchors16 f xs)

pub codes-lt : (b : Box) (xs : List Float) → Codes b.axes (codes_of b xs)
codes-lt b xs i h =
    let l : i < rows_of b xs = omega (arith, h, codes-length (rows_of b xs) (frame_of b) xs) in
    subst (λ (c : ℕ). c < 2 ^ (b.axes * 16)) (sym (code-at-row (rows_of b xs) i (frame_of b) xs l)) (code_lt (frame_of b) (drop (i * b.axes) xs))

-- ---- the sums of the sources
module _ (d rows : ℕ) (work : List ℕ) (room : ℕ) (q : Sourced d rows work room) where
  part-is : take (rows + rows - rows) (drop rows work) ≡ slice rows (2 * rows) work
  part-is = slice-lent rows (rows + rows - rows) (2 * rows) work (omega arith)

  size : length (slice rows (2 * rows) work) ≡ rows
  size = length-slice rows (2 * rows) work q.inside ∙ omega arith

  pub sources-summable : (depth : ℕ) → depth ≡ reference_depth d rows → Summable d depth (take (rows + rows - rows) (drop rows work)) room
  sources-summable depth e =
      subst (λ (xs : List ℕ). Summable d depth xs room) (sym part-is)
      (summable d depth (slice rows (2 * rows) work) room q.most (e ∙ ap (reference_depth d) (sym size)) (omega (arith, size, q.few))
      (λ i h. subst (λ (x : ℕ). x < 2 ^ (d * 16)) (sym (slice_at rows (2 * rows) work i (omega (arith, h, size)))) (q.below i (omega (arith, h, size))))
      (omega (arith, size, q.fits)))

  pub sums-made : (marks depth : ℕ) (sums : List ℕ) → depth ≡ reference_depth d rows → Sums d depth (take (rows + rows - rows) (drop rows work)) sums → SumsMade d rows marks work depth sums
  sums-made marks depth sums e made = record { deep = λ _. e; made = λ _. subst (λ (xs : List ℕ). Sums d depth xs sums) part-is made }

module _ (a : Asked) (room : ℕ) (p : Passed a.box a.sources a.targets a.order room) where
  abbrev s : List ℕ
  s = codes_of a.box a.sources

  abbrev t : List ℕ
  t = codes_of a.box a.targets

  abbrev n : ℕ
  n = rows_of a.box a.sources

  abbrev k : ℕ
  k = rows_of a.box a.targets

  s-long : length s ≡ n
  s-long = codes-length n (frame_of a.box) a.sources

  some-targets : 0 < rows_of a.box a.targets → a.order ≤ 64
  some-targets h = p.call.fits (omega (arith, h, native.Mathlib.Nat.div-le_self (length a.targets) a.box.axes))

  box-known : axes_known a.box.axes ≡ true
  box-known = axes-known a.box.axes p.call.box.least p.call.box.most

  module _ (work : List ℕ) (len : length work ≡ room) (laid : PointsLaid a.box a.sources a.targets work) where
    sources-below : (i : ℕ) → i < rows_of a.box a.sources → get_or work (rows_of a.box a.sources + i) 0 < 2 ^ (a.box.axes * 16)
    sources-below i h =
        subst (λ (x : ℕ). x < 2 ^ (a.box.axes * 16)) (ap (λ (xs : List ℕ). get_or xs i 0) (sym laid.sources_at) ∙ slice_at n (2 * n) work i (omega arith)) (codes-lt a.box a.sources i (omega (arith, s-long)))

    pub work-sourced : (order : ℕ) → rows_of a.box a.sources ≤ order → Sourced a.box.axes (rows_of a.box a.sources) work order
    work-sourced order h = record { most = p.call.box.most; few = p.call.few; inside = omega (arith, p.room, len); below = sources-below; fits = h }

    targets_begin : take (rows_of a.box a.targets) (drop (2 * rows_of a.box a.sources) work) ≡ ascending (codes_of a.box a.targets)
    targets_begin = slice-lent (2 * n) k (2 * n + k) work refl ∙ laid.targets_begin

    pub work-laid : (depth nodes' : ℕ) (sums : List ℕ) (z : Sizes) → Plain (rows_of a.box a.sources) (rows_of a.box a.targets) nodes' depth z → rows_of a.box a.sources ≤ length sums → SumsMade a.box.axes (rows_of a.box a.sources) (rows_of a.box a.targets) work depth sums
        → LaidOut a nodes' z work sums
    work-laid depth nodes' sums z Z fits made = record {
      room_is = Z.room_is;
      fits = omega (arith, Z.sources_are);
      coded = record {
        known = box-known;
        few = omega (arith, p.call.few, Z.sources_are);
        beside = omega (arith, p.room, len, Z.sources_are);
        room = λ off. omega (arith, p.room, len, Z.sources_are, Z.targets_are);
        some = λ on. absurd (true≢false (sym on ∙ Z.off_grid));
        codes = λ i h. subst (λ (m : ℕ). get_or work (m + i) 0 < 2 ^ (a.box.axes * 16)) (sym Z.sources_are) (sources-below i (omega (arith, Z.sources_are)));
        refined = λ h. record {
          order = some-targets (omega (arith, Z.targets_are));
          few = omega (arith, p.call.fewer, Z.targets_are);
          sorted = λ off. subst Sorted (sym aims) (ascending-sorted t);
          lies_on_grid = λ on. absurd (true≢false (sym on ∙ Z.off_grid));
          deep = Z.depth_is ∙ made.deep (omega (arith, Z.targets_are)) ∙ ap (reference_depth a.box.axes) (sym Z.sources_are);
          sums = subst (λ (m : ℕ). Sums a.box.axes z.depth (slice m (2 * m) work) sums) (sym Z.sources_are) (subst (λ (m : ℕ). Sums a.box.axes m (slice n (2 * n) work) sums) (sym Z.depth_is) (made.made (omega (arith, Z.targets_are))));
        };
      };
      sources_are = ap (λ (m : ℕ). slice m (2 * m) work) Z.sources_are ∙ laid.sources_at;
      nodes_are = ap (nodes (rule_of a) s) aims ∙ nodes-any (rule_of a) s t ∙ keys_are a;
      spanned = λ on. absurd (true≢false (sym on ∙ Z.off_grid));
    }
      where
        aims : aims_at (setting z sums) (drop (2 * z.sources) work) ≡ ascending (codes_of a.box a.targets)
        aims =
            ap (λ (u : Bool). cond u (grid_codes z.frame z.grid) (take z.targets (drop (2 * z.sources) work))) Z.off_grid
            ∙ ap₂ (λ (m k : ℕ). take k (drop (2 * m) work)) Z.sources_are Z.targets_are
            ∙ targets_begin
