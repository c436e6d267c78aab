-- Order 2: with the sources of a build as targets near work is the figure by own sources.
use mathlib.Core.Path.{◌≡◌, refl, sym, ap, ap₂, ◌∙◌, subst}
use mathlib.Core.Bool.{Bool, true, cond}
use mathlib.Core.List.{List, [], ◌∷◌, map}
use Prim.Native.Nat.{ℕ, suc, ◌+◌, ◌*◌, ◌^◌, ◌<◌}
use lib.Dec.{eqb}
use lib.ListN.{length, get_or}
use borrow.Author.Tests.{eqb-true, eq-eqb}
use Rattle.slices.specs.Lists.{bit, count, Mem}
use Rattle.slices.proofs.Counts.{here, there}
use Rattle.slices.proofs.Tests.{same_test}
use Rattle.morton.specs.Keys.{axes_known, holds}
use Rattle.tree.specs.Nodes.{stored, leaf, own_of}
use Rattle.tree.specs.Leaves.{cell_of, leaf_key}
use Rattle.tree.proofs.Members.{mem-stored}
use Rattle.refine.specs.Counts.{count_at, sources_in}
use Rattle.rows.specs.Lists.{near_work, targets_at}
use Rattle.rows.proofs.NearWork.{same-weights}
use Rattle.growth.specs.declared.Rule.{Rule}
use Rattle.growth.specs.Nodes.{nodes}
use Rattle.growth.specs.Columns.{own_column}
use Rattle.growth.proofs.Columns.{own-map}
use Rattle.growth.proofs.Leaves.{cell_holds, source-leaf}
use Rattle.growth.proofs.Arranged.{Codes}
use Rattle.growth.proofs.Found.{found-key}

count-mapped : (p q : ℕ → Bool) (f : ℕ → ℕ) (xs : List ℕ) → ((x : ℕ) → Mem x xs → p (f x) ≡ q x) → count p (map f xs) ≡ count q xs
unfolding count
count-mapped p q f [] h = refl
count-mapped p q f (x ∷ xs) h = ap₂ (λ (b : Bool) (n : ℕ). bit b + n) (h x (here x xs)) (count-mapped p q f xs (λ y m. h y (there x y xs m)))

module _ (g : Rule) (s t : List ℕ) (known : axes_known g.axes ≡ true) (codes : Codes g.axes s) where
  -- a source's leaf is b if b holds it
  source-at : (b c : ℕ) → leaf g.axes (nodes g s t) b ≡ true → Mem c s → eqb (leaf_key g.axes (nodes g s t) c) b ≡ holds g.axes b c
  source-at b c lb m = same_test (eqb (leaf_key g.axes (nodes g s t) c) b) (holds g.axes b c)
      (λ h. subst (λ k. holds g.axes k c ≡ true) (sym own ∙ eqb-true (leaf_key g.axes (nodes g s t) c) b h) held)
      (λ h. eq-eqb (leaf_key g.axes (nodes g s t) c) b (found-key g s t known b c lb h))
    where
      small : c < 2 ^ (g.axes * 16)
      small = subst (λ x. x < 2 ^ (g.axes * 16)) m.2 (codes m.0 m.1)

      l : ℕ
      l = (source-leaf g s t known c m small).0

      held : holds g.axes (cell_of g.axes l c) c ≡ true
      held = cell_holds g.axes l c (source-leaf g s t known c m small).2

      own : leaf_key g.axes (nodes g s t) c ≡ cell_of g.axes l c
      own = found-key g s t known (cell_of g.axes l c) c (source-leaf g s t known c m small).3 held

  -- a leaf has as many sources as it owns
  sources-owned : (b : ℕ) → Mem b (nodes g s t) → leaf g.axes (nodes g s t) b ≡ true
      → targets_at (map (leaf_key g.axes (nodes g s t)) s) b ≡ own_of (nodes g s t) (own_column g.axes (nodes g s t) s) b
  unfolding own_column count_at
  sources-owned b m lb =
      count-mapped (λ k. eqb k b) (holds g.axes b) (leaf_key g.axes (nodes g s t)) s (λ c mc. source-at b c lb mc)
      ∙ sym (own-map (λ k. cond (leaf g.axes (nodes g s t) k) (sources_in g.axes s k) 0) (nodes g s t) b
      ∙ ap₂ (λ (x y : Bool). cond x (cond y (sources_in g.axes s b) 0) 0) (mem-stored (nodes g s t) b m) lb)

  -- the sources of a build, looked up as targets, give what each leaf owns
  pub sources-as-targets : near_work g.axes (nodes g s t) (own_column g.axes (nodes g s t) s) (targets_at (map (leaf_key g.axes (nodes g s t)) s))
      ≡ near_work g.axes (nodes g s t) (own_column g.axes (nodes g s t) s) (own_of (nodes g s t) (own_column g.axes (nodes g s t) s))
  sources-as-targets = same-weights g.axes (nodes g s t) (own_column g.axes (nodes g s t) s) _ _ sources-owned
