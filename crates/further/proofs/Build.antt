-- The statements at the build itself: its nodes and own sources, before and after one further source.
use mathlib.Core.Path.{◌≡◌, refl}
use mathlib.Core.Bool.{true, false}
use mathlib.Core.List.{List, [], ◌∷◌}
use Prim.Native.Nat.{ℕ, zero, suc, ◌*◌, ◌^◌, ◌<◌}
use native.Mathlib.Omega.{arith}
use native.Mathlib.Nat.{not-suc-le-zero, le_of_suc-le-suc}
use Rattle.morton.specs.Keys.{axes_known}
use Rattle.morton.specs.Anchors.{close}
use Rattle.tree.specs.Nodes.{leaf}
use Rattle.tree.proofs.Stored.{distinct}
use Rattle.rows.specs.Lists.{u_row, v_row}
use Rattle.growth.specs.declared.Rule.{Rule}
use Rattle.growth.specs.Nodes.{nodes}
use Rattle.growth.specs.Columns.{own_column}
use Rattle.growth.proofs.Arranged.{Codes}
use Rattle.growth.proofs.Sorted.{nodes-ascending}
use Rattle.further.specs.Further.{further, TreeOf, beside_parent, holder_of}
use Rattle.further.proofs.Holder.{tree-holder}
use Rattle.further.proofs.Rows.{leaf-stays, u_same, v-same}

-- the one place that goes by the order of the nodes: each stands once
pub build-tree : (g : Rule) (s : List ℕ) → axes_known g.axes ≡ true → TreeOf g s (nodes g s []) (own_column g.axes (nodes g s []) s)
build-tree g s known = record { cells = λ k. (λ m. m, λ m. m); distinct = distinct g.axes (nodes g s []) (nodes-ascending g s [] known); owns = refl }

-- the codes of the longer list
pub further-codes : (d : ℕ) (s : List ℕ) (code : ℕ) → Codes d s → code < 2 ^ (d * 16) → Codes d (further s code)
further-codes d [] code codes small zero l = small
further-codes d [] code codes small (suc i) l = absurd (not-suc-le-zero (le_of_suc-le-suc l))
further-codes d (x ∷ s) code codes small zero l = codes 0 (omega arith)
further-codes d (x ∷ s) code codes small (suc i) l = further-codes d s code (λ j h. codes (suc j) (omega arith)) small i (le_of_suc-le-suc l)

module _ (g : Rule) (s : List ℕ) (code : ℕ) (known : axes_known g.axes ≡ true) (codes : Codes g.axes s) (small : code < 2 ^ (g.axes * 16)) where
  abbrev pub keys₀ : List ℕ
  keys₀ = nodes g s []

  abbrev pub keys₁ : List ℕ
  keys₁ = nodes g (further s code) []

  abbrev pub own₀ : List ℕ
  own₀ = own_column g.axes keys₀ s

  abbrev pub own₁ : List ℕ
  own₁ = own_column g.axes keys₁ (further s code)

  codes₁ : Codes g.axes (further s code)
  codes₁ = further-codes g.axes s code codes small

  pub v-unchanged : (b : ℕ) → beside_parent g.axes b code ≡ false → v_row g.axes keys₀ own₀ b ≡ v_row g.axes keys₁ own₁ b
  v-unchanged b far = v-same g s code keys₀ own₀ keys₁ own₁ known codes codes₁ (build-tree g s known) (build-tree g (further s code) known) b far

  pub u-unchanged : (b : ℕ) → leaf g.axes keys₀ b ≡ true → close g.axes b (holder_of g.axes keys₀ code) ≡ false
      → (leaf g.axes keys₁ b ≡ true) × (u_row g.axes keys₀ own₀ b ≡ u_row g.axes keys₁ own₁ b)
  u-unchanged b lf far =
      let t = build-tree g s known in
      let t' = build-tree g (further s code) known in
      let C = holder_of g.axes keys₀ code in
      let h = tree-holder g s keys₀ own₀ code known t small in
      (leaf-stays g s code keys₀ own₀ keys₁ own₁ known codes codes₁ t t' b C h lf far, u_same g s code keys₀ own₀ keys₁ own₁ known codes codes₁ t t' b C h lf far)
