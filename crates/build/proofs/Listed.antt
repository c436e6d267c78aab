-- Document 02, order 1: "The tree must equal the one built from the listed points", for every box, sources, grid, limit, order and flags.
use mathlib.Core.Path.{◌≡◌, refl, sym, ap, ap₂, ◌∙◌}
use mathlib.Core.Bool.{Bool, true, false, cond, ◌&&◌}
use mathlib.Core.List.{List, []}
use Prim.Native.Nat.{ℕ, ◌≤◌}
use lib.Dec.{leb}
use lib.Ieee.{Float}
use borrow.Author.Tests.{le-leb}
use Rattle.refusal.specs.declared.Refusal.{Refusal}
use Rattle.refusal.specs.declared.Refusal.TheVariants.{Room, Grid as GridRefused}
use Rattle.refusal.specs.Chain.{ask, ◌then◌}
use Rattle.refusal.specs.Left.{left}
use Rattle.space.specs.declared.Box.{Box}
use Rattle.space.specs.Domain.{box_outcome}
use Rattle.grids.specs.declared.Grid.{Grid}
use Rattle.grids.specs.Grids.{listed, grid_known}
use Rattle.tree.specs.Columns.{Columns}
use Rattle.laying.specs.Outcomes.{asked_outcome, inside_outcome, work_need, work_outcome}
use Rattle.grid_laying.specs.Outcomes.{grid_outcome, grid_checks}
use Rattle.build.specs.Asked.{Asked, used, asks, asks_at, asks_for, asks_on_grid, built_keys, built_own, built_begins, built_totals, built_columns, built_order}
use Rattle.build.specs.Outcomes.{Rooms, column_outcome, build_outcome, build_check, room_of}
use Rattle.build.specs.Listed.{SameBuild, with_work, Undecided}
use Rattle.refusal.specs.Outcome.{Outcome, accepted}
use Rattle.std.specs.Prelude.{Err, Ok}
use Rattle.growth.specs.Grown.{grown}

-- ---- the checks
passes : (o a₁ a₂ a₃ a₄ a₅ : Outcome) (k : Bool) → (o ≡ accepted → k ≡ true)
    → (o then ask k GridRefused) then (o then a₁ then a₂ then a₃ then a₄ then a₅) ≡ o then a₁ then a₂ then a₃ then a₄ then a₅
passes (Ok tt) a₁ a₂ a₃ a₄ a₅ k h = ap (λ (q : Bool). ask q GridRefused then (a₁ then a₂ then a₃ then a₄ then a₅)) (h refl)
passes (Err r) a₁ a₂ a₃ a₄ a₅ k h = refl

-- where the grid is known, 16 changes no outcome
grid-passes : (b : Box) (s t : List Float) (g : Grid) (order : ℕ) → (box_outcome b ≡ accepted → grid_known b.axes g ≡ true) → grid_outcome b g then asked_outcome b s t order ≡ asked_outcome b s t order
unfolding asked_outcome
grid-passes b s t g order k = passes (box_outcome b) _ _ _ _ _ (grid_known b.axes g) k

early-passes : (b : Box) (s t : List Float) (g : Grid) (order : ℕ) (u : Bool) → (u ≡ true → box_outcome b ≡ accepted → grid_known b.axes g ≡ true)
    → cond u (grid_outcome b g) accepted then asked_outcome b s t order ≡ asked_outcome b s t order
early-passes b s t g order true k = grid-passes b s t g order (k refl)
early-passes b s t g order false k = refl

work-passes : (b : Box) (s t : List Float) (work : ℕ) → work_need b s t ≤ work → work_outcome b s t work ≡ accepted
unfolding work_outcome
work-passes b s t work h = ap (λ (q : Bool). ask q (Room 1)) (le-leb (work_need b s t) work h)

none-held : (b : Box) (s : List Float) (u : Bool) (t : List Float) (work : ℕ) → work_need b s [] ≤ work → work_outcome b s (cond u [] []) work ≡ accepted
none-held b s true t work h = work-passes b s [] work h
none-held b s false t work h = work-passes b s [] work h

-- ---- the build on a grid, and the build on its listed points
module _ (b : Box) (sources : List Float) (g : Grid) (limit order : ℕ) (keep refine : Bool) where
  abbrev pub on_grid : Asked
  on_grid = asks_on_grid b sources g limit order keep refine

  abbrev pub on_list : Asked
  on_list = asks_for b sources (listed b.axes g) limit order keep refine

  -- the tree is the same, whatever the grid
  pub same-columns : built_columns on_grid ≡ built_columns on_list
  unfolding built_keys built_own built_begins built_totals
  same-columns = refl

  pub same-order : built_order on_grid ≡ built_order on_list
  unfolding built_keys built_order
  same-order = refl

  same-room : (orders nodes : ℕ) → column_outcome on_grid orders nodes ≡ column_outcome on_list orders nodes
  unfolding built_keys column_outcome
  same-room orders nodes = refl

  -- so is the outcome with both flags, with 16 put in after 1 and 2, and the targets out of the work's need
  pub same-checks : (work orders nodes : ℕ) → (keep && refine) ≡ true → build_outcome on_grid work orders nodes ≡ grid_checks b sources g order work then column_outcome on_list orders nodes
  same-checks work orders nodes e =
      ap (λ (u : Bool). cond u (grid_outcome b g) accepted then asked_outcome b sources (t u) order then inside_outcome b sources (t u) then work_outcome b sources (cond u [] []) work then column_outcome on_grid orders nodes) e
      ∙ ap (λ (o : Outcome). grid_outcome b g then asked_outcome b sources (t true) order then inside_outcome b sources (t true) then work_outcome b sources [] work then o) (same-room orders nodes)
    where
      t : Bool → List Float
      t u = cond u (listed b.axes g) []

  -- and without deciding by 16 or by the work it is the very same
  pub same_outcome : (work long orders nodes : ℕ) → Undecided b sources g keep refine work long → build_outcome on_grid work orders nodes ≡ build_outcome on_list long orders nodes
  same_outcome work long orders nodes h =
      let t = used keep refine (listed b.axes g) in
      let inner = inside_outcome b sources t in
      ap (λ (o : Outcome). o then inner then work_outcome b sources (cond (keep && refine) [] []) work then column_outcome on_grid orders nodes) (early-passes b sources t g order (keep && refine) h.known)
      ∙ ap₂ (λ (w c : Outcome). asked_outcome b sources t order then inner then w then c) (none-held b sources (keep && refine) t work h.enough ∙ sym (work-passes b sources t long h.as_listed)) (same-room orders nodes)

  -- the customer's sentence
  pub grid-as-listed : (r : Rooms) (long : ℕ) → Undecided b sources g keep refine r.work long → SameBuild on_grid r on_list (with_work long r)
  grid-as-listed r long h = record {
    answer = ap₂ (λ (o : Outcome) (xs : List ℕ). o then Ok (grown xs)) checks keys-same;
    order = ap₂ (λ (o : Outcome) (xs : List ℕ). left o r.order xs) checks same-order;
    keys = ap₂ (λ (o : Outcome) (xs : List ℕ). left o r.keys xs) checks keys-same;
    own = ap₂ (λ (o : Outcome) (c : Columns). left o r.own c.own) checks same-columns;
    begins = ap₂ (λ (o : Outcome) (c : Columns). left o r.begins c.begin) checks same-columns;
    totals = ap₂ (λ (o : Outcome) (c : Columns). left o r.totals c.total) checks same-columns;
  }
    where
      checks : build_check on_grid r ≡ build_check on_list (with_work long r)
      checks = same_outcome r.work long r.order (room_of r) h

      keys-same : built_keys on_grid ≡ built_keys on_list
      keys-same = ap (λ (c : Columns). c.keys) same-columns
