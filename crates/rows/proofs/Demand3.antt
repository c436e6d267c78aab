-- Demand 3 of the tender: what is proved of every well-formed tree, once over the number of axes d.
-- The statements are in specs/Demand3.antt; u and v are any rows that give each node document 01's U and V row.
use mathlib.Core.Path.{◌≡◌, refl, sym, ap, ◌∙◌, subst}
use mathlib.Core.Bool.{Bool, true, false, ◌||◌}
use mathlib.Core.List.{List}
use Prim.Native.Nat.{ℕ, ◌≤◌, ◌<◌}
use native.Mathlib.Omega.{arith}
use lib.ListN.{length, get_or, take}
use Rattle.slices.specs.Lists.{sum, Mem}
use Rattle.morton.specs.Keys.{axes_known, far_room}
use Rattle.morton.specs.Anchors.{close}
use Rattle.tree.specs.WellFormed.{formed}
use Rattle.tree.proofs.Rules.{WellFormed, facts}
use Rattle.tree.proofs.Runs as R
use Rattle.tree.proofs.Stored.{run-facts}
use Rattle.rows.specs.Lists.{u_row, v_row, at_or_under, beside_ancestor}
use Rattle.rows.specs.Written.{row_of, Gives, Written}
use Rattle.rows.specs.Demand3.{brings, Runs, Once, Near, Far, Few}
use Rattle.rows.proofs.Closeness.{near-is-close}
use Rattle.rows.proofs.Meetings.{in-u, meet-once}
use Rattle.rows.proofs.RowTests.{v-far}
use Rattle.rows.proofs.Bound.{v-room}
use Rattle.rows.proofs.Agree.{gives-written, same-meetings}

-- document 01's words for U say the tender's: the two cells at the coarser one's level coincide or touch
pub u-is-close : (d b s : ℕ) → (at_or_under d b s || beside_ancestor d b s) ≡ close d b s
u-is-close = near-is-close

-- 3, 27 and 189
pub room : (far_room 1 ≡ 3) × (far_room 2 ≡ 27) × (far_room 3 ≡ 189)
room = (refl, refl, refl)

module _ (d : ℕ) (keys own begin : List ℕ) (tree : formed d keys own begin ≡ true) where
  w : WellFormed d keys own begin
  w = facts d keys own begin tree

  runs_of : (i : ℕ) → i < length own → get_or begin i 0 ≡ sum (take i own)
  runs_of i l = w.runs i (omega (arith, w.owns))

  -- each source place lies in exactly one run, and the run is a leaf's
  pub runs : Runs d keys own begin
  runs = record { one = R.run_of own begin runs_of; only = R.run-unique own begin runs_of; leaf's = λ p j r. (run-facts d keys own begin w p j r).1 }

  module _ (u v : ℕ → List ℕ) (gu : Gives keys (u_row d keys own) u) (gv : Gives keys (v_row d keys own) v) where
    -- each leaf meets each source exactly once
    pub once : Once d keys own begin u v
    once = record {
      once = λ i j p l h r. let (lj, s, o) = run-facts d keys own begin w p j r in
          same-meetings d keys w.ascending w.parents u v (u_row d keys own) (v_row d keys own) gu gv (get_or keys i 0) (get_or keys j 0) (i, l, refl)
          ∙ meet-once d keys own begin w (get_or keys i 0) (get_or keys j 0) h (j, lj, refl) s o;
    }

    -- in U exactly when the two cells at the coarser one's level coincide or touch
    pub near : Near d keys own begin u
    near = record {
      near = λ i j p l h r. let (lj, s, o) = run-facts d keys own begin w p j r in
          ap (brings d (get_or keys j 0)) (gu (get_or keys i 0) (i, l, refl)) ∙ in-u d keys own begin w (get_or keys i 0) (get_or keys j 0) h (j, lj, refl) s o;
    }

    -- no V row pairs touching cells
    pub far : Far d keys v
    far = record { far = λ i c l m. v-far d keys own (get_or keys i 0) c (subst (Mem c) (gv (get_or keys i 0) (i, l, refl)) m) }

    -- over 1 to 3 axes no V row has more entries than that number's room
    pub few : axes_known d ≡ true → Few d keys v
    few known = record { few = λ i l. rw (gv (get_or keys i 0) (i, l, refl)) (v-room d keys own w.ascending known (get_or keys i 0)) }

  -- of the rows by their definitions
  pub demand-3 : axes_known d ≡ true → Runs d keys own begin × Once d keys own begin (u_row d keys own) (v_row d keys own)
      × Near d keys own begin (u_row d keys own) × Far d keys (v_row d keys own) × Few d keys (v_row d keys own)
  demand-3 known =
      let gu : Gives keys (u_row d keys own) (u_row d keys own) = λ k m. refl in
      let gv : Gives keys (v_row d keys own) (v_row d keys own) = λ k m. refl in
      (runs, once _ _ gu gv, near _ _ gu gv, far _ _ gu gv, few _ _ gu gv known)

  -- rows as written, flat, with their starts
  pub written : axes_known d ≡ true → (us uk vs vk : List ℕ) → Written keys (u_row d keys own) us uk → Written keys (v_row d keys own) vs vk
      → Once d keys own begin (row_of keys us uk) (row_of keys vs vk) × Near d keys own begin (row_of keys us uk) × Far d keys (row_of keys vs vk) × Few d keys (row_of keys vs vk)
  written known us uk vs vk wu wv =
      let gu = gives-written (u_row d keys own) keys us uk wu in
      let gv = gives-written (v_row d keys own) keys vs vk wv in
      (once _ _ gu gv, near _ _ gu gv, far _ _ gu gv, few _ _ gu gv known)
