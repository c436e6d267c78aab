-- Orders 3 and 10: in a build a cell's total is the number of sources in it, by their codes.
use mathlib.Core.Path.{◌≡◌, refl, sym, ap, ap₂, ◌∙◌, subst, fun_ext}
use mathlib.Core.Bool.{Bool, true, false, ◌&&◌, cond}
use mathlib.Core.List.{List, [], ◌∷◌, map}
use mathlib.Core.Logic.{⊎_elim}
use Prim.Native.Nat.{ℕ, zero, suc, ◌+◌, ◌*◌, ◌-◌, ◌^◌, ◌≤◌, ◌<◌}
use native.Mathlib.Omega.{arith}
use lib.Dec.{leb, eqb}
use lib.ListN.{length, get_or}
use borrow.Author.Tests.{le-leb, eqb-true, eq-eqb}
use Rattle.slices.specs.Lists.{bit, count, sum, Mem}
use Rattle.slices.proofs.Tests.{and_l, and_r, both, clash, refute, lt-or-le}
use Rattle.slices.proofs.Counts.{count-zero, count-ext}
use Rattle.morton.specs.Keys.{deepest, key, level_of, code_of, above, axes_known, under, holds}
use Rattle.morton.proofs.Cells.{key-level, key-code}
use Rattle.refine.specs.Counts.{count_at, sources_in}
use Rattle.tree.specs.Nodes.{stored, leaf, own_of}
use Rattle.growth.specs.declared.Rule.{Rule}
use Rattle.growth.specs.Columns.{own_column}
use Rattle.growth.proofs.Arranged.{Codes}
use Rattle.growth.proofs.Held.{held-once}
use Rattle.tree.specs.Totals.{total_in, total_column}
use Rattle.tree.proofs.Rules.{Tree}
use Rattle.tree.proofs.Ranges.{nested}
use Rattle.slices.proofs.Sums.{sum_same, sum-none, sum-swap, sum-bits}
use Rattle.tree.proofs.Stored.{level-le, leaf-under, mem-stored}
use Rattle.tree.proofs.Sourced.{facts-under, under-facts, under-trans}
use Rattle.growth.specs.Nodes.{nodes}
use Rattle.growth.proofs.Sorted.{nodes-tree}
use Rattle.growth.proofs.Columns.{own-map}
use Rattle.growth.proofs.Runs.{map_at}

-- a cell holds a code if it holds the code's level-16 cell
pub holds-under : (d k c : ℕ) → level_of k ≤ 16 → holds d k c ≡ true → under d k (key 16 c) ≡ true
holds-under d k c l h =
    let a = key-level 16 c (omega arith) in
    let b = key-code 16 c (omega arith) in
    facts-under d k (key 16 c) (record { level = omega arith; code = rw (a, b) (eqb-true (above d (16 - level_of k) c) (code_of k) h) })

pub under-holds : (d k c : ℕ) → under d k (key 16 c) ≡ true → holds d k c ≡ true
under-holds d k c u =
    let a = key-level 16 c (omega arith) in
    let b = key-code 16 c (omega arith) in
    eq-eqb (above d (16 - level_of k) c) (code_of k) (rw (a, b) at (under-facts d k (key 16 c) u).code)

module _ (g : Rule) (s t : List ℕ) (known : axes_known g.axes ≡ true) (codes : Codes g.axes s) (k : ℕ) (mk : Mem k (nodes g s t)) where
  tree : Tree g.axes (nodes g s t)
  tree = nodes-tree g s t known

  low : (x : ℕ) → Mem x (nodes g s t) → level_of x ≤ 16
  low = level-le g.axes (nodes g s t) tree.ascending

  -- a leaf that holds a code of node k lies under it
  pub leaf-in : (c j : ℕ) → Mem j (nodes g s t) → leaf g.axes (nodes g s t) j ≡ true → holds g.axes j c ≡ true → holds g.axes k c ≡ true → under g.axes k j ≡ true
  leaf-in c j mj lf hj hk =
      let uj = holds-under g.axes j c (low j mj) hj in
      let uk = holds-under g.axes k c (low k mk) hk in
      let top : level_of (key 16 c) ≤ 16 = omega (arith, key-level 16 c (omega arith)) in
      ⊎_elim
      (λ (l : level_of j < level_of k).
      let e = leaf-under g.axes (nodes g s t) tree.ascending tree.parents j k lf mk (nested g.axes j k (key 16 c) top (omega arith) uj uk) in
      absurd (omega (arith, ap level_of e)))
      (λ (l : level_of k ≤ level_of j). nested g.axes k j (key 16 c) top l uk uj)
      (lt-or-le (level_of j) (level_of k))

  -- each source is in one leaf under k, if k holds it, and in none else
  once : (c : ℕ) → Mem c s → count (λ j. under g.axes k j && (leaf g.axes (nodes g s t) j && holds g.axes j c)) (nodes g s t) ≡ bit (holds g.axes k c)
  once c m = go (holds g.axes k c) refl
    where
      small : c < 2 ^ (g.axes * 16)
      small = subst (λ x. x < 2 ^ (g.axes * 16)) m.2 (codes m.0 m.1)

      all : count (λ j. leaf g.axes (nodes g s t) j && holds g.axes j c) (nodes g s t) ≡ 1
      all = held-once g s t known c m small

      go : (b : Bool) → holds g.axes k c ≡ b → count (λ j. under g.axes k j && (leaf g.axes (nodes g s t) j && holds g.axes j c)) (nodes g s t) ≡ bit b
      go false e = count-zero (λ j. under g.axes k j && (leaf g.axes (nodes g s t) j && holds g.axes j c)) (nodes g s t) (λ j mj h.
          let u = and_l (under g.axes k j) _ h in
          let r = and_r (under g.axes k j) _ h in
          let hj = and_r (leaf g.axes (nodes g s t) j) (holds g.axes j c) r in
          clash (under-holds g.axes k c (under-trans g.axes k j (key 16 c) u (holds-under g.axes j c (low j mj) hj))) e)
      go true e = count-ext (λ j. under g.axes k j && (leaf g.axes (nodes g s t) j && holds g.axes j c)) (λ j. leaf g.axes (nodes g s t) j && holds g.axes j c) (nodes g s t)
          (λ j mj. same j mj (leaf g.axes (nodes g s t) j && holds g.axes j c) refl) ∙ all
        where
          same : (j : ℕ) → Mem j (nodes g s t) → (b : Bool) → (leaf g.axes (nodes g s t) j && holds g.axes j c) ≡ b → (under g.axes k j && b) ≡ b
          same j mj true q = both (leaf-in c j mj (and_l (leaf g.axes (nodes g s t) j) (holds g.axes j c) q) (and_r (leaf g.axes (nodes g s t) j) (holds g.axes j c) q) e) refl
          same j mj false q = refute (λ h. clash (and_r (under g.axes k j) false h) refl)

  -- the total of a stored cell is the number of sources in it
  pub total-sources : total_in g.axes (nodes g s t) (own_column g.axes (nodes g s t) s) k ≡ sources_in g.axes s k
  unfolding total_in own_column count_at
  total-sources =
      sum_same (λ j. cond (under g.axes k j) (own_of (nodes g s t) (map (λ k. cond (leaf g.axes (nodes g s t) k) (sources_in g.axes s k) 0) (nodes g s t)) j) 0)
      (λ j. sum (map (λ c. bit (under g.axes k j && (leaf g.axes (nodes g s t) j && holds g.axes j c))) s)) (nodes g s t) term
      ∙ sum-swap (λ j c. bit (under g.axes k j && (leaf g.axes (nodes g s t) j && holds g.axes j c))) (nodes g s t) s
      ∙ sum_same (λ c. sum (map (λ j. bit (under g.axes k j && (leaf g.axes (nodes g s t) j && holds g.axes j c))) (nodes g s t))) (λ c. bit (holds g.axes k c)) s
      (λ c m. sum-bits (λ j. under g.axes k j && (leaf g.axes (nodes g s t) j && holds g.axes j c)) (nodes g s t) ∙ once c m)
      ∙ sum-bits (holds g.axes k) s
    where
      term : (j : ℕ) → Mem j (nodes g s t) → cond (under g.axes k j) (own_of (nodes g s t) (map (λ k. cond (leaf g.axes (nodes g s t) k) (count (λ c. eqb (above g.axes (deepest - level_of k) c) (code_of k)) s) 0) (nodes g s t)) j) 0
          ≡ sum (map (λ c. bit (under g.axes k j && (leaf g.axes (nodes g s t) j && holds g.axes j c))) s)
      term j mj =
          ap (λ n. cond (under g.axes k j) n 0)
          (own-map (λ k. cond (leaf g.axes (nodes g s t) k) (count (λ c. eqb (above g.axes (deepest - level_of k) c) (code_of k)) s) 0) (nodes g s t) j
          ∙ ap (λ b. cond b (cond (leaf g.axes (nodes g s t) j) (count (holds g.axes j) s) 0) 0) (mem-stored (nodes g s t) j mj))
          ∙ bits (under g.axes k j) (leaf g.axes (nodes g s t) j)
        where
          bits : (a b : Bool) → cond a (cond b (count (holds g.axes j) s) 0) 0 ≡ sum (map (λ c. bit (a && (b && holds g.axes j c))) s)
          bits true true = sym (sum-bits (holds g.axes j) s)
          bits true false = sym (sum-none (λ c. 0) s (λ x m. refl))
          bits false b = sym (sum-none (λ c. 0) s (λ x m. refl))

-- as it stands in the column of totals
pub total_here : (g : Rule) (s t : List ℕ) → axes_known g.axes ≡ true → Codes g.axes s → (j : ℕ) → j < length (nodes g s t)
    → get_or (total_column g.axes (nodes g s t) (own_column g.axes (nodes g s t) s)) j 0 ≡ sources_in g.axes s (get_or (nodes g s t) j 0)
total_here g s t known codes j h =
    map_at (total_in g.axes (nodes g s t) (own_column g.axes (nodes g s t) s)) (nodes g s t) j h ∙ total-sources g s t known codes (get_or (nodes g s t) j 0) (j, h, refl)
