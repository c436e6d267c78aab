-- The stored children of a cell.
use mathlib.Core.Path.{◌≡◌, refl, sym, ap, ◌∙◌, subst}
use mathlib.Core.Bool.{Bool, true, false, ◌&&◌, ◌||◌, cond}
use mathlib.Core.List.{List, [], ◌++◌}
use mathlib.Core.Logic.{◌⊎◌, inl, inr}
use Prim.Native.Nat.{ℕ, zero, suc, ◌+◌, ◌*◌, ◌-◌, ◌^◌, ◌≤◌, ◌<◌}
use native.Mathlib.Omega.{arith}
use native.Mathlib.Nat.{not-suc-le-zero, eq-or-lt_of_le, le_of_suc-le-suc}
use native.Mathlib.Numerals.{add-one}
use lib.Dec.{eqb}
use lib.Pow.{pow_pos}
use borrow.Author.Tests.{ltb-true, eqb-true, eq-eqb}
use Rattle.slices.specs.Lists.{filter, range, Mem}
use Rattle.slices.proofs.Tests.{and_l}
use Rattle.slices.proofs.Counts.{here}
use Rattle.slices.proofs.Members.{mem-cases, mem-filter, filter-mem, mem-map, mem-range}
use Rattle.morton.specs.Keys.{level_of, code_of, axes_known, ValidKey, parent, child, children}
use Rattle.morton.proofs.Checks.{axes-facts}
use Rattle.morton.proofs.Arithmetic.{child-valid}
use Rattle.morton.proofs.Cells.{key-level}
use Rattle.anchors.proofs.Laws.{parent-child}
use Rattle.growth.specs.declared.Rule.{Rule}
use Rattle.growth.specs.Nodes.{splits, kept, kids}

module _ (g : Rule) (s t : List ℕ) where
  pub splits-root : (k : ℕ) → level_of k ≡ 0 → splits g s t k ≡ true
  unfolding splits
  splits-root k e = rw (eq-eqb (level_of k) 0 e)

  -- a cell that splits has children
  pub splits-level : (k : ℕ) → splits g s t k ≡ true → level_of k < 16
  unfolding splits
  splits-level k h = go (eqb (level_of k) 0) _ _ refl h (ltb-true (level_of k) 16)
    where
      go : (b a r : Bool) → eqb (level_of k) 0 ≡ b → (b || (a && r)) ≡ true → (a ≡ true → level_of k < 16) → level_of k < 16
      go true a r e h under = omega (arith, eqb-true (level_of k) 0 e)
      go false a r e h under = under (and_l _ _ h)

  -- a child that is stored
  pub record Kid (k j : ℕ) : Type 0 where
    pub splits-up : splits g s t k ≡ true
    pub its_child : Mem j (children g.axes k)
    pub is-kept : kept g s t j ≡ true

  pub kid-facts : (k j : ℕ) → Mem j (kids g s t k) → Kid k j
  unfolding kids
  kid-facts k j m = go (splits g s t k) refl m
    where
      go : (b : Bool) → splits g s t k ≡ b → Mem j (cond b (filter (kept g s t) (children g.axes k)) []) → Kid k j
      go true e m = let r = mem-filter (kept g s t) (children g.axes k) j m in record { splits-up = e; its_child = r.0; is-kept = r.1 }
      go false e (i, l, _) = absurd (not-suc-le-zero l)

  pub facts-kid : (k j : ℕ) → Kid k j → Mem j (kids g s t k)
  unfolding kids
  facts-kid k j c = rw c.splits-up (filter-mem (kept g s t) (children g.axes k) j c.its_child c.is-kept)

  module _ (known : axes_known g.axes ≡ true) where
    pub record Below (k j : ℕ) : Type 0 where
      pub good : ValidKey g.axes j
      pub level : level_of j ≡ suc (level_of k)
      pub up : parent g.axes j ≡ k

    pub child-below : (k j : ℕ) → ValidKey g.axes k → level_of k < 16 → Mem j (children g.axes k) → Below k j
    child-below k j v h m =
        let r = mem-map (child g.axes k) (range 0 (2 ^ g.axes)) j m in
        let c = mem-range (2 ^ g.axes) r.0 r.1 in
        subst (Below k) r.2 (record {
          good = child-valid g.axes k v h r.0 c;
          level = key-level (level_of k + 1) (code_of k * 2 ^ g.axes + r.0) (omega arith) ∙ add-one (level_of k);
          up = parent-child g.axes k v h r.0 c;
        })

    pub root-good : ValidKey g.axes 0
    root-good = record { some = (axes-facts g.axes known).0; most = (axes-facts g.axes known).1; level = omega arith; code = pow_pos (g.axes * 0) }
