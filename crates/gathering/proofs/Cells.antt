-- The cells that hold a valid key, in numbers of the machine; each is one of its ancestors.
use mathlib.Core.Path.{◌≡◌, refl, sym, ap, ◌∙◌, subst}
use Prim.Native.Nat.{ℕ, zero, suc, ◌+◌, ◌*◌, ◌-◌, ◌/◌, ◌^◌, ◌≤◌, ◌<◌}
use native.Mathlib.Omega.{arith}
use native.Mathlib.Nat.{mul-le-mul, div-eq_of_lt, div-le_self}
use lib.Pow.{pow_mono}
use Rattle.slices.specs.Lists.{Mem}
use Rattle.morton.specs.Keys.{key, level_of, code_of, above, ValidKey, ancestors}
use Rattle.morton.proofs.Cells.{at_self, parent-at, level_begins}
use Rattle.tree.specs.Nodes.{cell_at}
use Rattle.salvaged.proofs.Kept.{up_first, up-parent}

module _ (d l k : ℕ) (v : ValidKey d k) where
  pub shift_fits : d * (level_of k - l) ≤ 48
  shift_fits = mul-le-mul {n₁ = d} {m₁ = level_of k - l} {n₂ = 3} {m₂ = 16} v.most (omega (arith, v.level))

  pub code_fits : code_of k / 2 ^ (d * (level_of k - l)) < 2 ^ 48
  code_fits =
      let a : d * level_of k ≤ 48 = mul-le-mul {n₁ = d} {m₁ = level_of k} {n₂ = 3} {m₂ = 16} v.most v.level in
      omega (arith, v.code, pow_mono {i = d * level_of k} {j = 48} a, div-le_self (code_of k) (2 ^ (d * (level_of k - l))))

-- the cell of level 0 is the root
pub root-cell : (d k : ℕ) → ValidKey d k → cell_at d 0 k ≡ 0
root-cell d k v =
    let z : above d (level_of k) (code_of k) ≡ 0 = div-eq_of_lt {n = code_of k} {m = 2 ^ (d * level_of k)} v.code in
    let e : level_of k - 0 ≡ level_of k = omega arith in
    ap (key 0) (ap (λ n. above d n (code_of k)) e ∙ z)

pub cell-up : (d k m l : ℕ) → l + m ≡ level_of k → Mem (cell_at d l k) (ancestors d k)
cell-up d k zero l e =
    let f : level_of k ≡ l = omega arith in
    subst (λ x. Mem (cell_at d x k) (ancestors d k)) f (subst (λ x. Mem x (ancestors d k)) (sym (at_self d k)) (up_first d (level_of k) k))
cell-up d k (suc m) l e =
    let r = cell-up d k m (suc l) (omega arith) in
    subst (λ x. Mem x (ancestors d k)) (parent-at d l k (omega arith)) (up-parent d (level_of k) k refl (cell_at d (suc l) k) r (omega (arith, level_begins d (suc l) k (omega arith))))
