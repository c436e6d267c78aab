-- The nodes by level, as they were numbered before order 10: valid keys, strictly ascending by level then code, the first 0, each other's parent among them.
use mathlib.Core.Path.{◌≡◌, refl, sym, ap, ◌∙◌, subst}
use mathlib.Core.Bool.{Bool, true, false, cond}
use mathlib.Core.List.{List, [], ◌∷◌, ◌++◌, map}
use mathlib.Core.Logic.{◌⊎◌, inl, inr}
use Prim.Native.Nat.{ℕ, zero, suc, ◌+◌, ◌*◌, ◌^◌, ◌≤◌, ◌<◌}
use native.Mathlib.Omega.{arith}
use native.Mathlib.Decide.{dec_lt}
use native.Mathlib.Nat.{mul-zero, mul-le-mul_right, suc-mul, not-suc-le-zero, le_of_suc-le-suc}
use lib.ListN.{length, get_or, length-append, get_or-append}
use borrow.Author.Tests.{le-leb, lt-ltb}
use Rattle.slices.specs.Lists.{filter, concat_map, range, Mem, Distinct}
use Rattle.slices.proofs.Tests.{both}
use Rattle.slices.proofs.Counts.{here, there}
use Rattle.slices.proofs.Lists.{length-range, get_or-range}
use Rattle.slices.proofs.Members.{mem-filter, mem-map, mem-range}
use Rattle.morton.specs.Keys.{level_of, code_of, axes_known, parent, child, children}
use Rattle.morton.proofs.Cells.{key-code}
use Rattle.tree.specs.Nodes.{stored}
use Rattle.tree.proofs.ByLevel.{Ascending, Earlier, before_of}
use Rattle.tree.proofs.Members.{mem-stored}
use Rattle.growth.proofs.Chains.{Chain, chain-append, chain-filter, chain-concat, chain-at}
use Rattle.growth.specs.declared.Rule.{Rule}
use Rattle.growth.specs.Nodes.{splits, kept, kids}
use Rattle.growth.specs.ByLevel.{cells_at, nodes_to, nodes_by_level}
use Rattle.growth.proofs.Kids.{kid-facts, splits-level}
use Rattle.growth.proofs.Cells.{cell-facts, mem-to, level-good, level-up}

module _ (d k : ℕ) (h : level_of k < 16) where
  child-level : (c : ℕ) → level_of (child d k c) ≡ suc (level_of k)
  child-level c = omega arith

  child-code : (c : ℕ) → code_of (child d k c) ≡ code_of k * 2 ^ d + c
  child-code c = key-code (level_of k + 1) (code_of k * 2 ^ d + c) (omega arith)

  pub children-rows : (a n : ℕ) → Chain Earlier (map (child d k) (range a n))
  unfolding Chain range
  children-rows a zero = tt
  children-rows a (suc n) = (λ y m. go y (mem-map (child d k) (range (suc a) n) y m), children-rows (suc a) n)
    where
      go : (y : ℕ) → (c : ℕ) × Mem c (range (suc a) n) × (child d k c ≡ y) → Earlier (child d k a) y
      go y (c, (i, l, e), q) =
          let less : a < c = omega (arith, get_or-range (suc a) n i (omega (arith, length-range (suc a) n)), e) in
          subst (Earlier (child d k a)) q (omega (arith, child-level a, child-level c), λ _. omega (arith, child-code a, child-code c))

-- the children of a cell come before those of a later one of its level
cousins : (d x y a b : ℕ) → level_of x < 16 → level_of x ≡ level_of y → Earlier x y → Mem a (children d x) → Mem b (children d y) → Earlier a b
cousins d x y a b h l e ma mb =
    let r = mem-map (child d x) (range 0 (2 ^ d)) a ma in
    let q = mem-map (child d y) (range 0 (2 ^ d)) b mb in
    let few = mem-range (2 ^ d) r.0 r.1 in
    let hy : level_of y < 16 = omega arith in
    let less : suc (code_of x) * 2 ^ d ≤ code_of y * 2 ^ d = mul-le-mul_right (2 ^ d) (e.1 l) in
    let la : level_of a ≡ suc (level_of x) = ap level_of (sym r.2) ∙ child-level d x h r.0 in
    let lb : level_of b ≡ suc (level_of y) = ap level_of (sym q.2) ∙ child-level d y hy q.0 in
    let ca : code_of a ≡ code_of x * 2 ^ d + r.0 = ap code_of (sym r.2) ∙ child-code d x h r.0 in
    let cb : code_of b ≡ code_of y * 2 ^ d + q.0 = ap code_of (sym q.2) ∙ child-code d y hy q.0 in
    (omega arith, λ _. omega (arith, few, less, ca, cb, suc-mul (code_of x) (2 ^ d)))

module _ (g : Rule) (s t : List ℕ) (known : axes_known g.axes ≡ true) where
  kids-rows : (k : ℕ) → Chain Earlier (kids g s t k)
  unfolding kids Chain
  kids-rows k = go (splits g s t k) refl
    where
      go : (b : Bool) → splits g s t k ≡ b → Chain Earlier (cond b (filter (kept g s t) (children g.axes k)) [])
      go true e = chain-filter Earlier (kept g s t) (children g.axes k) (children-rows g.axes k (splits-level g s t k e) 0 (2 ^ g.axes))
      go false e = unfold Chain in tt

  kids-order : (l x y a b : ℕ) → Mem x (cells_at g s t l) → Mem y (cells_at g s t l) → Earlier x y → Mem a (kids g s t x) → Mem b (kids g s t y) → Earlier a b
  kids-order l x y a b mx my e ma mb =
      let p = kid-facts g s t x a ma in
      let q = kid-facts g s t y b mb in
      cousins g.axes x y a b (splits-level g s t x p.splits-up) ((cell-facts g s t known l x mx).0 ∙ sym (cell-facts g s t known l y my).0) e p.its_child q.its_child

  cells-rows : (l : ℕ) → Chain Earlier (cells_at g s t l)
  unfolding cells_at Chain
  cells-rows zero = (λ y m. absurd (not-suc-le-zero m.1), tt)
  cells-rows (suc l) = chain-concat Earlier Earlier (kids g s t) (cells_at g s t l) (cells-rows l) (λ x m. kids-rows x) (λ x y a b. kids-order l x y a b)

  to-rows : (n : ℕ) → Chain Earlier (nodes_to g s t n)
  unfolding nodes_to
  to-rows zero = cells-rows 0
  to-rows (suc n) = chain-append Earlier (nodes_to g s t n) (cells_at g s t (suc n)) (to-rows n) (cells-rows (suc n)) levels
    where
      levels : (x y : ℕ) → Mem x (nodes_to g s t n) → Mem y (cells_at g s t (suc n)) → Earlier x y
      levels x y mx my =
          let r = mem-to g s t known n x mx in
          let lx = (cell-facts g s t known r.0 x r.2).0 in
          let ly = (cell-facts g s t known (suc n) y my).0 in
          (omega (arith, r.1, lx, ly), λ e. absurd (omega (arith, r.1, lx, ly)))

  pub level-rows : Chain Earlier (nodes_by_level g s t)
  unfolding nodes_by_level
  level-rows = to-rows 16

  first : (n : ℕ) → (0 < length (nodes_to g s t n)) × (get_or (nodes_to g s t n) 0 0 ≡ 0)
  unfolding nodes_to cells_at
  first zero = (omega arith, refl)
  first (suc n) =
      let r = first n in
      (omega (arith, r.0, length-append (nodes_to g s t n) (cells_at g s t (suc n))), get_or-append (nodes_to g s t n) (cells_at g s t (suc n)) 0 0 r.0 ∙ r.1)

  -- the first node is the root
  pub level-some : 0 < length (nodes_by_level g s t)
  unfolding nodes_by_level
  level-some = (first 16).0

  pub level-first : get_or (nodes_by_level g s t) 0 0 ≡ 0
  unfolding nodes_by_level
  level-first = (first 16).1

  pub level-ascending : Ascending g.axes (nodes_by_level g s t)
  level-ascending = record {
    root = level-first;
    sound = λ i l. let v = level-good g s t known (get_or (nodes_by_level g s t) i 0) (i, l, refl) in
        both (le-leb (level_of (get_or (nodes_by_level g s t) i 0)) 16 v.level) (lt-ltb (code_of (get_or (nodes_by_level g s t) i 0)) (2 ^ (g.axes * level_of (get_or (nodes_by_level g s t) i 0))) v.code);
    ordered = λ i l. before_of (get_or (nodes_by_level g s t) i 0) (get_or (nodes_by_level g s t) (suc i) 0) (chain-at Earlier (nodes_by_level g s t) level-rows i (suc i) (omega arith) l);
  }

  -- no key stands twice
  pub level-distinct : Distinct (nodes_by_level g s t)
  level-distinct i j li lj e = go (dec_lt i j) (dec_lt j i)
    where
      go : Dec (i < j) → Dec (j < i) → i ≡ j
      go (yes l) _ = absurd (omega (arith, (chain-at Earlier (nodes_by_level g s t) level-rows i j l lj).1 (ap level_of e), ap code_of e))
      go (no n) (yes l) = absurd (omega (arith, (chain-at Earlier (nodes_by_level g s t) level-rows j i l li).1 (sym (ap level_of e)), ap code_of e))
      go (no n) (no m) = omega arith

  -- only the first node is of level 0
  pub later-level : (i : ℕ) → 0 < i → i < length (nodes_by_level g s t) → 0 < level_of (get_or (nodes_by_level g s t) i 0)
  later-level i p l = go (dec_lt 0 (level_of (get_or (nodes_by_level g s t) i 0)))
    where
      go : Dec (0 < level_of (get_or (nodes_by_level g s t) i 0)) → 0 < level_of (get_or (nodes_by_level g s t) i 0)
      go (yes h) = h
      go (no n) =
          let z : level_of (get_or (nodes_by_level g s t) i 0) ≡ 0 = omega arith in
          let c = rw (z, mul-zero) at (level-good g s t known (get_or (nodes_by_level g s t) i 0) (i, l, refl)).code in
          let e = chain-at Earlier (nodes_by_level g s t) level-rows 0 i p l in
          absurd (omega (arith, e.1 (ap level_of level-first ∙ sym z), c))

  pub level-parents : (i : ℕ) → 0 < i → i < length (nodes_by_level g s t) → stored (nodes_by_level g s t) (parent g.axes (get_or (nodes_by_level g s t) i 0)) ≡ true
  level-parents i p l =
      let k = get_or (nodes_by_level g s t) i 0 in
      mem-stored (nodes_by_level g s t) (parent g.axes k) (level-up g s t known k (i, l, refl) (later-level i p l)).0
