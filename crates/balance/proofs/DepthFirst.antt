-- The cells depth first are the wanted ones.
use mathlib.Core.Path.{◌≡◌, refl, sym, ap, ap₂, ◌∙◌, subst}
use mathlib.Core.Bool.{Bool, true, false, cond}
use mathlib.Core.List.{List, [], ◌∷◌, ◌++◌}
use mathlib.Core.Logic.{◌⊎◌, inl, inr, ⊎_elim}
use Prim.Native.Nat.{ℕ, zero, suc, ◌+◌, ◌-◌, ◌^◌, ◌<◌}
use native.Mathlib.Omega.{arith}
use native.Mathlib.Nat.{not-suc-le-zero}
use Rattle.slices.specs.Lists.{concat_map, range, Mem, Distinct}
use Rattle.slices.proofs.Counts.{here, there}
use Rattle.slices.proofs.Members.{mem-cases, distinct_cons, distinct-rest, distinct_head, map-distinct, range-distinct}
use Rattle.slices.proofs.Tests.{clash}
use Rattle.morton.specs.Keys.{key, level_of, code_of, above, parent, child, children, under}
use Rattle.morton.proofs.Cells.{level-parent, key-parts}
use Rattle.growth.proofs.Joined.{concat-mem, mem-concat, mem-append}
use Rattle.tree.proofs.Sourced.{under-facts, under-self, under-trans, child-under}
use Rattle.balance.specs.Balance.{Tree}
use Rattle.balance.specs.Splitting.{must_split, wanted, cells_from, balanced_cells, Wanted}
use Rattle.balance.proofs.Cells.{Child, child-facts, its_child, in-children, root-only}
use Rattle.balance.proofs.Wanted.{wanted-root, wanted-sound, wanted-deep, wanted-parent, wanted-child, must-shallow}

module _ (d : ℕ) (keys : List ℕ) (t : Tree d keys) where
  first : (n k : ℕ) → Mem k (cells_from d keys n k)
  unfolding cells_from
  first zero k = here k []
  first (suc n) k = here k (cond (must_split d keys k) (concat_map (cells_from d keys n) (children d k)) [])

  -- only wanted cells
  pub are-wanted : (n k : ℕ) → wanted d keys k ≡ true → (c : ℕ) → Mem c (cells_from d keys n k) → wanted d keys c ≡ true
  unfolding cells_from
  are-wanted zero k h c m = go (mem-cases c k [] m)
    where
      go : (k ≡ c) ⊎ Mem c [] → wanted d keys c ≡ true
      go (inl e) = subst (λ (x : ℕ). wanted d keys x ≡ true) e h
      go (inr (i, l, e)) = absurd (not-suc-le-zero l)
  are-wanted (suc n) k h c m = go (mem-cases c k (cond (must_split d keys k) (concat_map (cells_from d keys n) (children d k)) []) m) (are-wanted n)
    where
      down : ((b : ℕ) → wanted d keys b ≡ true → (c : ℕ) → Mem c (cells_from d keys n b) → wanted d keys c ≡ true)
          → (s : Bool) → must_split d keys k ≡ s → Mem c (cond s (concat_map (cells_from d keys n) (children d k)) []) → wanted d keys c ≡ true
      down rest true s m =
          let (b, mb, mc) = mem-concat (cells_from d keys n) (children d k) c m in
          rest b (wanted-child d keys t k b s (child-facts d k b (wanted-sound d keys t k h) (must-shallow d keys t k s) mb)) c mc
      down rest false s (i, l, e) = absurd (not-suc-le-zero l)

      go : (k ≡ c) ⊎ Mem c (cond (must_split d keys k) (concat_map (cells_from d keys n) (children d k)) [])
          → ((b : ℕ) → wanted d keys b ≡ true → (c : ℕ) → Mem c (cells_from d keys n b) → wanted d keys c ≡ true) → wanted d keys c ≡ true
      go (inl e) rest = subst (λ (x : ℕ). wanted d keys x ≡ true) e h
      go (inr m) rest = down rest (must_split d keys k) refl m

  -- and with a cell that must be split its children
  go_on : (n r k c : ℕ) → wanted d keys r ≡ true → Mem k (cells_from d keys n r) → level_of k < level_of r + n → must_split d keys k ≡ true → Mem c (children d k) → Mem c (cells_from d keys n r)
  unfolding cells_from
  go_on zero r k c w m l h mc = go (mem-cases k r [] m)
    where
      go : (r ≡ k) ⊎ Mem k [] → Mem c (cells_from d keys 0 r)
      go (inl e) = absurd (omega (arith, ap level_of e))
      go (inr (i, o, e)) = absurd (not-suc-le-zero o)
  go_on (suc n) r k c w m l h mc = at_once (mem-cases k r (cond (must_split d keys r) (concat_map (cells_from d keys n) (children d r)) []) m) (λ b wb lb mb. go_on n b k c wb mb lb h mc)
    where
      later : ((b : ℕ) → wanted d keys b ≡ true → level_of k < level_of b + n → Mem k (cells_from d keys n b) → Mem c (cells_from d keys n b))
          → (s : Bool) → must_split d keys r ≡ s → Mem k (cond s (concat_map (cells_from d keys n) (children d r)) [])
          → Mem c (cond s (concat_map (cells_from d keys n) (children d r)) [])
      later rest true s m =
          let (b, mb, mk) = mem-concat (cells_from d keys n) (children d r) k m in
          let f = child-facts d r b (wanted-sound d keys t r w) (must-shallow d keys t r s) mb in
          concat-mem (cells_from d keys n) (children d r) b c mb (rest b (wanted-child d keys t r b s f) (omega (arith, f.level)) mk)
      later rest false s (i, o, e) = absurd (not-suc-le-zero o)

      now : r ≡ k → (s : Bool) → must_split d keys r ≡ s → Mem c (cond s (concat_map (cells_from d keys n) (children d r)) [])
      now e true s = concat-mem (cells_from d keys n) (children d r) c c (subst (λ (x : ℕ). Mem c (children d x)) (sym e) mc) (first n c)
      now e false s = absurd (clash h (subst (λ (x : ℕ). must_split d keys x ≡ false) e s))

      at_once : (r ≡ k) ⊎ Mem k (cond (must_split d keys r) (concat_map (cells_from d keys n) (children d r)) [])
          → ((b : ℕ) → wanted d keys b ≡ true → level_of k < level_of b + n → Mem k (cells_from d keys n b) → Mem c (cells_from d keys n b))
          → Mem c (r ∷ cond (must_split d keys r) (concat_map (cells_from d keys n) (children d r)) [])
      at_once (inl e) rest = there r c (cond (must_split d keys r) (concat_map (cells_from d keys n) (children d r)) []) (now e (must_split d keys r) refl)
      at_once (inr m) rest = there r c (cond (must_split d keys r) (concat_map (cells_from d keys n) (children d r)) []) (later rest (must_split d keys r) refl m)

  all_wanted : (l k : ℕ) → level_of k ≡ l → wanted d keys k ≡ true → Mem k (cells_from d keys 16 0)
  all_wanted zero k e h = subst (λ (x : ℕ). Mem x (cells_from d keys 16 0)) (sym (root-only d k (wanted-sound d keys t k h) e)) (first 16 0)
  all_wanted (suc l) k e h =
      let p : 0 < level_of k = omega arith in
      let b = wanted-deep d keys t k h p in
      let v = wanted-sound d keys t k h in
      let w = wanted-parent d keys t k h p in
      let e' : level_of (parent d k) ≡ l = level-parent d k ∙ omega arith in
      go_on 16 0 (parent d k) k (wanted-root d keys) (all_wanted l (parent d k) e' w) (omega (arith, v.level)) b.must
      (in-children d (parent d k) k (wanted-sound d keys t (parent d k) w) v.level p refl)

  pub depth-first : Wanted d keys (balanced_cells d keys)
  unfolding balanced_cells
  depth-first k = (are-wanted 16 0 (wanted-root d keys) k, all_wanted (level_of k) k refl)

module _ (d : ℕ) (keys : List ℕ) (t : Tree d keys) where
  -- a listed cell lies in the one that the list begins with
  pub lies-under : (n k : ℕ) → wanted d keys k ≡ true → (c : ℕ) → Mem c (cells_from d keys n k) → under d k c ≡ true
  unfolding cells_from
  lies-under zero k h c m = go (mem-cases c k [] m)
    where
      go : (k ≡ c) ⊎ Mem c [] → under d k c ≡ true
      go (inl e) = subst (λ (x : ℕ). under d k x ≡ true) e (under-self d k)
      go (inr (i, l, e)) = absurd (not-suc-le-zero l)
  lies-under (suc n) k h c m = go (mem-cases c k (cond (must_split d keys k) (concat_map (cells_from d keys n) (children d k)) []) m) (lies-under n)
    where
      down : ((b : ℕ) → wanted d keys b ≡ true → (c : ℕ) → Mem c (cells_from d keys n b) → under d b c ≡ true)
          → (s : Bool) → must_split d keys k ≡ s → Mem c (cond s (concat_map (cells_from d keys n) (children d k)) []) → under d k c ≡ true
      down rest true s m =
          let (b, mb, mc) = mem-concat (cells_from d keys n) (children d k) c m in
          let f = child-facts d k b (wanted-sound d keys t k h) (must-shallow d keys t k s) mb in
          under-trans d k b c (child-under d k b (its_child d k b (omega (arith, f.level)) f.parent_is)) (rest b (wanted-child d keys t k b s f) c mc)
      down rest false s (i, l, e) = absurd (not-suc-le-zero l)

      go : (k ≡ c) ⊎ Mem c (cond (must_split d keys k) (concat_map (cells_from d keys n) (children d k)) [])
          → ((b : ℕ) → wanted d keys b ≡ true → (c : ℕ) → Mem c (cells_from d keys n b) → under d b c ≡ true) → under d k c ≡ true
      go (inl e) rest = subst (λ (x : ℕ). under d k x ≡ true) e (under-self d k)
      go (inr m) rest = down rest (must_split d keys k) refl m
