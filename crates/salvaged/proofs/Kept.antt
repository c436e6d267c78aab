-- The keys that are kept and added: those that hold a valid key of the input, and the root; a tree's keys.
use mathlib.Core.Path.{◌≡◌, refl, sym, ap, ◌∙◌, subst}
use mathlib.Core.Bool.{true}
use mathlib.Core.List.{List, [], ◌∷◌}
use mathlib.Core.Logic.{◌⊎◌, inl, inr}
use Prim.Native.Nat.{ℕ, zero, suc, ◌+◌, ◌*◌, ◌-◌, ◌^◌, ◌≤◌, ◌<◌}
use native.Mathlib.Omega.{arith}
use native.Mathlib.Nat.{not-suc-le-zero, zero-mul}
use lib.Pow.{pow_pos}
use lib.ListN.{length, get_or}
use borrow.Author.Tests.{le-leb, lt-ltb}
use Rattle.slices.specs.Lists.{filter, concat_map, Mem}
use Rattle.slices.proofs.Tests.{both}
use Rattle.slices.proofs.Counts.{here, there}
use Rattle.slices.proofs.Members.{mem-cases, filter-mem, mem-filter}
use Rattle.morton.specs.Keys.{level_of, code_of, axes_known, ValidKey, valid, parent, upwards, ancestors, under}
use Rattle.morton.proofs.Cells.{level-parent}
use Rattle.morton.proofs.Arithmetic.{parent-valid}
use Rattle.morton.proofs.Checks.{valid-facts}
use Rattle.tree.specs.Order.{first, size}
use Rattle.tree.specs.Nodes.{stored}
use Rattle.tree.proofs.Members.{mem-stored}
use Rattle.tree.proofs.Under.{under-self, under-trans}
use Rattle.tree.proofs.Ranges.{parent-under, earlier-at, level-pos}
use Rattle.tree.proofs.Spans.{Earlier, before_of}
use Rattle.tree.proofs.Rules.{Ascending, Tree}
use Rattle.tree.proofs.Stored.{parent-mem}
use Rattle.growth.proofs.Chains.{Chain, chain-at}
use Rattle.growth.proofs.Joined.{concat-mem, mem-concat}
use Rattle.salvaged.specs.Nodes.{put_all, kept_keys}
use Rattle.salvaged.proofs.Put.{all-put, put-all, all-chain, one-order, chain-of}

-- ---- a key's ancestors

module _ (d : ℕ) where
  pub up-valid : (n k : ℕ) → level_of k ≡ n → ValidKey d k → (y : ℕ) → Mem y (upwards n d k) → ValidKey d y
  unfolding upwards
  up-valid zero k e v y m = go (mem-cases y k [] m)
    where
      go : (k ≡ y) ⊎ Mem y [] → ValidKey d y
      go (inl q) = subst (ValidKey d) q v
      go (inr r) = absurd (not-suc-le-zero r.1)
  up-valid (suc n) k e v y m = go (mem-cases y k (upwards n d (parent d k)) m) (up-valid n (parent d k) (level-parent d k ∙ omega arith) (parent-valid d k v (omega arith)) y)
    where
      go : (k ≡ y) ⊎ Mem y (upwards n d (parent d k)) → (Mem y (upwards n d (parent d k)) → ValidKey d y) → ValidKey d y
      go (inl q) rest = subst (ValidKey d) q v
      go (inr r) rest = rest r

  pub up_first : (n k : ℕ) → Mem k (upwards n d k)
  unfolding upwards
  up_first zero k = here k []
  up_first (suc n) k = here k (upwards n d (parent d k))

  -- the parent of each but the root is one
  pub up-parent : (n k : ℕ) → level_of k ≡ n → (y : ℕ) → Mem y (upwards n d k) → 0 < level_of y → Mem (parent d y) (upwards n d k)
  unfolding upwards
  up-parent zero k e y m l = go (mem-cases y k [] m)
    where
      go : (k ≡ y) ⊎ Mem y [] → Mem (parent d y) (k ∷ [])
      go (inl q) = absurd (omega (arith, ap level_of q))
      go (inr r) = absurd (not-suc-le-zero r.1)
  up-parent (suc n) k e y m l = go (mem-cases y k (upwards n d (parent d k)) m) (λ r. up-parent n (parent d k) (level-parent d k ∙ omega arith) y r l)
    where
      go : (k ≡ y) ⊎ Mem y (upwards n d (parent d k)) → (Mem y (upwards n d (parent d k)) → Mem (parent d y) (upwards n d (parent d k))) → Mem (parent d y) (k ∷ upwards n d (parent d k))
      go (inl q) rest = there k (parent d y) (upwards n d (parent d k)) (subst (λ z. Mem (parent d z) (upwards n d (parent d k))) q (up_first n (parent d k)))
      go (inr r) rest = there k (parent d y) (upwards n d (parent d k)) (rest r)

  -- each holds the key
  up-under : (n k : ℕ) → level_of k ≡ n → (y : ℕ) → Mem y (upwards n d k) → under d y k ≡ true
  unfolding upwards
  up-under zero k e y m = go (mem-cases y k [] m)
    where
      go : (k ≡ y) ⊎ Mem y [] → under d y k ≡ true
      go (inl q) = subst (λ z. under d z k ≡ true) q (under-self d k)
      go (inr r) = absurd (not-suc-le-zero r.1)
  up-under (suc n) k e y m = go (mem-cases y k (upwards n d (parent d k)) m) (up-under n (parent d k) (level-parent d k ∙ omega arith) y)
    where
      go : (k ≡ y) ⊎ Mem y (upwards n d (parent d k)) → (Mem y (upwards n d (parent d k)) → under d y (parent d k) ≡ true) → under d y k ≡ true
      go (inl q) rest = subst (λ z. under d z k ≡ true) q (under-self d k)
      go (inr r) rest = under-trans d y (parent d k) k (rest r) (parent-under d k (omega arith))

  -- keys among which each one's parent is hold the ancestors of each
  pub up-within : (keys : List ℕ) → ((k : ℕ) → Mem k keys → 0 < level_of k → Mem (parent d k) keys) → (n k : ℕ) → level_of k ≡ n → Mem k keys → (y : ℕ) → Mem y (upwards n d k) → Mem y keys
  unfolding upwards
  up-within keys up zero k e mk y m = go (mem-cases y k [] m)
    where
      go : (k ≡ y) ⊎ Mem y [] → Mem y keys
      go (inl q) = subst (λ z. Mem z keys) q mk
      go (inr r) = absurd (not-suc-le-zero r.1)
  up-within keys up (suc n) k e mk y m = go (mem-cases y k (upwards n d (parent d k)) m) (up-within keys up n (parent d k) (level-parent d k ∙ omega arith) (up k mk (omega arith)) y)
    where
      go : (k ≡ y) ⊎ Mem y (upwards n d (parent d k)) → (Mem y (upwards n d (parent d k)) → Mem y keys) → Mem y keys
      go (inl q) rest = subst (λ z. Mem z keys) q mk
      go (inr r) rest = rest r

-- ---- the keys of the new tree

root-begins : (d : ℕ) → first d 0 ≡ 0
unfolding first
root-begins d = zero-mul (size d 0)

-- the root, or an ancestor of a valid key of the input
abbrev pub Kept : ℕ → List ℕ → ℕ → Type 0
Kept d key y = (0 ≡ y) ⊎ ((k : ℕ) × Mem k key × (valid d k ≡ true) × Mem y (ancestors d k))

module _ (d : ℕ) (key : List ℕ) where
  abbrev all : List ℕ
  all = 0 ∷ concat_map (ancestors d) (filter (valid d) key)

  pub kept-mem : (y : ℕ) → Kept d key y → Mem y (kept_keys d key)
  unfolding kept_keys
  kept-mem y k = all-put d all y (go k)
    where
      go : Kept d key y → Mem y all
      go (inl e) = (0, omega arith, e)
      go (inr (k, m, v, a)) = there 0 y (concat_map (ancestors d) (filter (valid d) key)) (concat-mem (ancestors d) (filter (valid d) key) k y (filter-mem (valid d) key k m v) a)

  pub mem-kept : (y : ℕ) → Mem y (kept_keys d key) → Kept d key y
  unfolding kept_keys
  mem-kept y m = go (mem-cases y 0 (concat_map (ancestors d) (filter (valid d) key)) (put-all d all y m))
    where
      go : (0 ≡ y) ⊎ Mem y (concat_map (ancestors d) (filter (valid d) key)) → Kept d key y
      go (inl e) = inl e
      go (inr r) =
          let (k, mk, a) = mem-concat (ancestors d) (filter (valid d) key) y r in
          let f = mem-filter (valid d) key k mk in
          inr (k, f.0, f.1, a)

  -- a valid key of the input is kept
  pub valid-kept : (k : ℕ) → Mem k key → valid d k ≡ true → Mem k (kept_keys d key)
  valid-kept k m v = kept-mem k (inr (k, m, v, up_first d (level_of k) k))

  -- and each kept key holds one, but for the root
  pub kept-holds : (y : ℕ) → Mem y (kept_keys d key) → (0 ≡ y) ⊎ ((k : ℕ) × Mem k key × (valid d k ≡ true) × (under d y k ≡ true))
  kept-holds y m = go (mem-kept y m)
    where
      go : Kept d key y → (0 ≡ y) ⊎ ((k : ℕ) × Mem k key × (valid d k ≡ true) × (under d y k ≡ true))
      go (inl e) = inl e
      go (inr (k, mk, v, a)) = inr (k, mk, v, up-under d (level_of k) k refl y a)

  module _ (known : axes_known d ≡ true) where
    good : (k : ℕ) → valid d k ≡ true → ValidKey d k
    good k v = valid-facts d k known v

    root-good : ValidKey d 0
    root-good = good 0 (both (le-leb (level_of 0) 16 (omega arith)) (lt-ltb (code_of 0) (2 ^ (d * level_of 0)) (pow_pos (d * level_of 0))))

    pub kept-good : (y : ℕ) → Mem y (kept_keys d key) → ValidKey d y
    kept-good y m = go (mem-kept y m)
      where
        go : Kept d key y → ValidKey d y
        go (inl e) = subst (ValidKey d) e root-good
        go (inr (k, mk, v, a)) = up-valid d (level_of k) k refl (good k v) y a

    pub kept-chain : Chain (Earlier d) (kept_keys d key)
    unfolding kept_keys
    kept-chain = all-chain d all (λ y m. (kept-good y (all-put d all y m)).level)

    root_in : Mem 0 (kept_keys d key)
    root_in = kept-mem 0 (inl refl)

    pub kept-some : 0 < length (kept_keys d key)
    kept-some = let m = root_in in omega (arith, m.1)

    -- nothing comes before the root
    pub kept-first : get_or (kept_keys d key) 0 0 ≡ 0
    kept-first = go root_in
      where
        go : Mem 0 (kept_keys d key) → get_or (kept_keys d key) 0 0 ≡ 0
        go (zero, l, e) = e
        go (suc i, l, e) =
            let h : Earlier d (get_or (kept_keys d key) 0 0) 0 = subst (Earlier d (get_or (kept_keys d key) 0 0)) e (chain-at (Earlier d) (kept_keys d key) kept-chain 0 (suc i) (omega arith) l) in
            absurd (omega (arith, h.1 (omega (arith, h.0, root-begins d))))

    pub kept-ascending : Ascending d (kept_keys d key)
    kept-ascending = record {
      root = kept-first;
      sound = λ i l. let v = kept-good (get_or (kept_keys d key) i 0) (i, l, refl) in
          both (le-leb (level_of (get_or (kept_keys d key) i 0)) 16 v.level) (lt-ltb (code_of (get_or (kept_keys d key) i 0)) (2 ^ (d * level_of (get_or (kept_keys d key) i 0))) v.code);
      ordered = λ i l. before_of d (get_or (kept_keys d key) i 0) (get_or (kept_keys d key) (suc i) 0) (kept-good (get_or (kept_keys d key) i 0) (i, omega arith, refl)).level (kept-good (get_or (kept_keys d key) (suc i) 0) (suc i, l, refl)).level
          (chain-at (Earlier d) (kept_keys d key) kept-chain i (suc i) (omega arith) l);
    }

    kept-parent : (y : ℕ) → Mem y (kept_keys d key) → 0 < level_of y → Mem (parent d y) (kept_keys d key)
    kept-parent y m l = kept-mem (parent d y) (go (mem-kept y m))
      where
        go : Kept d key y → Kept d key (parent d y)
        go (inl e) = absurd (omega (arith, ap level_of e))
        go (inr (k, mk, v, a)) = inr (k, mk, v, up-parent d (level_of k) k refl y a l)

    pub kept-tree : Tree d (kept_keys d key)
    kept-tree = record {
      ascending = kept-ascending;
      parents = λ i p l. mem-stored (kept_keys d key) (parent d (get_or (kept_keys d key) i 0)) (kept-parent (get_or (kept_keys d key) i 0) (i, l, refl) (level-pos d (kept_keys d key) kept-ascending i p l));
    }

  -- the keys of a tree are kept as they are
  pub tree-kept : Tree d key → 0 < length key → axes_known d ≡ true → kept_keys d key ≡ key
  tree-kept t some known = one-order d (kept_keys d key) key (kept-chain known) (chain-of (Earlier d) key (earlier-at d key t.ascending)) into back
    where
      into : (y : ℕ) → Mem y (kept_keys d key) → Mem y key
      into y m = go (mem-kept y m)
        where
          go : Kept d key y → Mem y key
          go (inl e) = (0, some, t.ascending.root ∙ e)
          go (inr (k, mk, v, a)) = up-within d key (parent-mem d key t.ascending t.parents) (level_of k) k refl mk y a

      back : (y : ℕ) → Mem y key → Mem y (kept_keys d key)
      back y (i, l, e) = valid-kept y (i, l, e) (subst (λ z. valid d z ≡ true) e (t.ascending.sound i l))
