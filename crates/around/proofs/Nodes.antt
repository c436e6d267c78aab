-- The nodes of a sound tree by number: valid keys, what they own, and their order within one level.
use mathlib.Core.Path.{◌≡◌, refl, sym, ap, ◌∙◌, subst}
use mathlib.Core.Bool.{true, false, not}
use mathlib.Core.List.{List}
use Prim.Native.Nat.{ℕ, suc, ◌*◌, ◌-◌, ◌^◌, ◌≤◌, ◌<◌}
use native.Mathlib.Omega.{arith}
use native.Mathlib.Nat.{mul-zero, mul-le-mul_right}
use native.Mathlib.Decide.{dec_lt}
use lib.Dec.{ltb, eqb}
use lib.ListN.{length, get_or}
use borrow.Author.Tests.{ltb-true, eqb-true, lt-ltb, eq-eqb}
use Rattle.slices.specs.Lists.{any, Mem, Distinct}
use Rattle.slices.proofs.Tests.{and_l, and_r, both, clash, refute}
use Rattle.morton.specs.Keys.{level_of, code_of, parent, under, ValidKey}
use Rattle.morton.proofs.Cells.{level-parent}
use Rattle.tree.specs.Nodes.{child_of, leaf, own_of, sourced, stored}
use Rattle.tree.specs.Order.{end_of, first, size}
use Rattle.tree.specs.WellFormed.{SoundTree}
use Rattle.tree.proofs.Rules.{Tree, WellFormed, facts}
use Rattle.tree.proofs.Ends.{ends}
use Rattle.tree.proofs.Ranges as R
use Rattle.tree.proofs.Laws.{first-child, child-next}
use Rattle.tree.proofs.Stored.{own_at, sourced-by, code_lt}
use Rattle.tree.proofs.Sourced.{under-self}
use Rattle.links.specs.Links.{inner}

pub child-level : (d k x : ℕ) → child_of d k x ≡ true → level_of x ≡ suc (level_of k)
child-level d k x h =
    let p = ltb-true 0 (level_of x) (and_l _ _ h) in
    let e = eqb-true (parent d x) k (and_r (ltb 0 (level_of x)) _ h) in
    omega (arith, sym (ap level_of e) ∙ level-parent d x)

module _ (d : ℕ) (keys own : List ℕ) (t : SoundTree d keys own) where
  pub well : WellFormed d keys own t.begin
  well = facts d keys own t.begin t.sound

  pub tree_of : Tree d keys
  tree_of = record { ascending = well.ascending; parents = well.parents }

  pub alone : Distinct keys
  alone = R.distinct d keys well.ascending

  pub node-valid : (i : ℕ) → i < length keys → ValidKey d (get_or keys i 0)
  node-valid i l = record { some = t.some; most = t.most; level = R.level-le d keys well.ascending i l; code = R.code_lt d keys well.ascending i l }

  pub own_count : (i : ℕ) → i < length keys → own_of keys own (get_or keys i 0) ≡ get_or own i 0
  own_count = own_at keys own alone well.owns

  -- an owner is sourced
  pub own-sourced : (x : ℕ) → Mem x keys → ltb 0 (own_of keys own x) ≡ true → sourced d keys own x ≡ true
  own-sourced x m h = sourced-by d keys own x x m (ltb-true 0 (own_of keys own x) h) (under-self d x)

  -- only the root is of level 0
  pub only-root : (x : ℕ) → Mem x keys → level_of x ≡ 0 → x ≡ 0
  only-root x m e =
      let c : code_of x < 2 ^ (d * 0) = subst (λ l. code_of x < 2 ^ (d * l)) e (code_lt d keys well.ascending x m) in
      omega (arith, e, rw mul-zero at c)

  -- nodes of one level ascend by key
  pub level-ascends : (i j : ℕ) → i < j → j < length keys → level_of (get_or keys i 0) ≡ level_of (get_or keys j 0) → get_or keys i 0 < get_or keys j 0
  unfolding first size
  level-ascends i j h l e =
      let (low, same) = R.earlier-at d keys well.ascending i j h l in
      go low same (dec_lt (code_of (get_or keys i 0)) (code_of (get_or keys j 0)))
    where
      w : ℕ
      w = 2 ^ (d * (16 - level_of (get_or keys j 0)))

      go : code_of (get_or keys i 0) * 2 ^ (d * (16 - level_of (get_or keys i 0))) ≤ code_of (get_or keys j 0) * w
          → (code_of (get_or keys i 0) * 2 ^ (d * (16 - level_of (get_or keys i 0))) ≡ code_of (get_or keys j 0) * w → level_of (get_or keys i 0) < level_of (get_or keys j 0))
          → Dec (code_of (get_or keys i 0) < code_of (get_or keys j 0)) → get_or keys i 0 < get_or keys j 0
      go low same (yes c) = omega (arith, e, c)
      go low same (no c) =
          let z : code_of (get_or keys i 0) * 2 ^ (d * (16 - level_of (get_or keys i 0))) ≡ code_of (get_or keys i 0) * w = ap (λ n. code_of (get_or keys i 0) * 2 ^ (d * (16 - n))) e in
          let up : code_of (get_or keys j 0) * w ≤ code_of (get_or keys i 0) * w = mul-le-mul_right {m = code_of (get_or keys j 0)} {n = code_of (get_or keys i 0)} w (omega arith) in
          absurd (omega (arith, e, same (omega (arith, low, up, z))))

  -- all under a node comes before later nodes of its level
  pub level-ends : (i j : ℕ) → i < j → j < length keys → level_of (get_or keys i 0) ≡ level_of (get_or keys j 0) → end_of keys i ≤ j
  level-ends i j h l e = go (dec_lt j (end_of keys i))
    where
      go : Dec (j < end_of keys i) → end_of keys i ≤ j
      go (no n) = omega arith
      go (yes s) = absurd (omega (arith, e, (ends keys i (omega arith)).deeper j h s))

  -- ---- nodes with children
  pub child-inner : (i x : ℕ) → i < length keys → Mem x keys → child_of d (get_or keys i 0) x ≡ true → inner keys i ≡ true
  child-inner i x l m h =
      let (s, deep) = child-next d keys tree_of i x l m h in
      both (lt-ltb (suc i) (length keys) s) (lt-ltb (level_of (get_or keys i 0)) (level_of (get_or keys (suc i) 0)) deep)

  pub inner-child : (i : ℕ) → i < length keys → inner keys i ≡ true → child_of d (get_or keys i 0) (get_or keys (suc i) 0) ≡ true
  inner-child i l h =
      let s = ltb-true (suc i) (length keys) (and_l _ _ h) in
      let deep = ltb-true (level_of (get_or keys i 0)) (level_of (get_or keys (suc i) 0)) (and_r (ltb (suc i) (length keys)) _ h) in
      both (lt-ltb 0 (level_of (get_or keys (suc i) 0)) (omega arith)) (eq-eqb (parent d (get_or keys (suc i) 0)) (get_or keys i 0) (first-child d keys tree_of i s deep))

  -- they own nothing
  pub inner-none : (i : ℕ) → i < length keys → inner keys i ≡ true → own_of keys own (get_or keys i 0) ≡ 0
  inner-none i l h = own_count i l ∙ well.inner i l (refute (λ f. clash (Rattle.slices.proofs.Counts.any-intro (child_of d (get_or keys i 0)) keys (get_or keys (suc i) 0) (suc i, ltb-true (suc i) (length keys) (and_l _ _ h), refl) (inner-child i l h)) (none f)))
    where
      none : leaf d keys (get_or keys i 0) ≡ true → any (child_of d (get_or keys i 0)) keys ≡ false
      none f = unfold leaf in (borrow.Author.Tests.not-true _ (and_r (not (eqb (get_or keys i 0) 0)) _ (and_r (stored keys (get_or keys i 0)) _ f)))

  -- a sourced node without children owns sources
  pub leaf-owns : (i : ℕ) → i < length keys → inner keys i ≡ false → sourced d keys own (get_or keys i 0) ≡ true → ltb 0 (own_of keys own (get_or keys i 0)) ≡ true
  leaf-owns i l h so =
      let (x, m, u, o) = Rattle.tree.proofs.Sourced.sourced-facts d keys own (get_or keys i 0) so in
      go x m u o (dec_lt (level_of (get_or keys i 0)) (level_of x))
    where
      go : (x : ℕ) → Mem x keys → under d (get_or keys i 0) x ≡ true → 0 < own_of keys own x → Dec (level_of (get_or keys i 0) < level_of x) → ltb 0 (own_of keys own (get_or keys i 0)) ≡ true
      go x m u o (no n) = lt-ltb 0 (own_of keys own (get_or keys i 0)) (subst (λ y. 0 < own_of keys own y) (R.same-level d (get_or keys i 0) x u (omega arith)) o)
      go x m u o (yes deep) =
          let (ch, _) = Rattle.tree.proofs.Sourced.child-at d (get_or keys i 0) x u deep in
          let mem = Rattle.tree.proofs.Stored.above-mem d keys well.ascending well.parents x (suc (level_of (get_or keys i 0))) m deep in
          absurd (clash (child-inner i _ l mem ch) h)
