-- The halving search for a key, in Z order.
use mathlib.Core.Path.{◌≡◌, refl, sym, ap, ◌∙◌, subst}
use mathlib.Core.Bool.{Bool, true, false}
use mathlib.Core.List.{List}
use mathlib.Core.Logic.{◌⊎◌, inl, inr}
use Prim.Native.Nat.{ℕ, suc, ◌+◌, ◌-◌, ◌≤◌, ◌<◌}
use native.Mathlib.Omega.{arith}
use native.Mathlib.Nat.{eq-or-lt_of_le}
use native.Mathlib.Decide.{dec_lt}
use lib.Dec.{ltb}
use lib.ListN.{length, get_or}
use borrow.Author.Tests.{lt-ltb, le-ltb, ltb-true}
use Rattle.slices.specs.Lists.{Mem}
use Rattle.slices.proofs.Tests.{clash, refute}
use Rattle.morton.specs.Keys.{level_of}
use Rattle.tree.specs.Nodes.{stored}
use Rattle.tree.proofs.Members.{stored-mem}
use Rattle.tree.specs.Order.{before}
use Rattle.tree.specs.WellFormed.{keys_ascend}
use Rattle.tree.specs.Finding.{FirstFrom}
use Rattle.tree.proofs.Spans.{earlier, before_of, earlier-trans, earlier-not}
use Rattle.tree.proofs.Rules.{Ascending, ascend-facts}
use Rattle.tree.proofs.Ranges.{level-le, earlier-at}

-- those before a node before k come before k; and those after a node not before k do not
module _ (d : ℕ) (keys : List ℕ) (asc : Ascending d keys) (k : ℕ) (lk : level_of k ≤ 16) where
  below : (j m : ℕ) → j ≤ m → m < length keys → before d (get_or keys m 0) k ≡ true → before d (get_or keys j 0) k ≡ true
  below j m h l b = go (eq-or-lt_of_le h)
    where
      go : (j ≡ m) ⊎ (j < m) → before d (get_or keys j 0) k ≡ true
      go (inl e) = rw e b
      go (inr n) =
          let lj : j < length keys = omega arith in
          before_of d (get_or keys j 0) k (level-le d keys asc j lj) lk
          (earlier-trans d (get_or keys j 0) (get_or keys m 0) k (earlier-at d keys asc j m n l) (earlier d (get_or keys m 0) k (level-le d keys asc m l) lk b))

  above : (m j : ℕ) → m ≤ j → j < length keys → before d (get_or keys m 0) k ≡ false → before d (get_or keys j 0) k ≡ false
  above m j h l b = refute (λ t. clash (below m j h l t) b)

pub record Split (d : ℕ) (keys : List ℕ) (k low high : ℕ) : Type 0 where
  pub apart : low ≤ high
  pub most : high ≤ length keys
  pub lows : keys_ascend d keys ≡ true → level_of k ≤ 16 → (j : ℕ) → j < low → before d (get_or keys j 0) k ≡ true
  pub highs : keys_ascend d keys ≡ true → level_of k ≤ 16 → (j : ℕ) → high ≤ j → j < length keys → before d (get_or keys j 0) k ≡ false

module _ (d : ℕ) (keys : List ℕ) (k : ℕ) where
  pub split-start : Split d keys k 0 (length keys)
  split-start = record { apart = omega arith; most = omega arith; lows = λ a l j h. absurd (omega arith); highs = λ a l j h g. absurd (omega arith) }

  pub split-low : (low high m : ℕ) → Split d keys k low high → m < high → before d (get_or keys m 0) k ≡ true → Split d keys k (m + 1) high
  split-low low high m s h b = record {
    apart = omega arith;
    most = s.most;
    lows = λ a l j g. below d keys (ascend-facts d keys a) k l j m (omega arith) (omega (arith, s.most)) b;
    highs = s.highs;
  }

  pub split-high : (low high m : ℕ) → Split d keys k low high → low ≤ m → m < high → before d (get_or keys m 0) k ≡ false → Split d keys k low m
  split-high low high m s h g b = record {
    apart = h;
    most = omega (arith, s.most);
    lows = s.lows;
    highs = λ a l j p q. above d keys (ascend-facts d keys a) k l m j p q b;
  }

  pub split_done : (low high : ℕ) → Split d keys k low high → high ≤ low → FirstFrom d keys k low
  split_done low high s h = record {
    within = omega (arith, s.apart, s.most);
    splits = λ a l j g. go a l j g (dec_lt j low);
  }
    where
      go : keys_ascend d keys ≡ true → level_of k ≤ 16 → (j : ℕ) → j < length keys → Dec (j < low) → before d (get_or keys j 0) k ≡ ltb j low
      go a l j g (yes p) = s.lows a l j p ∙ sym (lt-ltb j low p)
      go a l j g (no n) = s.highs a l j (omega arith) g ∙ sym (le-ltb j low (omega arith))

  -- nothing is found: the first node that does not come before k is not k, or there is none
  pub none-stored : (r : ℕ) → FirstFrom d keys k r → (r < length keys → get_or keys r 0 ≡ k → ⊥) → keys_ascend d keys ≡ true → stored keys k ≡ false
  none-stored r f n a = refute (λ s. found (stored-mem keys k s))
    where
      asc : Ascending d keys
      asc = ascend-facts d keys a

      not-self : (x : ℕ) → level_of x ≤ 16 → before d x x ≡ true → ⊥
      not-self x l b = earlier-not d x x (earlier d x x l l b) (earlier d x x l l b)

      found : Mem k keys → ⊥
      found (i, li, e) = go (dec_lt r i) (dec_lt i r)
        where
          lk : level_of k ≤ 16
          lk = subst (λ x. level_of x ≤ 16) e (level-le d keys asc i li)

          at : before d k k ≡ ltb i r
          at = subst (λ x. before d x k ≡ ltb i r) e (f.splits a lk i li)

          go : Dec (r < i) → Dec (i < r) → ⊥
          go _ (yes g) = not-self k lk (at ∙ lt-ltb i r g)
          go (no h) (no g) = let q : i ≡ r = omega arith in n (omega arith) (sym (ap (λ x. get_or keys x 0) q) ∙ e)
          go (yes h) (no g) =
              let b = before_of d (get_or keys r 0) k (level-le d keys asc r (omega arith)) lk (subst (λ x. Rattle.tree.proofs.Spans.Earlier d (get_or keys r 0) x) e (earlier-at d keys asc r i h li)) in
              clash (sym (f.splits a lk r (omega arith)) ∙ b) (le-ltb r r (omega arith))
