-- The end of a node's range, as a search for it finds it: the first later node that is no deeper, or the number of nodes.
use mathlib.Core.Path.{◌≡◌, refl, sym, ap, ◌∙◌}
use mathlib.Core.Bool.{Bool, true, false, cond}
use mathlib.Core.List.{List, [], ◌∷◌}
use Prim.Native.Nat.{ℕ, zero, suc, ◌+◌, ◌-◌, ◌≤◌, ◌<◌}
use native.Mathlib.Omega.{arith}
use native.Mathlib.Decide.{dec_lt}
use lib.Dec.{ltb}
use lib.ListN.{length, get_or, drop, length-drop}
use lib.Seq.{get_or-drop}
use borrow.Author.Tests.{ltb-true, ltb-false}
use Rattle.morton.specs.Keys.{level_of}
use Rattle.tree.specs.Order.{deeper_run, end_of}

pub record Ends (keys : List ℕ) (i e : ℕ) : Type 0 where
  pub after : i < e
  pub within : e ≤ length keys
  pub deeper : (m : ℕ) → i < m → m < e → level_of (get_or keys i 0) < level_of (get_or keys m 0)
  pub next : e < length keys → level_of (get_or keys e 0) ≤ level_of (get_or keys i 0)

record Run (l : ℕ) (ks : List ℕ) (r : ℕ) : Type 0 where
  most : r ≤ length ks
  deep : (m : ℕ) → m < r → l < level_of (get_or ks m 0)
  stop : r < length ks → level_of (get_or ks r 0) ≤ l

run : (l : ℕ) (ks : List ℕ) → Run l ks (deeper_run l ks)
unfolding deeper_run
run l [] = record { most = omega arith; deep = λ m h. absurd (omega arith); stop = λ h. absurd (omega arith) }
run l (k ∷ ks) = go (ltb l (level_of k)) refl (run l ks)
  where
    at : (r : ℕ) → Run l ks r → l < level_of k → (m : ℕ) → m < suc r → l < level_of (get_or (k ∷ ks) m 0)
    at r i h zero g = h
    at r i h (suc m) g = i.deep m (omega arith)

    go : (b : Bool) → ltb l (level_of k) ≡ b → Run l ks (deeper_run l ks) → Run l (k ∷ ks) (cond b (suc (deeper_run l ks)) 0)
    go true e i = record {
      most = omega (arith, i.most);
      deep = at (deeper_run l ks) i (ltb-true l (level_of k) e);
      stop = λ h. i.stop (omega arith);
    }
    go false e i = record { most = omega arith; deep = λ m h. absurd (omega arith); stop = λ h. ltb-false l (level_of k) e }

pub ends : (keys : List ℕ) (i : ℕ) → i < length keys → Ends keys i (end_of keys i)
unfolding end_of
ends keys i l =
    let r = run (level_of (get_or keys i 0)) (drop (suc i) keys) in
    record {
      after = omega arith;
      within = omega (arith, r.most, length-drop (suc i) keys);
      deeper = λ m h g. deep (deeper_run (level_of (get_or keys i 0)) (drop (suc i) keys)) r m h g;
      next = λ h. stop (deeper_run (level_of (get_or keys i 0)) (drop (suc i) keys)) r h;
    }
  where
    deep : (n : ℕ) → Run (level_of (get_or keys i 0)) (drop (suc i) keys) n → (m : ℕ) → i < m → m < suc i + n → level_of (get_or keys i 0) < level_of (get_or keys m 0)
    deep n r m h g =
        let e : suc i + (m - suc i) ≡ m = omega arith in
        rw (get_or-drop (suc i) keys (m - suc i) 0, e) at (r.deep (m - suc i) (omega arith))

    stop : (n : ℕ) → Run (level_of (get_or keys i 0)) (drop (suc i) keys) n → suc i + n < length keys → level_of (get_or keys (suc i + n) 0) ≤ level_of (get_or keys i 0)
    stop n r h = rw (get_or-drop (suc i) keys n 0) at (r.stop (omega (arith, length-drop (suc i) keys)))

-- an end is the end
pub ends_same : (keys : List ℕ) (i e f : ℕ) → Ends keys i e → Ends keys i f → e ≡ f
ends_same keys i e f a b = go (dec_lt e f) (dec_lt f e)
  where
    go : Dec (e < f) → Dec (f < e) → e ≡ f
    go (yes l) _ = absurd (omega (arith, b.deeper e a.after l, a.next (omega (arith, b.within))))
    go (no n) (yes l) = absurd (omega (arith, a.deeper f b.after l, b.next (omega (arith, a.within))))
    go (no n) (no m) = omega arith
