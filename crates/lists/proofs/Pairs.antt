-- Both lists, written node by node, with their starts in the halves of one column.
use mathlib.Core.Path.{◌≡◌, refl, sym, subst}
use mathlib.Core.List.{List, [], map, append-nil}
use Prim.Native.Nat.{ℕ, ◌+◌, ◌*◌, ◌≤◌, ◌<◌}
use native.Mathlib.Omega.{arith}
use lib.ListN.{length, get_or, set, length-set}
use Rattle.sourced.specs.Room.{Puts}
use Rattle.lists.specs.Halves.{upper, lower, WritesTwo}
use Rattle.lists.proofs.Marks.{length-map, mark-upper, mark-lower}
use Rattle.lists.proofs.Progress.{Progress, progress-none, progress-most, progress-over, progress-more, progress-all}

-- after i nodes
pub record Pair (u v : ℕ → List ℕ) (keys starts uk vk : List ℕ) (i n m : ℕ) : Type 0 where
  pub upto : i ≤ length keys
  pub near : Progress u keys (map upper starts) uk i n
  pub far : Progress v keys (map lower starts) vk i m

mapped : (f : ℕ → ℕ) (i : ℕ) (s : List ℕ) → i < length s → i < length (map f s)
mapped f i s h = subst (λ (k : ℕ). i < k) (sym (length-map f s)) h

module _ (u v : ℕ → List ℕ) (keys : List ℕ) where
  pair-none : (starts starts' uk vk : List ℕ) → 0 < length starts → starts' ≡ set starts 0 0 → Pair u v keys starts' uk vk 0 0 0
  pair-none starts starts' uk vk h e = record {
    upto = omega arith;
    near = progress-none u keys (map upper starts) (map upper starts') uk (mapped upper 0 starts h) (mark-upper starts starts' 0 0 0 e (omega arith));
    far = progress-none v keys (map lower starts) (map lower starts') vk (mapped lower 0 starts h) (mark-lower starts starts' 0 0 0 e (omega arith));
  }

  module _ (starts uk uk' vk vk' : List ℕ) (i n n' m m' : ℕ) (g : Pair u v keys starts uk vk i n m) (l : i < length keys)
      (p : Puts uk n (u (get_or keys i 0)) uk' n') (q : Puts vk m (v (get_or keys i 0)) vk' m') where
    pub pair-most : (n' ≤ length uk' + 1) × (m' ≤ length vk' + 1)
    pair-most = (progress-most u keys (map upper starts) uk uk' i n n' g.near l p, progress-most v keys (map lower starts) vk vk' i m m' g.far l q)

    pub pair-over : length uk' < n' → (starts' : List ℕ) → WritesTwo u v keys starts' uk' vk' n' m'
    pair-over h starts' = record {
      near = progress-over u keys (map upper starts) uk uk' i n n' g.near l p h (map upper starts');
      far = λ b. absurd (omega arith);
    }

    pub pair-more : length uk' ≡ length uk → length vk' ≡ length vk → length vk ≤ 16777216 → (starts' : List ℕ) → i + 1 < length starts
        → starts' ≡ set starts (i + 1) (m' + n' * 4294967296) → Pair u v keys starts' uk' vk' (i + 1) n' m'
    pair-more a b c starts' h e =
        let k : m' ≤ 16777217 = omega (arith, pair-most.1) in
        record {
          upto = omega arith;
          near = progress-more u keys (map upper starts) uk uk' i n n' g.near l p a (map upper starts') (mapped upper (i + 1) starts h) (mark-upper starts starts' (i + 1) n' m' e k);
          far = progress-more v keys (map lower starts) vk vk' i m m' g.far l q b (map lower starts') (mapped lower (i + 1) starts h) (mark-lower starts starts' (i + 1) n' m' e k);
        }

  -- the rows of the root are empty
  pub pair-begun : u (get_or keys 0 0) ≡ [] → v (get_or keys 0 0) ≡ [] → 0 < length keys → (starts uk vk : List ℕ) → 1 < length starts → length vk ≤ 16777216 → Pair u v keys (set (set starts 0 0) 1 0) uk vk 1 0 0
  pair-begun eu ev some starts uk vk h cap =
      pair-more (set starts 0 0) uk uk vk vk 0 0 0 0 0 (pair-none starts (set starts 0 0) uk vk (omega arith) refl) some (none uk eu) (none vk ev) refl refl cap (set (set starts 0 0) 1 0) (omega (arith, length-set starts 0 0)) refl
    where
      none : (out : List ℕ) {xs : List ℕ} → xs ≡ [] → Puts out 0 xs out 0
      none out e done b = rw (e, append-nil done) b

  pub pair-all : (starts uk vk : List ℕ) (i n m : ℕ) → Pair u v keys starts uk vk i n m → length keys ≤ i → WritesTwo u v keys starts uk vk n m
  pair-all starts uk vk i n m g h =
      let e : i ≡ length keys = omega (arith, g.upto) in
      record { near = progress-all u keys (map upper starts) uk i n g.near e; far = λ _. progress-all v keys (map lower starts) vk i m g.far e }
