-- Both lists parted from one column of starts, with the unused rests.
use mathlib.Core.Path.{◌≡◌, refl, sym, ap, ap₂, ◌∙◌, subst}
use mathlib.Core.Bool.{Bool, true, false}
use mathlib.Core.List.{List, [], ◌∷◌, ◌++◌, map}
use Prim.Native.Nat.{ℕ, zero, suc, ◌+◌, ◌-◌, ◌≤◌, ◌<◌}
use native.Mathlib.Omega.{arith}
use native.Mathlib.Decide.{dec_lt}
use lib.ListN.{length, take, replicate, length-append}
use lib.Seq.{take-append-le, length-take-le}
use borrow.Author.Tests.{le-leb, lt-leb, leb-true}
use Rattle.slices.proofs.Tests.{clash}
use lib.Dec.{leb}
use Rattle.std.specs.Prelude.{Err, Ok}
use Rattle.refusal.specs.declared.Refusal.{Refusal}
use Rattle.refusal.specs.declared.Refusal.TheVariants.{Room}
use Rattle.refusal.specs.Chain.{ask, ◌then◌}
use Rattle.refusal.specs.Outcome.{accepted}
use Rattle.refusal.proofs.Chain.{asked, never}
use Rattle.refusal.proofs.Chain as chain
use Rattle.node_rows.specs.declared.Sizes.{Sizes}
use Rattle.rows.specs.Written.{row_starts, row_keys, keys_room}
use Rattle.lists.specs.Written.{WritesRows, WritesList}
use Rattle.lists.proofs.Writing.{starts-length}
use Rattle.lists.specs.Halves.{upper, lower, half_of, first_of, has_room, Cleared, WritesTwo, WritesBoth, room_check, both_sizes}

take-map : (f : ℕ → ℕ) (n : ℕ) (l : List ℕ) → take n (map f l) ≡ map f (take n l)
take-map f zero l = refl
take-map f (suc n) [] = refl
take-map f (suc n) (x ∷ xs) = ap (λ (r : List ℕ). f x ∷ r) (take-map f n xs)

-- the starts in one half of the entries
half-begins : (half : ℕ → ℕ) (row : ℕ → List ℕ) (keys us : List ℕ) → take (length keys + 1) (map half us) ≡ row_starts row keys → map half (take (length keys + 1) us) ≡ row_starts row keys
half-begins half row keys us b = sym (take-map half (length keys + 1) us) ∙ b

-- ---- one list, in its room
pub cap-most : (r : ℕ) (l : List ℕ) → r ≡ keys_room (length l) → length (take r l) ≤ 16777216
cap-most r l e = omega (arith, length-take-le r l (omega arith))

module _ (row : ℕ → List ℕ) (keys starts e : List ℕ) (n room len : ℕ) (w : WritesRows row keys starts e n) (size : length e ≡ room) (cap : room ≡ keys_room len) where
  no_room : room < n → has_room row keys len ≡ false
  no_room h = lt-leb (length (row_keys row keys)) (keys_room len) (omega (arith, w.over (omega arith)))

  in_room : n ≤ room → has_room row keys len ≡ true
  in_room h = le-leb (length (row_keys row keys)) (keys_room len) (omega (arith, w.counted (omega arith)))

  list_done : n ≤ room → (places m : ℕ) (rest out'' col starts'' : List ℕ) → room + length rest ≡ len → m ≡ places
      → out'' ≡ take n (e ++ rest) ++ replicate (length (e ++ rest) - n) 0
      → col ≡ row_starts row keys
      → starts'' ≡ col ++ replicate (m - (length keys + 1)) 0
      → WritesList row keys places len starts'' out'' true
  list_done h places m rest out'' col starts'' all same q b r =
      let k = w.counted (omega arith) in
      let z : length (e ++ rest) ≡ len = length-append e rest ∙ omega arith in
      record {
        fits = sym (in_room h);
        begins = λ _. r ∙ ap₂ (λ (x : List ℕ) (j : ℕ). x ++ replicate j 0) b (ap₂ ◌-◌ same (sym (starts-length 0 row keys)));
        written = λ _. q ∙ ap₂ (λ (x : List ℕ) (j : ℕ). x ++ replicate j 0) (take-append-le n e rest (omega arith) ∙ w.written (omega arith)) (ap₂ ◌-◌ z k);
        cleared = λ q. absurd (clash refl q);
      }

-- ---- both
module _ (u v : ℕ → List ℕ) (keys : List ℕ) (up ul vp vl : ℕ) (us uk vs vk : List ℕ) where
  u-none : has_room u keys ul ≡ false → Cleared up ul vp vl us uk vs vk → WritesBoth u v keys up ul vp vl us uk vs vk (Err (Room 6))
  u-none h z = record { u_short = λ _. (refl, z); v_short = λ t _. absurd (clash t h); written = λ t _. absurd (clash t h) }

  v-none : has_room u keys ul ≡ true → has_room v keys vl ≡ false → Cleared up ul vp vl us uk vs vk → WritesBoth u v keys up ul vp vl us uk vs vk (Err (Room 7))
  v-none g h z = record { u_short = λ f. absurd (clash g f); v_short = λ _ _. (refl, z); written = λ _ t. absurd (clash t h) }

  both-done : WritesList u keys up ul us uk true → WritesList v keys vp vl vs vk true → WritesBoth u v keys up ul vp vl us uk vs vk (Ok (both_sizes u v keys))
  both-done a b = record {
    u_short = λ f. absurd (clash (sym a.fits) f);
    v_short = λ _ f. absurd (clash (sym b.fits) f);
    written = λ _ _. (refl, a, b);
  }

module _ (u v : ℕ → List ℕ) (keys starts uk vk : List ℕ) (n m ur ul vr vl : ℕ) (w : WritesTwo u v keys starts uk vk n m)
    (su : length uk ≡ ur) (cu : ur ≡ keys_room ul) (sv : length vk ≡ vr) (cv : vr ≡ keys_room vl) where
  v-rows : n ≤ ur → WritesRows v keys (map lower starts) vk m
  v-rows h = w.far (omega arith)

  -- what `finish` leaves of all
  both-finished : n ≤ ur → m ≤ vr → (up vp places : ℕ) (urest vrest us' uk' vs' vk' : List ℕ) → ur + length urest ≡ ul → vr + length vrest ≡ vl → length starts ≡ up → places ≡ vp
      → (us' ≡ map upper (take (length keys + 1) starts) ++ replicate (length starts - (length keys + 1)) 0)
      × (vs' ≡ map lower (take (length keys + 1) starts) ++ replicate (places - (length keys + 1)) 0)
      → (uk' ≡ take n (uk ++ urest) ++ replicate (length (uk ++ urest) - n) 0) × (vk' ≡ take m (vk ++ vrest) ++ replicate (length (vk ++ vrest) - m) 0)
      → WritesBoth u v keys up ul vp vl us' uk' vs' vk' (Ok (both_sizes u v keys))
  both-finished h k up vp places urest vrest us' uk' vs' vk' ua va ub vb f g =
      both-done u v keys up ul vp vl us' uk' vs' vk'
      (list_done u keys (map upper starts) uk n ur ul w.near su cu h up (length starts) urest uk' (map upper (take (length keys + 1) starts)) us' ua ub g.0
      (half-begins upper u keys starts (w.near.begins (omega arith))) f.0)
      (list_done v keys (map lower starts) vk m vr vl (v-rows h) sv cv k vp places vrest vk' (map lower (take (length keys + 1) starts)) vs' va vb g.1
      (half-begins lower v keys starts ((v-rows h).begins (omega arith))) f.1)

  -- and where a slice is short
  pub both-short : (r : Refusal) → room_check n m ur vr ≡ Err r → (up vp places : ℕ) (urest vrest us' uk' vs' vk' : List ℕ) → ur + length urest ≡ ul → vr + length vrest ≡ vl → length starts ≡ up → places ≡ vp
      → us' ≡ replicate (length starts) 0 → uk' ≡ replicate (length (uk ++ urest)) 0 → vs' ≡ replicate places 0 → vk' ≡ replicate (length (vk ++ vrest)) 0
      → WritesBoth u v keys up ul vp vl us' uk' vs' vk' (Err r)
  both-short r e up vp places urest vrest us' uk' vs' vk' ua va ub vb a b c f = go (dec_lt ur n) (dec_lt vr m)
    where
      zeros : Cleared up ul vp vl us' uk' vs' vk'
      zeros = (
        a ∙ ap (λ (k : ℕ). replicate k 0) ub,
        b ∙ ap (λ (k : ℕ). replicate k 0) (length-append uk urest ∙ ap (λ (k : ℕ). k + length urest) su ∙ ua),
        c ∙ ap (λ (k : ℕ). replicate k 0) vb,
        f ∙ ap (λ (k : ℕ). replicate k 0) (length-append vk vrest ∙ ap (λ (k : ℕ). k + length vrest) sv ∙ va),
      )

      told : (s t : Bool) → leb n ur ≡ s → leb m vr ≡ t → ask s (Room 6) then ask t (Room 7) ≡ Err r
      told s t p q = sym (ap₂ (λ s t. ask s (Room 6) then ask t (Room 7)) p q) ∙ e

      go : Dec (ur < n) → Dec (vr < m) → WritesBoth u v keys up ul vp vl us' uk' vs' vk' (Err r)
      go (yes h) k =
          let same : Err (Room 6) ≡ Err r = told false _ (lt-leb n ur h) refl in
          let q : Room 6 ≡ r = cc in
          subst (λ (x : Refusal). WritesBoth u v keys up ul vp vl us' uk' vs' vk' (Err x)) q (u-none u v keys up ul vp vl us' uk' vs' vk' (no_room u keys (map upper starts) uk n ur ul w.near su cu h) zeros)
      go (no h) (yes k) =
          let low : n ≤ ur = omega arith in
          let same : Err (Room 7) ≡ Err r = told true false (le-leb n ur low) (lt-leb m vr k) in
          let q : Room 7 ≡ r = cc in
          subst (λ (x : Refusal). WritesBoth u v keys up ul vp vl us' uk' vs' vk' (Err x)) q
          (v-none u v keys up ul vp vl us' uk' vs' vk' (in_room u keys (map upper starts) uk n ur ul w.near su cu low) (no_room v keys (map lower starts) vk m vr vl (v-rows low) sv cv k) zeros)
      go (no h) (no k) = absurd (never r (sym (told true true (le-leb n ur (omega arith)) (le-leb m vr (omega arith)))))

  -- both have room, and so many keys
  pub has-both : room_check n m ur vr ≡ accepted → (n ≤ ur) × (m ≤ vr)
  has-both e =
      let p = chain.both-done (ask (leb n ur) (Room 6)) (ask (leb m vr) (Room 7)) e in
      (leb-true n ur (asked _ (Room 6) p.0), leb-true m vr (asked _ (Room 7) p.1))

  sizes_are : n ≤ ur → m ≤ vr → (s : Sizes) → s.u ≡ n → s.v ≡ m → s ≡ both_sizes u v keys
  sizes_are h k s a b = ap₂ sizes (a ∙ w.near.counted (omega arith)) (b ∙ (v-rows h).counted (omega arith))
    where
      sizes : ℕ → ℕ → Sizes
      sizes n m = record { u = n; v = m }

  pub both-kept : room_check n m ur vr ≡ accepted → (s : Sizes) → s.u ≡ n → s.v ≡ m → (up vp places : ℕ) (urest vrest us' uk' vs' vk' : List ℕ) → ur + length urest ≡ ul → vr + length vrest ≡ vl → length starts ≡ up → places ≡ vp
      → (us' ≡ half_of upper (length keys + 1) starts (length starts)) × (vs' ≡ half_of lower (length keys + 1) starts places)
      → (uk' ≡ first_of n (uk ++ urest)) × (vk' ≡ first_of m (vk ++ vrest))
      → WritesBoth u v keys up ul vp vl us' uk' vs' vk' (Ok s)
  both-kept e s a b up vp places urest vrest us' uk' vs' vk' ua va ub vb f g =
      let (h, k) = has-both e in
      subst (λ (x : Sizes). WritesBoth u v keys up ul vp vl us' uk' vs' vk' (Ok x)) (sym (sizes_are h k s a b))
      (both-finished h k up vp places urest vrest us' uk' vs' vk' ua va ub vb f g)
