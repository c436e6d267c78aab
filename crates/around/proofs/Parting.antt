-- The loops that part entries: the far keys and the near positions up to j, and the near entries with and without children.
use mathlib.Core.Path.{◌≡◌, refl, sym, ap, ◌∙◌, subst}
use mathlib.Core.Bool.{true, false, not}
use mathlib.Core.List.{List, [], ◌∷◌, ◌++◌, map, append_assoc, append-nil}
use Prim.Native.Nat.{ℕ, zero, suc, ◌+◌, ◌-◌, ◌≤◌, ◌<◌}
use native.Mathlib.Omega.{arith}
use native.Mathlib.Nat.{add-zero}
use native.Mathlib.Numerals.{add-one}
use lib.Dec.{eqb}
use lib.ListN.{length, get_or, take, set, length-set}
use lib.Seq.{take-suc-set, take-set-le, length-take-le}
use Rattle.slices.specs.Lists.{filter, range}
use Rattle.slices.proofs.Lists.{filter-shorter}
use Rattle.sourced.specs.Room.{Holds, Puts}
use Rattle.sourced.proofs.Putting.{put-room, store-past, filter-yes, filter-no}
use Rattle.links.specs.Links.{inner}
use Rattle.links.proofs.Children.{filter-here, filter-past}
use Rattle.around.specs.Masks.{bit_of}
use Rattle.around.specs.Parting.{key_of, near_at, far_at, Parting, Parts, Storable, Stored, inner_at, leaves_at, Splits}
use Rattle.around.proofs.Lists.{map-append, length-mapped, filter-longer}

-- ---- keys put into a slice
puts_none : (out : List ℕ) (n : ℕ) → Puts out n [] out n
puts_none out n done h = rw (append-nil done) h

puts-join : (out out₁ out₂ xs ys : List ℕ) (n n₁ n₂ : ℕ) → Puts out n xs out₁ n₁ → Puts out₁ n₁ ys out₂ n₂ → Puts out n (xs ++ ys) out₂ n₂
puts-join out out₁ out₂ xs ys n n₁ n₂ a b done h = subst (λ l. Holds out₂ n₂ l) (append_assoc done xs ys) (b (done ++ xs) (a done h))

-- ---- the entries up to j were parted
pub record PartsTo (keys nodes masks : List ℕ) (s : ℕ) (far₀ : List ℕ) (f₀ : ℕ) (far : List ℕ) (f : ℕ) (kept : List ℕ) (t j : ℕ) : Type 0 where
  pub puts : Puts far₀ f₀ (map (key_of keys nodes) (far_at masks j s)) far f
  pub fits : t ≤ length kept
  pub near : take t kept ≡ near_at masks j s

module _ (keys nodes masks : List ℕ) (s : ℕ) (far₀ : List ℕ) (f₀ : ℕ) where
  pub parts-start : (near : List ℕ) → PartsTo keys nodes masks s far₀ f₀ far₀ f₀ near 0 0
  unfolding filter range
  parts-start near = record { puts = puts_none far₀ f₀; fits = omega arith; near = refl }

module _ {keys nodes masks : List ℕ} {s : ℕ} {far₀ : List ℕ} {f₀ : ℕ} {far : List ℕ} {f : ℕ} {near : List ℕ} {t j : ℕ} (w : PartsTo keys nodes masks s far₀ f₀ far f near t j) where
  -- at most 27 are near
  pub parts-few : (c : ℕ) → Parting keys nodes masks c s → j ≤ c → t ≤ 27
  parts-few c p h = omega (arith, sym (length-take-le t near w.fits) ∙ ap length w.near, filter-longer (λ i. bit_of (get_or masks i 0) s) j c h, p.few)

  near_same : bit_of (get_or masks j 0) s ≡ false → near_at masks (j + 1) s ≡ near_at masks j s
  near_same e = ap (λ n. near_at masks n s) (add-one j) ∙ filter-past (λ i. bit_of (get_or masks i 0) s) j e

  near-one : bit_of (get_or masks j 0) s ≡ true → near_at masks (j + 1) s ≡ near_at masks j s ++ j ∷ []
  near-one e = ap (λ n. near_at masks n s) (add-one j) ∙ filter-here (λ i. bit_of (get_or masks i 0) s) j e

  far-same : bit_of (get_or masks j 0) s ≡ true → far_at masks (j + 1) s ≡ far_at masks j s
  far-same e = ap (λ n. far_at masks n s) (add-one j) ∙ filter-past (λ i. not (bit_of (get_or masks i 0) s)) j (ap not e)

  far-one : bit_of (get_or masks j 0) s ≡ false → map (key_of keys nodes) (far_at masks (j + 1) s) ≡ map (key_of keys nodes) (far_at masks j s) ++ key_of keys nodes j ∷ []
  far-one e = ap (map (key_of keys nodes)) (ap (λ n. far_at masks n s) (add-one j) ∙ filter-here (λ i. not (bit_of (get_or masks i 0) s)) j (ap not e)) ∙ map-append (key_of keys nodes) (far_at masks j s) (j ∷ [])

  -- an entry that does not touch, whatever is stored past the near ones
  pub parts-far : bit_of (get_or masks j 0) s ≡ false → (far₁ : List ℕ) (f₁ : ℕ) → Puts far f (key_of keys nodes j ∷ []) far₁ f₁ → PartsTo keys nodes masks s far₀ f₀ far₁ f₁ near t (j + 1)
  parts-far e far₁ f₁ p = record {
    puts = subst (λ xs. Puts far₀ f₀ xs far₁ f₁) (sym (far-one e)) (puts-join far₀ far far₁ (map (key_of keys nodes) (far_at masks j s)) (key_of keys nodes j ∷ []) f₀ f f₁ w.puts p);
    fits = w.fits;
    near = w.near ∙ sym (near_same e);
  }

  -- one that touches, whatever is stored past the far ones
  pub parts-near : bit_of (get_or masks j 0) s ≡ true → t < length near → (far₁ : List ℕ) → Puts far f [] far₁ f → PartsTo keys nodes masks s far₀ f₀ far₁ f (set near t j) (t + 1) (j + 1)
  parts-near e room far₁ p = record {
    puts = subst (λ xs. Puts far₀ f₀ xs far₁ f) (append-nil (map (key_of keys nodes) (far_at masks j s)) ∙ ap (map (key_of keys nodes)) (sym (far-same e))) (puts-join far₀ far far₁ (map (key_of keys nodes) (far_at masks j s)) [] f₀ f f w.puts p);
    fits = omega (arith, length-set near t j);
    near = ap (λ (n : ℕ). take n (set near t j)) (add-one t) ∙ take-suc-set near t j room ∙ ap (λ (l : List ℕ). l ++ j ∷ []) w.near ∙ sym (near-one e);
  }

  pub parts-kept : bit_of (get_or masks j 0) s ≡ true → t < length near → PartsTo keys nodes masks s far₀ f₀ far f (set near t j) (t + 1) (j + 1)
  parts-kept e room = parts-near e room far (puts_none far f)

  -- both stored in any case, and one of them counted
  pub parts-store : f < length far → t < length near → (v : ℕ) → v < 2 → eqb v 1 ≡ bit_of (get_or masks j 0) s → PartsTo keys nodes masks s far₀ f₀ (set far f (key_of keys nodes j)) (f + (1 - v)) (set near t j) (t + v) (j + 1)
  parts-store r q zero b e =
      let a = parts-far (sym e) (set far f (key_of keys nodes j)) (f + 1) (put-room far f (key_of keys nodes j) r) in
      record {
        puts = a.puts;
        fits = omega (arith, length-set near t j);
        near = ap (λ (n : ℕ). take n (set near t j)) (add-zero t) ∙ take-set-le t near t j (omega arith) ∙ a.near;
      }
  parts-store r q (suc zero) b e =
      let z : f ≡ f + (1 - 1) = omega arith in
      subst (λ (n : ℕ). PartsTo keys nodes masks s far₀ f₀ (set far f (key_of keys nodes j)) n (set near t j) (t + 1) (j + 1)) z (parts-near (sym e) q (set far f (key_of keys nodes j)) (store-past far f (key_of keys nodes j) r))
  parts-store r q (suc (suc v)) b e = absurd (omega arith)

  pub parts_all : (c : ℕ) → Parting keys nodes masks c s → c ≤ j → j ≤ c → Parts keys nodes masks c s far₀ f₀ far f near t
  parts_all c p a b =
      let e : j ≡ c = omega arith in
      record {
        puts = subst (λ n. Puts far₀ f₀ (map (key_of keys nodes) (far_at masks n s)) far f) e w.puts;
        fits = w.fits;
        near = w.near ∙ ap (λ n. near_at masks n s) e;
        few = parts-few c p b;
      }

-- ---- entries stored one after the other, where there is room for all
pub record Storing (keys nodes masks : List ℕ) (c s : ℕ) (far₀ : List ℕ) (f₀ : ℕ) (near₀ : List ℕ) (far : List ℕ) (f : ℕ) (near : List ℕ) (t j : ℕ) : Type 0 where
  pub parts : PartsTo keys nodes masks s far₀ f₀ far f near t j
  pub long : length far ≡ length far₀
  pub kept : length near ≡ length near₀
  pub room : f + (c - j) ≤ length far₀
  pub most : j ≤ c

module _ {keys nodes masks : List ℕ} {c s : ℕ} {far₀ : List ℕ} {f₀ : ℕ} {near₀ : List ℕ} (p : Parting keys nodes masks c s) (big : 28 ≤ length near₀) where
  pub storing-start : f₀ + c ≤ length far₀ → Storing keys nodes masks c s far₀ f₀ near₀ far₀ f₀ near₀ 0 0
  storing-start h = record { parts = parts-start keys nodes masks s far₀ f₀ near₀; long = refl; kept = refl; room = omega arith; most = omega arith }

  module _ {far : List ℕ} {f : ℕ} {near : List ℕ} {t j : ℕ} (w : Storing keys nodes masks c s far₀ f₀ near₀ far f near t j) (h : j < c) where
    pub storing-can : Storable keys nodes masks s j far f near t
    storing-can = record {
      entry = omega (arith, p.fits);
      masked = omega (arith, p.fits, p.room);
      inside = p.inside j h;
      index = p.index;
      room = omega (arith, w.long, w.room);
      more = omega (arith, w.kept, parts-few w.parts c p w.most);
    }

    pub storing-one : {far' : List ℕ} {f' : ℕ} {near' : List ℕ} {t' : ℕ} → Stored keys nodes masks s j far f far' f' near t near' t' → Storing keys nodes masks c s far₀ f₀ near₀ far' f' near' t' (j + 1)
    storing-one {far'} {f'} {near'} {t'} b = record {
      parts = rw (b.key, b.position, b.counted, b.found) (parts-store w.parts storing-can.room storing-can.more b.touches b.few b.tells);
      long = ap length b.key ∙ length-set far f (key_of keys nodes j) ∙ w.long;
      kept = ap length b.position ∙ length-set near t j ∙ w.kept;
      room = omega (arith, b.counted, w.room, h);
      most = omega (arith, h);
    }

  pub storing-all : {far : List ℕ} {f : ℕ} {near : List ℕ} {t j : ℕ} → Storing keys nodes masks c s far₀ f₀ near₀ far f near t j → c ≤ j → Parts keys nodes masks c s far₀ f₀ far f near t
  storing-all w h = parts_all w.parts c p h w.most

-- ---- the near entries up to i were split
module _ (keys nodes places near owners₀ : List ℕ) (o₀ : ℕ) where
  abbrev pub SplitsTo : ℕ → List ℕ → ℕ → List ℕ → List ℕ → ℕ → Type 0
  SplitsTo i owners m listed spots k = Splits keys nodes places (take i near) owners₀ o₀ owners m listed spots k

  pub split-start : (listed spots : List ℕ) → SplitsTo 0 owners₀ o₀ listed spots 0
  unfolding filter
  split-start listed spots = record { puts = puts_none owners₀ o₀; fits = omega arith; room = omega arith; numbers = refl; placed = refl }

  module _ (i : ℕ) (l : i < length near) (owners : List ℕ) (m : ℕ) (listed spots : List ℕ) (k : ℕ) (w : SplitsTo i owners m listed spots k) where
    -- no more than were read
    pub split-few : k ≤ i
    split-few = omega (
      arith,
      sym (length-take-le k listed w.fits) ∙ ap length w.numbers ∙ length-mapped (λ i. get_or nodes i 0) (inner_at keys nodes (take i near)),
      filter-shorter (λ i. inner keys (get_or nodes i 0)) (take i near),
      length-take-le i near (omega arith),
    )

    pub split-leaf : inner keys (get_or nodes (get_or near i 0) 0) ≡ false → (owners₁ : List ℕ) (m₁ : ℕ) → Puts owners m (key_of keys nodes (get_or near i 0) ∷ []) owners₁ m₁ → SplitsTo (i + 1) owners₁ m₁ listed spots k
    split-leaf e owners₁ m₁ p = record {
      puts = subst (λ xs. Puts owners₀ o₀ xs owners₁ m₁) (sym more) (puts-join owners₀ owners owners₁ (map (key_of keys nodes) (leaves_at keys nodes (take i near))) (key_of keys nodes (get_or near i 0) ∷ []) o₀ m m₁ w.puts p);
      fits = w.fits;
      room = w.room;
      numbers = w.numbers ∙ ap (map (λ i. get_or nodes i 0)) (sym same);
      placed = w.placed ∙ ap (map (λ i. get_or places i 0)) (sym same);
    }
      where
        same : inner_at keys nodes (take (i + 1) near) ≡ inner_at keys nodes (take i near)
        same = filter-no (λ i. inner keys (get_or nodes i 0)) near i l e

        more : map (key_of keys nodes) (leaves_at keys nodes (take (i + 1) near)) ≡ map (key_of keys nodes) (leaves_at keys nodes (take i near)) ++ key_of keys nodes (get_or near i 0) ∷ []
        more = ap (map (key_of keys nodes)) (filter-yes (λ i. not (inner keys (get_or nodes i 0))) near i l (ap not e)) ∙ map-append (key_of keys nodes) (leaves_at keys nodes (take i near)) (get_or near i 0 ∷ [])

    pub split-inner : inner keys (get_or nodes (get_or near i 0) 0) ≡ true → k < length listed → k < length spots
        → SplitsTo (i + 1) owners m (set listed k (get_or nodes (get_or near i 0) 0)) (set spots k (get_or places (get_or near i 0) 0)) (k + 1)
    split-inner e a b = record {
      puts = subst (λ xs. Puts owners₀ o₀ (map (key_of keys nodes) xs) owners m) (sym (filter-no (λ i. not (inner keys (get_or nodes i 0))) near i l (ap not e))) w.puts;
      fits = omega (arith, length-set listed k (get_or nodes (get_or near i 0) 0));
      room = omega (arith, length-set spots k (get_or places (get_or near i 0) 0));
      numbers = grown nodes listed a w.numbers;
      placed = grown places spots b w.placed;
    }
      where
        grown : (vs out : List ℕ) → k < length out → take k out ≡ map (λ i. get_or vs i 0) (inner_at keys nodes (take i near)) → take (k + 1) (set out k (get_or vs (get_or near i 0) 0)) ≡ map (λ i. get_or vs i 0) (inner_at keys nodes (take (i + 1) near))
        grown vs out r h =
            ap (λ (n : ℕ). take n (set out k (get_or vs (get_or near i 0) 0))) (add-one k) ∙ take-suc-set out k (get_or vs (get_or near i 0) 0) r ∙ ap (λ (l : List ℕ). l ++ get_or vs (get_or near i 0) 0 ∷ []) h
            ∙ sym (ap (map (λ i. get_or vs i 0)) (filter-yes (λ i. inner keys (get_or nodes i 0)) near i l e) ∙ map-append (λ i. get_or vs i 0) (inner_at keys nodes (take i near)) (get_or near i 0 ∷ []))
