-- Arrays as they are filled, one number a turn.
use mathlib.Core.Path.{◌≡◌, refl, sym, ap, ap₂, ◌∙◌}
use mathlib.Core.List.{List, [], ◌∷◌, ◌++◌, map, append-nil}
use Prim.Native.Nat.{ℕ, zero, suc, ◌+◌, ◌-◌, ◌^◌, ◌≤◌, ◌<◌}
use native.Mathlib.Omega.{arith}
use native.Mathlib.Nat.{zero-add}
use lib.ListN.{length, set, drop, length-append, replicate}
use lib.Seq.{append_snoc}
use lib.Pow.{pow_mono}
use Rattle.slices.specs.Lists.{range, filled}
use Rattle.slices.proofs.Lists.{range-append, filled_none, filled-store}
use Rattle.morton.specs.declared.KeyList.{KeyList}
use Rattle.morton.specs.Keys.{level_of, children_room, ValidKey, parent, upwards, ancestors}
use Rattle.morton.specs.Answers.{key_list}
use Rattle.morton.proofs.Checks.{axes-known}
use Rattle.morton.proofs.Cells.{level-parent}
use Rattle.morton.proofs.Arithmetic.{parent-valid}

-- a list that an array of some room holds whole, with its length
pub record Held (room : ℕ) (array : List ℕ) (len : ℕ) (xs : List ℕ) : Type 0 where
  pub filled_by : array ≡ filled room xs
  pub counted : length xs ≡ len

pub held_none : (room : ℕ) → Held room (replicate room 0) 0 []
held_none room = record { filled_by = sym (filled_none room); counted = refl }

-- one number more
pub held_more : (room : ℕ) (array : List ℕ) (len : ℕ) (xs : List ℕ) (x : ℕ) → Held room array len xs → len < room → Held room (set array len x) (len + 1) (xs ++ x ∷ [])
held_more room array len xs x h l =
    let e = h.counted in
    record {
      filled_by = ap₂ (λ (s : List ℕ) (n : ℕ). set s n x) h.filled_by (sym e) ∙ filled-store room xs x (omega arith);
      counted = length-append xs (x ∷ []) ∙ ap (λ (n : ℕ). n + 1) e;
    }

pub held-listed : (keys : List ℕ) (len : ℕ) (xs ys : List ℕ) → Held 26 keys len xs → xs ≡ ys → ◌≡◌ {A = KeyList} (record { keys = keys; len = len }) (key_list ys)
held-listed keys len xs ys h e =
    ap₂ (λ (s : List ℕ) (n : ℕ). record { keys = s; len = n }) (h.filled_by ∙ ap (filled 26) e) (sym h.counted ∙ ap length e)

-- the values of a function at 0, 1, ..: one more
values-more : (f : ℕ → ℕ) (n : ℕ) → map f (range 0 n) ++ f n ∷ [] ≡ map f (range 0 (n + 1))
unfolding range
values-more f n = sym (ap (map f) (range-append 0 n 1) ∙ maps f (range 0 n) (range (0 + n) 1) ∙ ap (λ (m : ℕ). map f (range 0 n) ++ f m ∷ []) (zero-add n))
  where
    maps : (g : ℕ → ℕ) (xs ys : List ℕ) → map g (xs ++ ys) ≡ map g xs ++ map g ys
    maps g [] ys = refl
    maps g (x ∷ xs) ys = ap (λ (t : List ℕ). g x ∷ t) (maps g xs ys)

-- the array after n turns that store f 0, f 1, ..
pub values-start : (room : ℕ) (f : ℕ → ℕ) → Held room (replicate room 0) 0 (map f (range 0 0))
unfolding range
values-start room f = held_none room

pub values-next : (room : ℕ) (f : ℕ → ℕ) (array : List ℕ) (len x : ℕ) → Held room array len (map f (range 0 len)) → len < room → x ≡ f len
    → Held room (set array len x) (len + 1) (map f (range 0 (len + 1)))
values-next room f array len x h l e = rw (← values-more f len, e) (held_more room array len (map f (range 0 len)) (f len) h l)

pub children-count : (d n : ℕ) → 1 ≤ d → d ≤ 3 → n ≡ children_room d → n ≡ 2 ^ d
children-count d n l h e = e ∙ rw (axes-known d l h)

pub children-few : (d : ℕ) → d ≤ 3 → 2 ^ d ≤ 8
children-few d h = pow_mono {i = d} {j = 3} h

-- ---- the climb to the root

-- the cells above k, up to the root
pub rest : ℕ → ℕ → List ℕ
rest d k = drop 1 (upwards (level_of k) d k)

first : (n d k : ℕ) → upwards n d k ≡ k ∷ drop 1 (upwards n d k)
unfolding upwards
first zero d k = refl
first (suc n) d k = refl

rest_more : (n d k : ℕ) → level_of k ≡ suc n → rest d k ≡ parent d k ∷ rest d (parent d k)
unfolding rest upwards
rest_more n d k e =
    let f : level_of (parent d k) ≡ n = level-parent d k ∙ omega arith in
    ap (λ (m : ℕ). drop 1 (upwards m d k)) e ∙ first n d (parent d k) ∙ ap (λ (m : ℕ). parent d k ∷ drop 1 (upwards m d (parent d k))) (sym f)

rest-none : (d k : ℕ) → level_of k ≡ 0 → rest d k ≡ []
unfolding rest upwards
rest-none d k e = ap (λ (m : ℕ). drop 1 (upwards m d k)) e

pub record Climbed (d k : ℕ) (keys : List ℕ) (at len : ℕ) : Type 0 where
  pub good : ValidKey d at
  pub level : level_of at + len ≡ level_of k + 1
  pub so_far : List ℕ
  pub held : Held 26 keys len so_far
  pub whole : so_far ++ rest d at ≡ ancestors d k

pub climb-start : (d k : ℕ) → ValidKey d k → Climbed d k (set (replicate 26 0) 0 k) k 1
unfolding rest
climb-start d k v = record {
  good = v;
  level = refl;
  so_far = k ∷ [];
  held = held_more 26 (replicate 26 0) 0 [] k (held_none 26) (omega arith);
  whole = sym (first (level_of k) d k);
}

module _ (d k : ℕ) (keys : List ℕ) (at len : ℕ) (v : ValidKey d k) (g : Climbed d k keys at len) where
  pub climb-room : 0 < level_of at → len < 26
  climb-room h = omega (arith, g.level, v.level)

  pub climb-more : 0 < level_of at → Climbed d k (set keys len (parent d at)) (parent d at) (len + 1)
  climb-more h =
      let e : level_of at ≡ suc (level_of at - 1) = omega arith in
      record {
        good = parent-valid d at g.good h;
        level = omega (arith, level-parent d at, g.level);
        so_far = g.so_far ++ parent d at ∷ [];
        held = held_more 26 keys len g.so_far (parent d at) g.held (climb-room h);
        whole = append_snoc g.so_far (parent d at) (rest d (parent d at)) ∙ ap (λ (t : List ℕ). g.so_far ++ t) (sym (rest_more (level_of at - 1) d at e)) ∙ g.whole;
      }

  pub climb-end : level_of at ≤ 0 → ◌≡◌ {A = KeyList} (record { keys = keys; len = len }) (key_list (ancestors d k))
  climb-end h = held-listed keys len g.so_far (ancestors d k) g.held
      (sym (append-nil g.so_far) ∙ ap (λ (t : List ℕ). g.so_far ++ t) (sym (rest-none d at (omega arith))) ∙ g.whole)
