-- Starts in halves of a column's entries.
use mathlib.Core.Path.{◌≡◌, refl, sym, ap, ap₂, ◌∙◌, subst}
use mathlib.Core.List.{List, [], ◌∷◌, ◌++◌, map}
use Prim.Native.Nat.{ℕ, zero, suc, ◌+◌, ◌*◌, ◌/◌, ◌%◌, ◌≤◌, ◌<◌}
use native.Mathlib.Omega.{arith}
use native.Mathlib.Numerals.{add-one}
use lib.ListN.{length, get_or, set, take, length-set}
use lib.Seq.{take-suc, take-suc-set, get_or-set_other}
use Rattle.lists.specs.Halves.{upper, lower}

map-set : (f : ℕ → ℕ) (l : List ℕ) (i x : ℕ) → map f (set l i x) ≡ set (map f l) i (f x)
map-set f [] i x = refl
map-set f (y ∷ ys) zero x = refl
map-set f (y ∷ ys) (suc i) x = ap (λ (r : List ℕ). f y ∷ r) (map-set f ys i x)

pub length-map : (f : ℕ → ℕ) (l : List ℕ) → length (map f l) ≡ length l
length-map f [] = refl
length-map f (x ∷ xs) = ap suc (length-map f xs)

-- an entry with both starts
upper-both : (u v : ℕ) → v ≤ 16777217 → upper (v + u * 4294967296) ≡ u
upper-both u v h = omega arith

lower-both : (u v : ℕ) → v ≤ 16777217 → lower (v + u * 4294967296) ≡ v
lower-both u v h = omega arith

module _ (s s' : List ℕ) (i u v : ℕ) (e : s' ≡ set s i (v + u * 4294967296)) (h : v ≤ 16777217) where
  pub mark-upper : map upper s' ≡ set (map upper s) i u
  mark-upper = ap (map upper) e ∙ map-set upper s i (v + u * 4294967296) ∙ ap (set (map upper s) i) (upper-both u v h)

  pub mark-lower : map lower s' ≡ set (map lower s) i v
  mark-lower = ap (map lower) e ∙ map-set lower s i (v + u * 4294967296) ∙ ap (set (map lower s) i) (lower-both u v h)

-- ---- the upper halves kept
-- after i entries
pub record Raised (both₀ both : List ℕ) (i : ℕ) : Type 0 where
  pub high : take i both ≡ map upper (take i both₀)
  pub rest : (j : ℕ) → i ≤ j → get_or both j 0 ≡ get_or both₀ j 0
  pub size : length both ≡ length both₀

pub raised-none : (both : List ℕ) → Raised both both 0
raised-none both = record { high = refl; rest = λ j h. refl; size = refl }

map_snoc : (f : ℕ → ℕ) (xs : List ℕ) (x : ℕ) → map f xs ++ f x ∷ [] ≡ map f (xs ++ x ∷ [])
map_snoc f [] x = refl
map_snoc f (y ∷ ys) x = ap (λ (r : List ℕ). f y ∷ r) (map_snoc f ys x)

module _ (both₀ both : List ℕ) (i : ℕ) (p : Raised both₀ both i) (h : i < length both) where
  -- one half of one entry more
  half-more : (half : ℕ → ℕ) (out : List ℕ) → i < length out → take i out ≡ map half (take i both₀) → take (i + 1) (set out i (half (get_or both i 0))) ≡ map half (take (i + 1) both₀)
  half-more half out k e =
      ap (λ (n : ℕ). take n (set out i (half (get_or both i 0)))) (add-one i) ∙ take-suc-set out i (half (get_or both i 0)) k
      ∙ ap₂ (λ (l : List ℕ) (x : ℕ). l ++ half x ∷ []) e (p.rest i (omega arith)) ∙ map_snoc half (take i both₀) (get_or both₀ i 0)
      ∙ ap (map half) (sym (ap (λ (n : ℕ). take n both₀) (add-one i) ∙ take-suc both₀ i 0 (omega (arith, p.size))))

  pub raised-more : Raised both₀ (set both i (get_or both i 0 / 4294967296)) (i + 1)
  raised-more = record {
    high = half-more upper both h p.high;
    rest = λ j g. get_or-set_other both i j (get_or both i 0 / 4294967296) 0 (λ e. omega arith) ∙ p.rest j (omega arith);
    size = length-set both i (get_or both i 0 / 4294967296) ∙ p.size;
  }

pub raised_all : (both₀ both : List ℕ) (i n : ℕ) → Raised both₀ both i → i ≤ n → n ≤ i → take n both ≡ map upper (take n both₀)
raised_all both₀ both i n p a b = let e : i ≡ n = omega arith in subst (λ (m : ℕ). take m both ≡ map upper (take m both₀)) e p.high

-- ---- parting
pub record Parting (both₀ both low : List ℕ) (i : ℕ) : Type 0 where
  pub raised : Raised both₀ both i
  pub down : take i low ≡ map lower (take i both₀)

pub parting-none : (both low : List ℕ) → Parting both both low 0
parting-none both low = record { raised = raised-none both; down = refl }

pub parting-more : (both₀ both low : List ℕ) (i : ℕ) → Parting both₀ both low i → i < length both → i < length low
    → Parting both₀ (set both i (get_or both i 0 / 4294967296)) (set low i (get_or both i 0 % 4294967296)) (i + 1)
parting-more both₀ both low i p h k = record { raised = raised-more both₀ both i p.raised h; down = half-more both₀ both i p.raised h lower low k p.down }

pub parting-all : (both₀ both low : List ℕ) (i n : ℕ) → Parting both₀ both low i → i ≤ n → n ≤ i → (take n both ≡ map upper (take n both₀)) × (take n low ≡ map lower (take n both₀))
parting-all both₀ both low i n p a b = let e : i ≡ n = omega arith in (raised_all both₀ both i n p.raised a b, subst (λ (m : ℕ). take m low ≡ map lower (take m both₀)) e p.down)
