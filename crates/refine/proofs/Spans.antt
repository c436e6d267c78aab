-- The codes at level 16 of one cell stand next to each other: from its first up to the next cell's first.
use mathlib.Core.Path.{◌≡◌, sym, ap, ap₂, ◌∙◌}
use mathlib.Core.Bool.{true, ◌&&◌}
use mathlib.Core.List.{List}
use Prim.Native.Nat.{ℕ, ◌+◌, ◌*◌, ◌-◌, ◌/◌, ◌%◌, ◌^◌, ◌≤◌}
use native.Mathlib.Nat.{div-eq_of_lt-le, div-mul-le_self, lt-div-mul-add, add-mul, one-mul, mul-add}
use native.Mathlib.Omega.{arith}
use lib.Dec.{leb, ltb, eqb}
use lib.Pow.{pow_pos, pow-lt, shl_exact}
use borrow.Author.Tests.{leb-true, ltb-true, eqb-true, le-leb, lt-ltb, eq-eqb}
use Rattle.slices.specs.Order.{count_in, InRange, Sorted}
use Rattle.slices.proofs.Tests.{and_l, and_r, both, same_test}
use Rattle.slices.proofs.Counts.{count-ext}
use Rattle.morton.specs.Keys.{level_of, code_of, ValidKey}
use Rattle.morton.proofs.Checks.{width-le}
use Rattle.refine.specs.Counts.{count_at}

-- a code is from code · 2^w up to (code + 1) · 2^w exactly if it is this code, w bits longer
pub in_span : (w code c : ℕ) → (leb (code * 2 ^ w) c && ltb c ((code + 1) * 2 ^ w)) ≡ eqb (c / 2 ^ w) code
in_span w code c = same_test _ _ into from
  where
    into : (leb (code * 2 ^ w) c && ltb c ((code + 1) * 2 ^ w)) ≡ true → eqb (c / 2 ^ w) code ≡ true
    into h = eq-eqb (c / 2 ^ w) code (div-eq_of_lt-le {k = code} (2 ^ w) {m = c} (leb-true (code * 2 ^ w) c (and_l _ _ h)) (ltb-true c ((code + 1) * 2 ^ w) (and_r (leb (code * 2 ^ w) c) _ h)))

    from : eqb (c / 2 ^ w) code ≡ true → (leb (code * 2 ^ w) c && ltb c ((code + 1) * 2 ^ w)) ≡ true
    from h =
        let e : c / 2 ^ w * 2 ^ w ≡ code * 2 ^ w = ap (λ (n : ℕ). n * 2 ^ w) (eqb-true (c / 2 ^ w) code h) in
        let up : (code + 1) * 2 ^ w ≡ code * 2 ^ w + 2 ^ w = add-mul code 1 (2 ^ w) ∙ ap (λ (n : ℕ). code * 2 ^ w + n) (one-mul (2 ^ w)) in
        both (le-leb (code * 2 ^ w) c (omega (arith, div-mul-le_self c (2 ^ w)))) (lt-ltb c ((code + 1) * 2 ^ w) (omega (arith, lt-div-mul-add {a = c} {b = 2 ^ w} (pow_pos w))))

-- so a count of that span is the cell's
pub count-span : (d level code : ℕ) (codes : List ℕ)
    → count_in (code * 2 ^ (d * (16 - level))) ((code + 1) * 2 ^ (d * (16 - level))) codes ≡ count_at d codes level code
unfolding count_at
count-span d level code codes = count-ext _ _ codes (λ c m. in_span (d * (16 - level)) code c)

-- the span's ends fit, and are what the shifts compute
module _ (d k : ℕ) (v : ValidKey d k) where
  pub span-width : d * (16 - level_of k) ≤ 48
  span-width = width-le d (16 - level_of k) v.most (omega arith)

  bits : d * level_of k + d * (16 - level_of k) ≡ d * 16
  bits = let e : level_of k + (16 - level_of k) ≡ 16 = omega (arith, v.level) in sym (mul-add d (level_of k) (16 - level_of k)) ∙ ap (λ (n : ℕ). d * n) e

  all-bits : d * 16 ≤ 48
  all-bits = omega (arith, v.most)

  pub first_code : code_of k * 2 ^ (d * (16 - level_of k)) % 2 ^ 64 ≡ code_of k * 2 ^ (d * (16 - level_of k))
  first_code = shl_exact (d * level_of k) (d * (16 - level_of k)) 64 v.code (omega (arith, bits, all-bits))

  pub next-code : (code_of k + 1) * 2 ^ (d * (16 - level_of k)) % 2 ^ 64 ≡ (code_of k + 1) * 2 ^ (d * (16 - level_of k))
  next-code = shl_exact (d * level_of k + 1) (d * (16 - level_of k)) 64 (omega (arith, v.code, pow-lt {i = d * level_of k} {j = d * level_of k + 1} (omega arith))) (omega (arith, bits, all-bits))

  pub span-counted : (code level lo hi r : ℕ) (codes : List ℕ) → code ≡ code_of k → level ≡ level_of k
      → lo ≡ code * 2 ^ (d * (16 - level)) % 2 ^ 64 → hi ≡ (code + 1) * 2 ^ (d * (16 - level)) % 2 ^ 64
      → InRange codes lo hi r → Sorted codes → r ≡ count_at d codes (level_of k) (code_of k)
  span-counted code level lo hi r codes ec el elo ehi i s =
      let f : lo ≡ code_of k * 2 ^ (d * (16 - level_of k)) = elo ∙ ap₂ (λ (x l : ℕ). x * 2 ^ (d * (16 - l)) % 2 ^ 64) ec el ∙ first_code in
      let g : hi ≡ (code_of k + 1) * 2 ^ (d * (16 - level_of k)) = ehi ∙ ap₂ (λ (x l : ℕ). (x + 1) * 2 ^ (d * (16 - l)) % 2 ^ 64) ec el ∙ next-code in
      i.counts s ∙ ap₂ (λ (x y : ℕ). count_in x y codes) f g ∙ count-span d (level_of k) (code_of k) codes
