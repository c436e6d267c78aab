-- A cell's sources by the sums: those up to its last cell, without those before its first.
use mathlib.Core.Path.{◌≡◌, sym, ap, ap₂, ◌∙◌}
use mathlib.Core.Bool.{◌&&◌}
use mathlib.Core.List.{List}
use Prim.Native.Nat.{ℕ, suc, ◌+◌, ◌*◌, ◌-◌, ◌/◌, ◌%◌, ◌^◌, ◌≤◌, ◌<◌}
use native.Mathlib.Nat.{mul-add, add-mul, one-mul, mul-le-mul_right}
use native.Mathlib.Omega.{arith}
use lib.Dec.{leb, ltb, eqb}
use lib.ListN.{length, get_or, get_or-eq_default}
use lib.Pow.{pow_pos, pow-lt, pow-add, shl_exact, shr-shr}
use Rattle.slices.specs.Lists.{count}
use Rattle.slices.proofs.Counts.{count-ext}
use Rattle.morton.specs.Keys.{level_of, code_of, above, ValidKey}
use Rattle.morton.proofs.Checks.{width-le}
use Rattle.refine.specs.Counts.{count_at, sources_in}
use Rattle.refine.proofs.Spans.{in_span}
use Rattle.refine.specs.Sums.{cells_above, bits_below, Sums}
use Rattle.refine.proofs.Upto.{before_cell, up-to-is, before-none, before_split}

module _ (d depth k : ℕ) (v : ValidKey d k) (l : level_of k < depth) (shallow : depth ≤ 16) where
  -- how many levels the cell lies above those of the sums
  abbrev up : ℕ
  up = depth - 1 - level_of k

  -- the first of its cells there, and the first after them
  abbrev lo : ℕ
  lo = code_of k * 2 ^ (d * up)

  abbrev hi : ℕ
  hi = (code_of k + 1) * 2 ^ (d * up)

  bits-down : bits_below d depth + d * up ≡ d * (16 - level_of k)
  bits-down = let e : (16 - (depth - 1)) + up ≡ 16 - level_of k = omega arith in sym (mul-add d (16 - (depth - 1)) up) ∙ ap (λ (n : ℕ). d * n) e

  bits_up : d * level_of k + d * up ≡ d * (depth - 1)
  bits_up = let e : level_of k + up ≡ depth - 1 = omega arith in sym (mul-add d (level_of k) up) ∙ ap (λ (n : ℕ). d * n) e

  pub up-width : d * up ≤ 48
  up-width = width-le d up v.most (omega arith)

  all-width : d * (depth - 1) ≤ 48
  all-width = width-le d (depth - 1) v.most (omega arith)

  hi-is : hi ≡ lo + 2 ^ (d * up)
  hi-is = add-mul (code_of k) 1 (2 ^ (d * up)) ∙ ap (λ (n : ℕ). lo + n) (one-mul (2 ^ (d * up)))

  pub lo-first : lo < hi
  lo-first = omega (arith, hi-is, pow_pos (d * up))

  pub hi-last : hi ≤ cells_above d depth
  hi-last = rw (← bits_up, pow-add 2 (d * level_of k) (d * up)) (mul-le-mul_right (2 ^ (d * up)) (omega (arith, v.code)))

  -- what the shifts compute
  pub lo-exact : lo % 2 ^ 64 ≡ lo
  lo-exact = shl_exact (d * level_of k) (d * up) 64 v.code (omega (arith, bits_up, all-width))

  pub hi-exact : hi % 2 ^ 64 ≡ hi
  hi-exact = shl_exact (d * level_of k + 1) (d * up) 64 (omega (arith, v.code, pow-lt {i = d * level_of k} {j = d * level_of k + 1} (omega arith))) (omega (arith, bits_up, all-width))

  pub record Ends (from to : ℕ) : Type 0 where
    pub first : from ≡ lo
    pub next : to ≡ hi

  pub ends : (code level : ℕ) → code ≡ code_of k → level ≡ level_of k
      → Ends (code * 2 ^ (d * (depth - 1 - level)) % 2 ^ 64) ((code + 1) * 2 ^ (d * (depth - 1 - level)) % 2 ^ 64)
  ends code level ec el = record {
    first = ap₂ (λ (x n : ℕ). x * 2 ^ (d * (depth - 1 - n)) % 2 ^ 64) ec el ∙ lo-exact;
    next = ap₂ (λ (x n : ℕ). (x + 1) * 2 ^ (d * (depth - 1 - n)) % 2 ^ 64) ec el ∙ hi-exact;
  }

  -- a code lies in the cell where its cell there is one from lo up to hi
  in_cell : (c : ℕ) → eqb (above d (16 - level_of k) c) (code_of k) ≡ (leb lo (c / 2 ^ bits_below d depth) && ltb (c / 2 ^ bits_below d depth) hi)
  in_cell c =
      ap (λ (n : ℕ). eqb (c / 2 ^ n) (code_of k)) (sym bits-down)
      ∙ ap (λ (n : ℕ). eqb n (code_of k)) (sym (shr-shr c (bits_below d depth) (d * up)))
      ∙ sym (in_span (d * up) (code_of k) (c / 2 ^ bits_below d depth))

  module _ (sources : List ℕ) where
    counted : sources_in d sources k ≡ count (λ c. leb lo (c / 2 ^ bits_below d depth) && ltb (c / 2 ^ bits_below d depth) hi) sources
    unfolding count_at
    counted = count-ext _ _ sources (λ c m. in_cell c)

    whole : before_cell (bits_below d depth) sources hi ≡ before_cell (bits_below d depth) sources lo + sources_in d sources k
    whole = omega (arith, before_split (bits_below d depth) sources lo hi (omega (arith, lo-first)), counted)

    module _ (sums : List ℕ) (s : Sums d depth sources sums) where
      sum-at : (n : ℕ) → 1 ≤ n → n ≤ cells_above d depth → get_or sums (n - 1) 0 ≡ before_cell (bits_below d depth) sources n
      sum-at n h b =
          let e : suc (n - 1) ≡ n = omega arith in
          s.each (n - 1) (omega arith) ∙ up-to-is (bits_below d depth) sources (n - 1) ∙ ap (before_cell (bits_below d depth) sources) e

      pub none_in : length sums ≡ 0 → 0 ≡ sources_in d sources k
      none_in z =
          omega (
            arith,
            sum-at hi (omega (arith, lo-first)) hi-last,
            get_or-eq_default sums 0 {n = hi - 1} (omega arith),
            whole,
          )

      module _ (from to : ℕ) (g : Ends from to) where
        pub to_room : 0 < length sums → to - 1 < length sums
        to_room h = omega (arith, g.next, lo-first, hi-last, s.room h)

        pub from-room : 0 < length sums → from - 1 < length sums
        from-room h = omega (arith, g.first, lo-first, hi-last, s.room h)

        at-to : get_or sums (to - 1) 0 ≡ before_cell (bits_below d depth) sources hi
        at-to = ap (λ (n : ℕ). get_or sums (n - 1) 0) g.next ∙ sum-at hi (omega (arith, lo-first)) hi-last

        at_from : 0 < from → get_or sums (from - 1) 0 ≡ before_cell (bits_below d depth) sources lo
        at_from h = ap (λ (n : ℕ). get_or sums (n - 1) 0) g.first ∙ sum-at lo (omega (arith, g.first)) (omega (arith, lo-first, hi-last))

        pub first-in : from ≡ 0 → get_or sums (to - 1) 0 ≡ sources_in d sources k
        first-in z =
            omega (
              arith,
              at-to,
              whole,
              ap (before_cell (bits_below d depth) sources) (sym g.first ∙ z),
              before-none (bits_below d depth) sources,
            )

        pub no_less : 0 < from → get_or sums (from - 1) 0 ≤ get_or sums (to - 1) 0
        no_less h = omega (arith, at-to, at_from h, whole)

        pub later-in : 0 < from → get_or sums (to - 1) 0 - get_or sums (from - 1) 0 ≡ sources_in d sources k
        later-in h = omega (arith, at-to, at_from h, whole)
