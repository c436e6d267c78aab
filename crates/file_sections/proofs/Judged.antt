-- Entries judged one by one.
use mathlib.Core.Path.{◌≡◌, refl, sym, ap, ◌∙◌}
use mathlib.Core.Bool.{Bool, true, false, ◌&&◌, ◌||◌, cond}
use mathlib.Core.List.{List}
use mathlib.Core.Logic.{⊎_elim}
use Prim.Native.Nat.{ℕ, suc, ◌+◌, ◌*◌, ◌%◌, ◌≤◌, ◌<◌}
use native.Mathlib.Omega.{arith}
use native.Mathlib.Numerals.{add-one}
use lib.Dec.{leb, ltb, eqb}
use lib.ListN.{length, get_or, set, replicate, length-set, get_or-replicate}
use lib.Seq.{get_or-set_same, get_or-set_other}
use borrow.Author.Tests.{leb-true, le-leb, lt-leb, lt-ltb, le-ltb, eq-eqb, ne_eqb}
use Rattle.slices.specs.Every.{every}
use Rattle.slices.proofs.Every.{every-none, every-next, every-at}
use Rattle.slices.proofs.Tests.{and_l, and_r, both, clash, refute, same_or_not}
use Rattle.survey.specs.Bytes.{u32_at}
use Rattle.tree_file.specs.Trailer.{width_of, trailer, code_at, back_at, code_taken, is_inside, is_whole, is_new, entry_of, entry_good}
use Rattle.file_sections.specs.Answers.{section_by, Found}
use Rattle.file_sections.specs.declared.Section.{Section}
use Rattle.file_sections.specs.declared.Section.TheVariants.{Known, Skipped, Bad}

-- ---- one entry, by its three numbers

pub inside-off : (back trailer bytes : ℕ) → trailer < back → false ≡ (leb back trailer && leb bytes back)
inside-off back trailer bytes h = rw (lt-leb back trailer h)

pub inside_on : (back trailer bytes : ℕ) → back ≤ trailer → leb bytes back ≡ (leb back trailer && leb bytes back)
inside_on back trailer bytes h = rw (le-leb back trailer h)

pub whole-8 : (bytes width : ℕ) → width ≡ 8 → eqb (bytes % 8) 0 ≡ cond (eqb width 8) (eqb (bytes % 8) 0) (eqb (bytes % 4) 0)
whole-8 bytes width e = rw (eq-eqb width 8 e)

pub whole-4 : (bytes width : ℕ) → (width ≡ 8 → ⊥) → eqb (bytes % 4) 0 ≡ cond (eqb width 8) (eqb (bytes % 8) 0) (eqb (bytes % 4) 0)
whole-4 bytes width e = rw (ne_eqb width 8 e)

abbrev right : ℕ → ℕ → ℕ → ℕ → Bool
right tr code back bytes = (leb 1 code && leb code 31) && ((leb back tr && leb bytes back) && (ltb 9 code || eqb (bytes % width_of code) 0))

abbrev by : Bool → Bool → ℕ → Section
by a b w = cond a (cond b Skipped (Known w)) Bad

is-bad : (a b : Bool) (w : ℕ) → by a b w ≡ Bad → a ≡ false
is-bad true true w e = let z : ◌≡◌ {A = ℕ} 0 1 = cc in absurd (omega arith)
is-bad true false w e = let z : ◌≡◌ {A = ℕ} 0 1 = cc in absurd (omega arith)
is-bad false b w e = refl

is-skipped : (a b : Bool) (w : ℕ) → by a b w ≡ Skipped → (a ≡ true) × (b ≡ true)
is-skipped true true w e = (refl, refl)
is-skipped true false w e = let z : ◌≡◌ {A = ℕ} 0 1 = cc in absurd (omega arith)
is-skipped false b w e = let z : ◌≡◌ {A = ℕ} 0 1 = cc in absurd (omega arith)

is_known : (a b : Bool) (w x : ℕ) → by a b w ≡ Known x → (a ≡ true) × (b ≡ false) × (x ≡ w)
is_known true true w x e = let z : ◌≡◌ {A = ℕ} 0 1 = cc in absurd (omega arith)
is_known true false w x e = (refl, refl, cc)
is_known false b w x e = let z : ◌≡◌ {A = ℕ} 0 1 = cc in absurd (omega arith)

-- the remainder by the width of a code
by_width : (wide : Bool) (bytes : ℕ) → cond (eqb (cond wide 8 4) 8) (eqb (bytes % 8) 0) (eqb (bytes % 4) 0) ≡ eqb (bytes % cond wide 8 4) 0
by_width true bytes = refl
by_width false bytes = refl

module _ (tr code back bytes : ℕ) (s : Section) (is : s ≡ section_by code) where
  shape : s ≡ by (leb 1 code && leb code 31) (ltb 9 code) (width_of code)
  unfolding section_by
  shape = is

  right-bad : s ≡ Bad → false ≡ right tr code back bytes
  right-bad e = rw (is-bad (leb 1 code && leb code 31) (ltb 9 code) (width_of code) (sym shape ∙ e))

  right-skipped : s ≡ Skipped → (r : Bool) → r ≡ (leb back tr && leb bytes back) → r ≡ right tr code back bytes
  right-skipped e r q = let f = is-skipped (leb 1 code && leb code 31) (ltb 9 code) (width_of code) (sym shape ∙ e) in q ∙ drop-true (leb 1 code && leb code 31) (leb back tr && leb bytes back) (ltb 9 code) (eqb (bytes % width_of code) 0) f.0 f.1
    where
      drop-true : (a i b w : Bool) → a ≡ true → b ≡ true → i ≡ (a && (i && (b || w)))
      drop-true a true b w e f = rw (e, f)
      drop-true a false b w e f = rw e

  right-outside : (x : ℕ) → s ≡ Known x → (r : Bool) → r ≡ (leb back tr && leb bytes back) → r ≡ false → false ≡ right tr code back bytes
  right-outside x e r q n = off (leb 1 code && leb code 31) (leb back tr && leb bytes back) (ltb 9 code || eqb (bytes % width_of code) 0) (sym q ∙ n)
    where
      off : (a i w : Bool) → i ≡ false → false ≡ (a && (i && w))
      off true i w e = rw e
      off false i w e = refl

  right-known : (x : ℕ) → s ≡ Known x → (r : Bool) → r ≡ (leb back tr && leb bytes back) → r ≡ true → (w : Bool) → w ≡ cond (eqb x 8) (eqb (bytes % 8) 0) (eqb (bytes % 4) 0) → w ≡ right tr code back bytes
  right-known x e r q y w v =
      let f = is_known (leb 1 code && leb code 31) (ltb 9 code) (width_of code) x (sym shape ∙ e) in
      v ∙ ap (λ (k : ℕ). cond (eqb k 8) (eqb (bytes % 8) 0) (eqb (bytes % 4) 0)) f.2 ∙ by_width (eqb code 1 || (eqb code 7 || eqb code 9)) bytes
      ∙ on (leb 1 code && leb code 31) (leb back tr && leb bytes back) (ltb 9 code) (eqb (bytes % width_of code) 0) f.0 (sym q ∙ y) f.1
    where
      on : (a i b w : Bool) → a ≡ true → i ≡ true → b ≡ false → w ≡ (a && (i && (b || w)))
      on a i b w e f g = rw (e, f, g)

-- the three numbers of entry i of a file
module _ (file : List ℕ) (tr i : ℕ) (e : tr ≡ trailer file) (code back bytes : ℕ) (ec : code ≡ u32_at file (tr + 12 * i)) (eb : back ≡ u32_at file (tr + 12 * i + 4)) (el : bytes ≡ u32_at file (tr + 12 * i + 8)) where
  right_is : right tr code back bytes ≡ (code_taken file i && (is_inside file i && is_whole file i))
  right_is =
      ap (λ (k : ℕ). right k code back bytes) e
      ∙ ap (λ (k : ℕ). right (trailer file) k back bytes) (ec ∙ ap (λ (k : ℕ). u32_at file (k + 12 * i)) e)
      ∙ ap (λ (k : ℕ). right (trailer file) (code_at file i) k bytes) (eb ∙ ap (λ (k : ℕ). u32_at file (k + 12 * i + 4)) e)
      ∙ ap (λ (k : ℕ). right (trailer file) (code_at file i) (back_at file i) k) (el ∙ ap (λ (k : ℕ). u32_at file (k + 12 * i + 8)) e)

  module _ (s : Section) (is : s ≡ section_by code) where
    pub entry-bad : s ≡ Bad → false ≡ (code_taken file i && (is_inside file i && is_whole file i))
    entry-bad f = right-bad tr code back bytes s is f ∙ right_is

    pub entry-skipped : s ≡ Skipped → (r : Bool) → r ≡ (leb back tr && leb bytes back) → r ≡ (code_taken file i && (is_inside file i && is_whole file i))
    entry-skipped f r q = right-skipped tr code back bytes s is f r q ∙ right_is

    pub entry-outside : (x : ℕ) → s ≡ Known x → (r : Bool) → r ≡ (leb back tr && leb bytes back) → r ≡ false → false ≡ (code_taken file i && (is_inside file i && is_whole file i))
    entry-outside x f r q n = right-outside tr code back bytes s is x f r q n ∙ right_is

    pub entry_known : (x : ℕ) → s ≡ Known x → (r : Bool) → r ≡ (leb back tr && leb bytes back) → r ≡ true → (w : Bool) → w ≡ cond (eqb x 8) (eqb (bytes % 8) 0) (eqb (bytes % 4) 0) → w ≡ (code_taken file i && (is_inside file i && is_whole file i))
    entry_known x f r q y w v = right-known tr code back bytes s is x f r q y w v ∙ right_is

-- ---- all entries

pub record Judging (file : List ℕ) (n : ℕ) (at : List ℕ) (i : ℕ) : Type 0 where
  pub within : i ≤ n
  pub good : every i (entry_good file) ≡ true
  pub size : length at ≡ 32
  pub found : (c : ℕ) → c < 32 → get_or at c 0 ≡ entry_of file i c

module _ (file : List ℕ) (n : ℕ) where
  pub judging-none : Judging file n (replicate 32 0) 0
  unfolding entry_of
  judging-none = record { within = omega arith; good = every-none (entry_good file) 0 refl; size = refl; found = λ c h. get_or-replicate 32 c 0 0 h }

  module _ (at : List ℕ) (i : ℕ) (g : Judging file n at i) where
    entry-off : i < n → entry_good file i ≡ false → every n (entry_good file) ≡ false
    entry-off l q = refute (λ e. clash (every-at (entry_good file) n e i l) q)

    module _ (l : i < n) (r : Bool) (is : r ≡ (code_taken file i && (is_inside file i && is_whole file i))) where
      pub judging-wrong : r ≡ false → every n (entry_good file) ≡ false
      judging-wrong q = entry-off l (off (code_taken file i) (is_new file i) (is_inside file i && is_whole file i) (sym is ∙ q))
        where
          off : (a b c : Bool) → (a && c) ≡ false → (a && (b && c)) ≡ false
          off true true c e = e
          off true false c e = refl
          off false b c e = refl

      module _ (y : r ≡ true) (tr code : ℕ) (e : tr ≡ trailer file) (ec : code ≡ u32_at file (tr + 12 * i)) where
        code_is : code ≡ code_at file i
        code_is = ec ∙ ap (λ (k : ℕ). u32_at file (k + 12 * i)) e

        taken : code_taken file i ≡ true
        taken = and_l (code_taken file i) (is_inside file i && is_whole file i) (sym is ∙ y)

        pub code_below : code < 32
        code_below = omega (arith, code_is, leb-true (code_at file i) 31 (and_r (leb 1 (code_at file i)) (leb (code_at file i) 31) taken))

        seen : get_or at code 0 ≡ entry_of file i (code_at file i)
        seen = g.found code code_below ∙ ap (entry_of file i) code_is

        pub judging-twice : (get_or at code 0 ≡ 0 → ⊥) → every n (entry_good file) ≡ false
        judging-twice h = entry-off l (off (code_taken file i) (is_new file i) (is_inside file i && is_whole file i) (ne_eqb (entry_of file i (code_at file i)) 0 (λ z. h (seen ∙ z))))
          where
            off : (a b c : Bool) → b ≡ false → (a && (b && c)) ≡ false
            off true b c e = rw e
            off false b c e = refl

        pub judging-more : get_or at code 0 ≡ 0 → Judging file n (set at code (i + 1)) (i + 1)
        judging-more z = record {
          within = omega arith;
          good = every-next (entry_good file) (i + 1) i refl good-entry ∙ g.good;
          size = length-set at code (i + 1) ∙ g.size;
          found = λ c h. ap (λ (k : ℕ). get_or (set at code k) c 0) (add-one i) ∙ here c h ∙ ap (λ (k : ℕ). entry_of file k c) (sym (add-one i));
        }
          where
            new : is_new file i ≡ true
            new = eq-eqb (entry_of file i (code_at file i)) 0 (sym seen ∙ z)

            good-entry : entry_good file i ≡ true
            good-entry = both taken (both new (and_r (code_taken file i) (is_inside file i && is_whole file i) (sym is ∙ y)))

            more : (c : ℕ) (b : Bool) → eqb (code_at file i) c ≡ b → entry_of file (suc i) c ≡ cond b (suc i) (entry_of file i c)
            more c b q = unfold entry_of in ap (λ (t : Bool). cond t (suc i) (entry_of file i c)) q

            here : (c : ℕ) → c < 32 → get_or (set at code (suc i)) c 0 ≡ entry_of file (suc i) c
            here c h = ⊎_elim
                (λ q. ap (λ (k : ℕ). get_or (set at code (suc i)) k 0) (sym q) ∙ get_or-set_same at code (suc i) 0 (omega (arith, code_below, g.size)) ∙ sym (more c true (eq-eqb (code_at file i) c (sym code_is ∙ q))))
                (λ q. get_or-set_other at code c (suc i) 0 (λ k. q (sym k)) ∙ g.found c h ∙ sym (more c false (ne_eqb (code_at file i) c (λ k. q (code_is ∙ k)))))
                (same_or_not code c)

    pub judging-done : n ≤ i → Found file n at
    judging-done h =
        let e : i ≡ n = omega (arith, g.within) in
        record { good = ap (λ (k : ℕ). every k (entry_good file)) (sym e) ∙ g.good; size = g.size; found = λ c l. g.found c l ∙ ap (λ (k : ℕ). entry_of file k c) e }

-- ---- none of 1 to 9 is missing

module _ (at : List ℕ) where
  abbrev present : ℕ → Bool
  present c = ltb 0 (get_or at (suc c) 0)

  pub present-none : every 0 present ≡ true
  present-none = every-none present 0 refl

  pub present-off : (c : ℕ) → c < 9 → get_or at (c + 1) 0 ≡ 0 → false ≡ every 9 present
  present-off c l z = sym (refute (λ e. clash (every-at present 9 e c l) (le-ltb 0 (get_or at (suc c) 0) (omega (arith, ap (λ (k : ℕ). get_or at k 0) (add-one c))))))

  pub present-more : (c : ℕ) → every c present ≡ true → (get_or at (c + 1) 0 ≡ 0 → ⊥) → every (c + 1) present ≡ true
  present-more c e z =
      let same = ap (λ (k : ℕ). get_or at k 0) (add-one c) in
      every-next present (c + 1) c refl (lt-ltb 0 (get_or at (suc c) 0) (omega (arith, same, z))) ∙ e

  pub present-all : (c : ℕ) → c ≡ 9 → every c present ≡ true → true ≡ every 9 present
  present-all c q e = sym (ap (λ (k : ℕ). every k present) (sym q) ∙ e)
