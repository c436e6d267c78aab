-- What a code is for, and when an entry is right.
use mathlib.Core.Path.{◌≡◌, refl, sym, ap, ap₂, ◌∙◌}
use mathlib.Core.Bool.{Bool, true, false, ◌&&◌, ◌||◌, cond}
use mathlib.Core.List.{List}
use mathlib.Core.Logic.{◌⊎◌, inl, inr, ⊎_elim}
use Prim.Native.Nat.{ℕ, suc, ◌+◌, ◌*◌, ◌%◌, ◌≤◌, ◌<◌}
use native.Mathlib.Omega.{arith}
use lib.Dec.{leb, ltb, eqb}
use borrow.Author.Tests.{le-leb, lt-leb, lt-ltb, le-ltb, ne_eqb, eqb-true, ltb-true, leb-true}
use Rattle.slices.proofs.Tests.{both}
use Rattle.tree_file.specs.Trailer.{width_of}
use Rattle.file_sections.specs.Answers.{section_by}
use Rattle.file_sections.specs.declared.Section.{Section}
use Rattle.file_sections.specs.declared.Section.TheVariants.{Known, Skipped, Bad}

pub of-wide : (code : ℕ) → (code ≡ 1) ⊎ ((code ≡ 7) ⊎ (code ≡ 9)) → Known 8 ≡ section_by code
of-wide code h = ⊎_elim (λ e. sym (ap section_by e ∙ one)) (⊎_elim (λ e. sym (ap section_by e ∙ seven)) (λ e. sym (ap section_by e ∙ nine))) h
  where
    one : section_by 1 ≡ Known 8
    one = unfold section_by in refl

    seven : section_by 7 ≡ Known 8
    seven = unfold section_by in refl

    nine : section_by 9 ≡ Known 8
    nine = unfold section_by in refl

pub of-eight : (code : ℕ) → code ≡ 8 → Known 4 ≡ section_by code
of-eight code e = sym (ap section_by e ∙ eight)
  where
    eight : section_by 8 ≡ Known 4
    eight = unfold section_by in refl

pub of_narrow : (code : ℕ) → ((code ≡ 1) ⊎ ((code ≡ 7) ⊎ (code ≡ 9)) → ⊥) → 1 ≤ code → code ≤ 6 → Known 4 ≡ section_by code
unfolding section_by
of_narrow code h a b =
    let t : ltb 9 code ≡ false = le-ltb 9 code (omega arith) in
    let l : leb 1 code ≡ true = le-leb 1 code (omega arith) in
    let m : leb code 31 ≡ true = le-leb code 31 (omega arith) in
    let p : eqb code 1 ≡ false = ne_eqb code 1 (λ e. h (inl e)) in
    let q : eqb code 7 ≡ false = ne_eqb code 7 (λ e. h (inr (inl e))) in
    let r : eqb code 9 ≡ false = ne_eqb code 9 (λ e. h (inr (inr e))) in
    rw (t, l, m, p, q, r)

pub of-later : (code : ℕ) → ((code ≡ 1) ⊎ ((code ≡ 7) ⊎ (code ≡ 9)) → ⊥) → (code ≡ 8 → ⊥) → 7 ≤ code → code ≤ 31 → Skipped ≡ section_by code
unfolding section_by
of-later code h g a b =
    let p : code ≡ 7 → ⊥ = λ e. h (inr (inl e)) in
    let q : code ≡ 9 → ⊥ = λ e. h (inr (inr e)) in
    let t : ltb 9 code ≡ true = lt-ltb 9 code (omega (arith, p, q, g)) in
    let l : leb 1 code ≡ true = le-leb 1 code (omega arith) in
    let m : leb code 31 ≡ true = le-leb code 31 b in
    rw (t, l, m)

pub of_none : (code : ℕ) → code < 1 → Bad ≡ section_by code
unfolding section_by
of_none code a = let l : leb 1 code ≡ false = lt-leb 1 code a in rw l

pub of-past : (code : ℕ) → 31 < code → Bad ≡ section_by code
unfolding section_by
of-past code a =
    let l : leb 1 code ≡ true = le-leb 1 code (omega arith) in
    let m : leb code 31 ≡ false = lt-leb code 31 a in
    rw (l, m)
