-- What the readers answer, as the code finds it.
use mathlib.Core.Path.{◌≡◌, sym, ap, ◌∙◌}
use mathlib.Core.Bool.{false, cond}
use mathlib.Core.List.{List}
use Prim.Native.Nat.{ℕ, suc, ◌+◌, ◌≤◌, ◌<◌}
use native.Mathlib.Omega.{arith}
use native.Mathlib.Numerals.{add-one}
use lib.Dec.{ltb}
use lib.ListN.{length, get_or}
use borrow.Author.Tests.{lt-ltb, le-ltb}
use Rattle.morton.specs.Keys.{level_of}
use Rattle.links.specs.Links.{next_of, inner, after_of}

module _ (keys : List ℕ) (i : ℕ) where
  pub inner_last : length keys ≤ i + 1 → false ≡ inner keys i
  inner_last h = rw (le-ltb (suc i) (length keys) (omega arith))

  pub inner-next : i + 1 < length keys → ltb (level_of (get_or keys i 0)) (level_of (get_or keys (i + 1) 0)) ≡ inner keys i
  inner-next h = rw (lt-ltb (suc i) (length keys) (omega arith), add-one i)

module _ (keys total : List ℕ) (i c : ℕ) (e : c ≡ i + 1) where
  at : c ≡ suc i
  at = e ∙ add-one i

  pub after-here : 0 < get_or total c 0 → c ≡ after_of keys total i
  unfolding after_of
  after-here h = at ∙ sym (ap (λ b. cond b (suc i) (next_of keys total (suc i))) (sym (ap (λ n. ltb 0 (get_or total n 0)) at) ∙ lt-ltb 0 (get_or total c 0) h))

  pub after-past : get_or total c 0 ≤ 0 → (r : ℕ) → r ≡ next_of keys total c → r ≡ after_of keys total i
  unfolding after_of
  after-past h r q = q ∙ ap (next_of keys total) at ∙ sym (ap (λ b. cond b (suc i) (next_of keys total (suc i))) (sym (ap (λ n. ltb 0 (get_or total n 0)) at) ∙ le-ltb 0 (get_or total c 0) h))
