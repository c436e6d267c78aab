-- The owners under several nodes of one level, put one node after the other, and then dealt by level.
use mathlib.Core.Path.{◌≡◌, refl, sym, ap, ap₂, ◌∙◌, subst}
use mathlib.Core.Bool.{Bool, true, false, ◌&&◌, ◌||◌}
use mathlib.Core.List.{List, [], ◌∷◌, ◌++◌}
use Prim.Native.Nat.{ℕ, ◌+◌, ◌*◌, ◌-◌, ◌%◌, ◌≤◌, ◌<◌}
use native.Mathlib.Omega.{arith}
use native.Mathlib.Numerals.{add-one}
use lib.Dec.{eqb}
use lib.ListN.{length, get_or, take, drop, length-append}
use lib.Seq.{slice, take-suc, take-take, take_at, drop_at, get_or-take, length-take-le, take-append-le}
use Rattle.slices.specs.Lists.{any, bit, Mem}
use Rattle.slices.proofs.Counts.{any-elim}
use Rattle.morton.specs.Keys.{under}
use Rattle.tree.proofs.Under.{same-holder}
use Rattle.tree.proofs.Stored.{distinct}
use Rattle.dealing.specs.Dealt.{dealt, by_level, levels_dealt}
use Rattle.dealing.proofs.Laws.{dealt-count, dealt-length}
use Rattle.sourced.specs.Room.{Holds}
use Rattle.sourced.proofs.Putting.{fits}
use Rattle.sourced.specs.Room.{PutsThose}
use Rattle.sourced.proofs.Those.{those-none, those-join}
use Rattle.links.specs.Links.{LinkedTree}
use Rattle.links.proofs.Children.{tree-formed}
use Rattle.descent.specs.Steps.{Parents}
use Rattle.descent.specs.Owners.{owns, owns_under, owns_below}

-- one of two that do not both hold
either : (a b s : Bool) → (a ≡ true → b ≡ true → ⊥) → bit ((a || b) && s) ≡ bit (a && s) + bit (b && s)
either true true s h = absurd (h refl refl)
either true false true h = refl
either true false false h = refl
either false true true h = refl
either false true false h = refl
either false false s h = refl

-- a test of one more
any_last : (p : ℕ → Bool) (xs : List ℕ) (x : ℕ) → any p (xs ++ x ∷ []) ≡ (any p xs || p x)
unfolding any
any_last p [] x = last (p x)
  where
    last : (b : Bool) → (b || false) ≡ b
    last true = refl
    last false = refl
any_last p (y ∷ ys) x = ap (λ b. p y || b) (any_last p ys x) ∙ regroup (p y) (any p ys) (p x)
  where
    regroup : (a b c : Bool) → (a || (b || c)) ≡ ((a || b) || c)
    regroup true b c = refl
    regroup false b c = refl

module _ (d : ℕ) (keys own total links : List ℕ) (t : LinkedTree d keys own total links) (nodes : List ℕ) (c left : ℕ) (a : Parents keys nodes c left) where
  pub none_below : (out : List ℕ) (n : ℕ) → PutsThose keys (owns_below d keys own (take 0 nodes)) out n out n
  unfolding any
  none_below out n = those-none keys (owns_below d keys own []) out n (λ y m h. never h)
    where
      never : false ≡ true → ⊥
      never e = let z : ◌≡◌ {A = ℕ} (bit true) (bit false) = ap bit (sym e) in omega arith

  -- no cell lies under two nodes of one level
  apart : (j y : ℕ) → j < c → any (λ i. under d (get_or keys i 0) y) (take j nodes) ≡ true → under d (get_or keys (get_or nodes j 0) 0) y ≡ true → ⊥
  apart j y l h u =
      let (x, (i, li, e), v) = any-elim (λ i. under d (get_or keys i 0) y) (take j nodes) h in
      let n : i < j = omega (arith, li, length-take-le j nodes (omega (arith, a.few))) in
      let q : get_or nodes i 0 ≡ x = sym (get_or-take j nodes i 0 n) ∙ e in
      let w : under d (get_or keys (get_or nodes i 0) 0) y ≡ true = subst (λ k. under d (get_or keys k 0) y ≡ true) (sym q) v in
      let pi = a.each i (omega arith) in
      let pj = a.each j l in
      let same = same-holder d (get_or keys (get_or nodes i 0) 0) (get_or keys (get_or nodes j 0) 0) y (omega (arith, pi.levels, pj.levels)) w u in
      let one = distinct d keys (tree-formed t).rows.tree.ascending (get_or nodes i 0) (get_or nodes j 0) pi.inside pj.inside same in
      omega (arith, a.apart i j (omega arith) l one)

  pub more-below : (j : ℕ) → j < c → (out₀ out out' : List ℕ) (n m m' : ℕ) → PutsThose keys (owns_below d keys own (take j nodes)) out₀ n out m
      → PutsThose keys (owns_under d keys own (get_or nodes j 0)) out m out' m' → PutsThose keys (owns_below d keys own (take (j + 1) nodes)) out₀ n out' m'
  more-below j l out₀ out out' n m m' before now =
      those-join keys (owns_below d keys own (take j nodes)) (owns_under d keys own (get_or nodes j 0)) (owns_below d keys own (take (j + 1) nodes)) out₀ out out' n m m' split before now
    where
      one : take (j + 1) nodes ≡ take j nodes ++ get_or nodes j 0 ∷ []
      one = ap (λ i. take i nodes) (add-one j) ∙ take-suc nodes j 0 (omega (arith, a.few))

      split : (y : ℕ) → Mem y keys → bit (owns_below d keys own (take (j + 1) nodes) y) ≡ bit (owns_below d keys own (take j nodes) y) + bit (owns_under d keys own (get_or nodes j 0) y)
      split y m =
          ap (λ l. bit (any (λ i. under d (get_or keys i 0) y) l && owns keys own y)) one
          ∙ ap (λ b. bit (b && owns keys own y)) (any_last (λ i. under d (get_or keys i 0) y) (take j nodes) (get_or nodes j 0))
          ∙ either (any (λ i. under d (get_or keys i 0) y) (take j nodes)) (under d (get_or keys (get_or nodes j 0) 0) y) (owns keys own y) (apart j y l)

  pub all-below : (j : ℕ) → j ≤ c → c ≤ j → (out₀ out : List ℕ) (n m : ℕ) → PutsThose keys (owns_below d keys own (take j nodes)) out₀ n out m → PutsThose keys (owns_below d keys own (take c nodes)) out₀ n out m
  all-below j g h out₀ out n m b = let z : j ≡ c = omega arith in subst (λ i. PutsThose keys (owns_below d keys own (take i nodes)) out₀ n out m) z b

-- the part just put, dealt by level through the room past it: the same keys
module _ (keys : List ℕ) (p : ℕ → Bool) (out₀ out out' : List ℕ) (n m : ℕ) (long : length out ≡ length out₀) (kept : length out' ≡ length out) where
  level-few : (x : ℕ) → x % 32 < 32
  level-few x = omega arith

  pub those-dealt : n ≤ m → m ≤ length out → PutsThose keys p out₀ n out m → out' ≡ levels_dealt n (m - n) out → PutsThose keys p out₀ n out' m
  unfolding levels_dealt
  those-dealt f g a e = record {
    cells = dealt (λ k. k % 32) 32 a.cells;
    puts = λ done h. holds done h (a.puts done h);
    those = λ x. dealt-count (λ k. k % 32) a.cells 32 (λ y _. level-few y) (λ c. eqb c x) ∙ a.those x;
  }
    where
      holds : (done : List ℕ) → Holds out₀ n done → Holds out m (done ++ a.cells) → Holds out' m (done ++ dealt (λ k. k % 32) 32 a.cells)
      holds done h k =
          let nd : n ≡ length done = omega (arith, h.counted, long) in
          let md : m ≡ length (done ++ a.cells) = fits out (done ++ a.cells) m k g in
          let all : take m out ≡ done ++ a.cells = ap (λ i. take i out) md ∙ k.begins (omega (arith, md)) in
          let first : take n out ≡ done = sym (take-take n m out f) ∙ ap (take n) all ∙ take_at done a.cells n (sym nd) in
          let to : n + (m - n) ≡ m = omega arith in
          let part : slice n (n + (m - n)) out ≡ a.cells = ap (λ i. slice n i out) to ∙ ap (drop n) all ∙ drop_at done a.cells n (sym nd) in
          let row : take n out ++ by_level n (m - n) out ≡ done ++ dealt (λ k. k % 32) 32 a.cells = ap₂ (λ u v. u ++ v) first (ap (dealt (λ k. k % 32) 32) part) in
          let size : length (done ++ dealt (λ k. k % 32) 32 a.cells) ≡ m =
          length-append done (dealt (λ k. k % 32) 32 a.cells) ∙ ap (λ i. length done + i) (dealt-length (λ k. k % 32) a.cells 32 (λ y _. level-few y)) ∙ sym (length-append done a.cells) ∙ sym md in
          let begins : take m out' ≡ done ++ dealt (λ k. k % 32) 32 a.cells =
          ap (take m) (e ∙ ap (λ u. u ++ by_level n (m - n) out ++ drop (n + 2 * (m - n)) out) row)
          ∙ take-append-le m (done ++ dealt (λ k. k % 32) 32 a.cells ++ by_level n (m - n) out) (drop (n + 2 * (m - n)) out) (omega (arith, size, length-append (done ++ dealt (λ k. k % 32) 32 a.cells) (by_level n (m - n) out)))
          ∙ take_at (done ++ dealt (λ k. k % 32) 32 a.cells) (by_level n (m - n) out) m size in
          record { counted = omega (arith, size, kept, g); begins = λ _. ap (λ i. take i out') size ∙ begins }
