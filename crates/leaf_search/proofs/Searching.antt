-- The last node that begins by a code, by halving and by steps of double length.
use Rattle.std.proofs.Common.{◌≡◌, ℕ, ◌+◌, ◌-◌, ◌*◌, ◌^◌, ◌<◌, ◌≤◌, Bool, true, false, ◌&&◌, leb, List, length, get_or, sym, ap, ◌∙◌, mul-le-mul, le-div_iff_mul-le, arith, pow_pos, eq-eqb, ne_eqb, le-leb, leb-false, leb-true}
use native.Mathlib.Decide.{dec_lt}
use borrow.Author.Tests.{lt-leb}
use Rattle.slices.proofs.Tests.{same_test}
use Rattle.morton.specs.Keys.{level_of, code_of, above}
use Rattle.tree.specs.Nodes.{leaf}
use Rattle.tree.specs.Order.{size, first}
use Rattle.tree.specs.Finding.{TreeKeys}
use Rattle.tree.proofs.Rules.{Ascending}
use Rattle.tree.proofs.Ranges.{level-le, first-mono}
use Rattle.tree.proofs.Leaves.{tree_of}
use Rattle.leaf_search.specs.Search.{LastNode, leaf_holds, Between}

-- a shift to the level of a node
pub shift-few : (d n : ℕ) → d ≤ 3 → n ≤ 16 → d * n ≤ 48
shift-few d n h l = mul-le-mul {n₁ = d} {m₁ = n} {n₂ = 3} {m₂ = 16} h l

-- a node begins by a code if its own is at most the code's at its level
pub first-test : (d k code u : ℕ) → u ≡ above d (16 - level_of k) code → leb (code_of k) u ≡ leb (first d k) code
unfolding first size
first-test d k code u e = same_test (leb (code_of k) u) (leb (first d k) code)
    (λ h. le-leb (first d k) code ((le-div_iff_mul-le {k = 2 ^ (d * (16 - level_of k))} {x = code_of k} {y = code} (pow_pos (d * (16 - level_of k)))).0 (omega (arith, leb-true (code_of k) u h))))
    (λ h. le-leb (code_of k) u (omega (arith, (le-div_iff_mul-le {k = 2 ^ (d * (16 - level_of k))} {x = code_of k} {y = code} (pow_pos (d * (16 - level_of k)))).1 (leb-true (first d k) code h))))

module _ (d : ℕ) (keys : List ℕ) (k : TreeKeys d keys) (code : ℕ) where
  abbrev asc : Ascending d keys
  asc = (tree_of d keys k).ascending

  pub node-level : (i : ℕ) → i < length keys → level_of (get_or keys i 0) ≤ 16
  node-level = level-le d keys asc

  pub between-low : (low high m : ℕ) → Between d keys code low high → m < high → leb (first d (get_or keys m 0)) code ≡ true → Between d keys code m high
  between-low low high m b l t = record { apart = l; most = b.most; below = leb-true (first d (get_or keys m 0)) code t; above = b.above }

  pub between-high : (low high m : ℕ) → Between d keys code low high → low < m → m < high → leb (first d (get_or keys m 0)) code ≡ false → Between d keys code low m
  between-high low high m b l u t = record { apart = l; most = omega (arith, b.most); below = b.below; above = λ _. leb-false (first d (get_or keys m 0)) code t }

  pub between_done : (low high : ℕ) → Between d keys code low high → high ≤ low + 1 → LastNode d keys code low
  between_done low high h e = record {
    within = omega (arith, h.apart, h.most);
    splits = λ j l. go j l (dec_lt low j);
  }
    where
      go : (j : ℕ) → j < length keys → Dec (low < j) → leb (first d (get_or keys j 0)) code ≡ leb j low
      go j l (no n) = le-leb (first d (get_or keys j 0)) code (omega (arith, h.below, first-mono d keys asc j low (omega arith) (omega (arith, h.apart, h.most)))) ∙ sym (le-leb j low (omega arith))
      go j l (yes s) =
          let q : high ≤ j = omega arith in
          lt-leb (first d (get_or keys j 0)) code (omega (arith, h.above (omega arith), first-mono d keys asc high j q l)) ∙ sym (lt-leb j low s)

  -- up to a node that begins after the code, and up to the end
  pub up-to-node : (low high : ℕ) → low < high → high < length keys → first d (get_or keys low 0) ≤ code → leb (first d (get_or keys high 0)) code ≡ false → Between d keys code low high
  up-to-node low high l u b t = record { apart = l; most = omega arith; below = b; above = λ _. leb-false (first d (get_or keys high 0)) code t }

  pub up-to-end : (low : ℕ) → low < length keys → first d (get_or keys low 0) ≤ code → Between d keys code low (length keys)
  up-to-end low l b = record { apart = l; most = omega arith; below = b; above = λ h. absurd (omega arith) }

  -- all nodes
  pub between-all : Between d keys code 0 (length keys)
  unfolding first
  between-all = up-to-end 0 k.some (rw asc.root (omega arith))

  -- whether a node is a leaf that holds the code, test by test
  module _ (i u : ℕ) (e : u ≡ above d (16 - level_of (get_or keys i 0)) code) where
    pub not-holds : (u ≡ code_of (get_or keys i 0) → ⊥) → false ≡ leaf_holds d keys code i
    not-holds n = sym (ap (λ b. b && leaf d keys (get_or keys i 0)) (ne_eqb (above d (16 - level_of (get_or keys i 0)) code) (code_of (get_or keys i 0)) (λ q. n (e ∙ q))))

    pub holds-if : u ≡ code_of (get_or keys i 0) → (r : Bool) → r ≡ leaf d keys (get_or keys i 0) → r ≡ leaf_holds d keys code i
    holds-if q r l = l ∙ sym (ap (λ b. b && leaf d keys (get_or keys i 0)) (eq-eqb (above d (16 - level_of (get_or keys i 0)) code) (code_of (get_or keys i 0)) (sym e ∙ q)))
