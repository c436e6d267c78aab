-- Lines of nodes with numbers that count on, and the loops that put them.
use mathlib.Core.Path.{◌≡◌, refl, sym, ap, ◌∙◌}
use mathlib.Core.Bool.{Bool, true, false, cond}
use mathlib.Core.List.{List, [], ◌∷◌, ◌++◌, append_assoc, append-nil}
use Prim.Native.Nat.{ℕ, suc, ◌+◌, ◌-◌, ◌≤◌, ◌<◌}
use native.Mathlib.Omega.{arith}
use lib.ListN.{length, length-append}
use Rattle.slices.specs.Lists.{filter, range}
use Rattle.slices.proofs.Lists.{filter-append, range-append}
use Rattle.sourced.specs.Room.{Puts}
use Rattle.text.specs.Listing.{node_line, lines_from}
use Rattle.text.proofs.Putting.{Turns, puts-same, turns-none, turns_more, turns-all}

-- ---- those of the first i numbers that pass a test

module _ (p : ℕ → Bool) where
  pub picked_none : filter p (range 0 0) ≡ []
  unfolding filter range
  picked_none = refl

  one : (a i : ℕ) → a ≡ i → filter p (range a 1) ≡ cond (p i) (i ∷ []) []
  unfolding filter range
  one a i e = ap (λ (x : ℕ). cond (p x) (x ∷ []) []) e

  picked : (i : ℕ) → filter p (range 0 (i + 1)) ≡ filter p (range 0 i) ++ cond (p i) (i ∷ []) []
  picked i = ap (filter p) (range-append 0 i 1) ∙ filter-append p (range 0 i) (range (0 + i) 1) ∙ ap (λ (l : List ℕ). filter p (range 0 i) ++ l) (one (0 + i) i (omega arith))

  pub picked-yes : (i : ℕ) → p i ≡ true → filter p (range 0 (i + 1)) ≡ filter p (range 0 i) ++ i ∷ []
  picked-yes i e = picked i ∙ ap (λ (b : Bool). filter p (range 0 i) ++ cond b (i ∷ []) []) e

  pub picked-no : (i : ℕ) → p i ≡ false → filter p (range 0 (i + 1)) ≡ filter p (range 0 i)
  picked-no i e = picked i ∙ ap (λ (b : Bool). filter p (range 0 i) ++ cond b (i ∷ []) []) e ∙ append-nil (filter p (range 0 i))

  -- one that passes is still to be counted
  picked-less : (i n : ℕ) → i < n → p i ≡ true → length (filter p (range 0 i)) < length (filter p (range 0 n))
  picked-less i n l e =
      let s : (i + 1) + (n - (i + 1)) ≡ n = omega arith in
      let t = ap (λ (k : ℕ). length (filter p (range 0 k))) (sym s) ∙ ap (λ (x : List ℕ). length (filter p x)) (range-append 0 (i + 1) (n - (i + 1)))
      ∙ ap length (filter-append p (range 0 (i + 1)) (range (0 + (i + 1)) (n - (i + 1))))
      ∙ length-append (filter p (range 0 (i + 1))) (filter p (range (0 + (i + 1)) (n - (i + 1)))) in
      omega (arith, t, ap length (picked-yes i e) ∙ length-append (filter p (range 0 i)) (i ∷ []))

-- ---- lines

module _ (key own : List ℕ) (u v : ℕ → List ℕ) where
  lines-append : (n : ℕ) (xs ys : List ℕ) → lines_from key own u v n (xs ++ ys) ≡ lines_from key own u v n xs ++ lines_from key own u v (n + length xs) ys
  unfolding lines_from
  lines-append n [] ys = ap (λ (k : ℕ). lines_from key own u v k ys) (omega arith)
  lines-append n (x ∷ xs) ys =
      let e : suc n + length xs ≡ n + length (x ∷ xs) = omega arith in
      ap (λ (l : List ℕ). node_line key own u v n x ++ l) (lines-append (suc n) xs ys ∙ ap (λ (k : ℕ). lines_from key own u v (suc n) xs ++ lines_from key own u v k ys) e)
      ∙ sym (append_assoc (node_line key own u v n x) (lines_from key own u v (suc n) xs) (lines_from key own u v (n + length (x ∷ xs)) ys))

  lines_none : (n : ℕ) → lines_from key own u v n [] ≡ []
  unfolding lines_from
  lines_none n = refl

  lines-one : (n i : ℕ) → node_line key own u v n i ≡ lines_from key own u v n (i ∷ [])
  unfolding lines_from
  lines-one n i = sym (append-nil (node_line key own u v n i))

  -- after i turns of a loop that puts the lines of the nodes `nodes i`, numbered from `first` on; `next` is the number of the next line
  pub record Lined (nodes : ℕ → List ℕ) (first : ℕ) (out₀ : List ℕ) (n : ℕ) (out : List ℕ) (end next i most : ℕ) : Type 0 where
    pub turns : Turns (λ k. lines_from key own u v first (nodes k)) out₀ n out end i most
    pub number : next ≡ first + length (nodes i)

  pub lined-none : (nodes : ℕ → List ℕ) (first : ℕ) (out : List ℕ) (n most : ℕ) → nodes 0 ≡ [] → Lined nodes first out n out n first 0 most
  lined-none nodes first out n most e = record {
    turns = turns-none (λ k. lines_from key own u v first (nodes k)) out n most (ap (lines_from key own u v first) e ∙ lines_none first);
    number = omega (arith, ap length e);
  }

  module _ (nodes : ℕ → List ℕ) (first : ℕ) (out₀ : List ℕ) (n : ℕ) (out : List ℕ) (end next i most : ℕ) (g : Lined nodes first out₀ n out end next i most) where
    -- a turn that puts the lines of some nodes
    pub lined-more : i < most → (out' more : List ℕ) (end' next' : ℕ) → length out' ≡ length out → Puts out end (lines_from key own u v next more) out' end' → next' ≡ next + length more
        → nodes (i + 1) ≡ nodes i ++ more → Lined nodes first out₀ n out' end' next' (i + 1) most
    lined-more l out' more end' next' same p k e = record {
      turns = turns_more (λ k. lines_from key own u v first (nodes k)) out₀ out n end i most g.turns l out' (lines_from key own u v next more) end' same p
          (ap (lines_from key own u v first) e ∙ lines-append first (nodes i) more ∙ ap (λ (k : ℕ). lines_from key own u v first (nodes i) ++ lines_from key own u v k more) (sym g.number));
      number = omega (arith, g.number, ap length e ∙ length-append (nodes i) more);
    }

    -- a turn that puts the line of node i
    pub lined-node : i < most → (out' : List ℕ) (end' : ℕ) → length out' ≡ length out → Puts out end (node_line key own u v next i) out' end' → nodes (i + 1) ≡ nodes i ++ i ∷ []
        → Lined nodes first out₀ n out' end' (next + 1) (i + 1) most
    lined-node l out' end' same p e = lined-more l out' (i ∷ []) end' (next + 1) same (puts-same out out' (node_line key own u v next i) (lines_from key own u v next (i ∷ [])) end end' (lines-one next i) p) refl e

    -- a turn that puts none
    pub lined-same : i < most → nodes (i + 1) ≡ nodes i → Lined nodes first out₀ n out end next (i + 1) most
    lined-same l e = record {
      turns = record {
        within = omega arith;
        kept = g.turns.kept;
        puts = puts-same out₀ out (lines_from key own u v first (nodes i)) (lines_from key own u v first (nodes (i + 1))) n end (ap (lines_from key own u v first) (sym e)) g.turns.puts;
      };
      number = omega (arith, g.number, ap length e);
    }

    pub lined-all : most ≤ i → (Puts out₀ n (lines_from key own u v first (nodes most)) out end) × (next ≡ first + length (nodes most))
    lined-all l =
        let e : i ≡ most = omega (arith, g.turns.within) in
        (turns-all (λ k. lines_from key own u v first (nodes k)) out₀ out n end i most g.turns l (lines_from key own u v first (nodes most)) refl, g.number ∙ ap (λ (k : ℕ). first + length (nodes k)) e)

  -- the number of a node that passes the test is below what all numbers are
  pub lined-less : (p : ℕ → Bool) (first : ℕ) (out₀ : List ℕ) (n : ℕ) (out : List ℕ) (end next i most : ℕ) → Lined (λ k. filter p (range 0 k)) first out₀ n out end next i most
      → i < most → p i ≡ true → (all : ℕ) → first + length (filter p (range 0 most)) ≤ all → next < all
  lined-less p first out₀ n out end next i most g l e all h = omega (arith, g.number, picked-less p i most l e)
