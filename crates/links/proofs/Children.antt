-- The walk along a node's children meets the sourced ones, each once, in ascending order.
use mathlib.Core.Path.{◌≡◌, refl, sym, ap, ◌∙◌, subst}
use mathlib.Core.Bool.{Bool, true, false, cond}
use mathlib.Core.List.{List, [], ◌∷◌, ◌++◌, append-nil}
use Prim.Native.Nat.{ℕ, suc, ◌+◌, ◌-◌, ◌≤◌, ◌<◌}
use native.Mathlib.Omega.{arith}
use native.Mathlib.Nat.{zero-add}
use native.Mathlib.Decide.{dec_lt}
use lib.Dec.{leb, ltb}
use lib.ListN.{length, get_or}
use borrow.Author.Tests.{ltb-true, ltb-false, lt-ltb, eq-eqb}
use Rattle.slices.specs.Lists.{filter, range, Mem}
use Rattle.slices.proofs.Tests.{and_l, and_r, both, refute}
use Rattle.slices.proofs.Counts.{here, there}
use Rattle.slices.proofs.Lists.{filter-append, length-range, get_or-range, range-append}
use Rattle.morton.specs.Keys.{level_of, parent}
use Rattle.tree.specs.Nodes.{child_of}
use Rattle.tree.specs.WellFormed.{totals_right}
use Rattle.tree.specs.Order.{end_of}
use Rattle.tree.specs.WellFormed.{SoundTree}
use Rattle.tree.proofs.Rules.{Formed, facts, rows_of, total-facts}
use Rattle.tree.proofs.Ends.{ends}
use Rattle.tree.proofs.Laws.{under-range, first-child}
use Rattle.tree.proofs.Sourced.{child-under}
use Rattle.links.specs.Links.{next_of, inner, after_of, sourced_child, Linked, Links, LinkedTree}
use Rattle.links.proofs.Links.{Next, next-is}
use Rattle.links.proofs.Walk.{inner-inside, inner-deeper, sourced-at, formed-linked, level, later, next-child, next-over}

-- ---- those of the first numbers that pass
pub filter_none : (p : ℕ → Bool) (xs : List ℕ) → ((x : ℕ) → Mem x xs → p x ≡ false) → filter p xs ≡ []
unfolding filter
filter_none p [] h = refl
filter_none p (x ∷ xs) h = ap (λ b. cond b (x ∷ filter p xs) (filter p xs)) (h x (here x xs)) ∙ filter_none p xs (λ y m. h y (there x y xs m))

mem-between : (a n x : ℕ) → Mem x (range a n) → (a ≤ x) × (x < a + n)
mem-between a n x (i, l, e) =
    let lt : i < n = rw (length-range a n) at l in
    let g = get_or-range a n i lt in
    (omega (arith, g, e), omega (arith, g, e))

-- none between
pub filter-gap : (p : ℕ → Bool) (a b : ℕ) → a ≤ b → ((j : ℕ) → a ≤ j → j < b → p j ≡ false) → filter p (range 0 b) ≡ filter p (range 0 a)
filter-gap p a b h none =
    let e : b ≡ a + (b - a) = omega arith in
    ap (λ n. filter p (range 0 n)) e ∙ ap (filter p) (range-append 0 a (b - a)) ∙ filter-append p (range 0 a) (range (0 + a) (b - a))
    ∙ ap (λ (l : List ℕ). filter p (range 0 a) ++ l) (filter_none p (range (0 + a) (b - a)) (λ x m. let (lo, hi) = mem-between (0 + a) (b - a) x m in none x (omega arith) (omega arith)))
    ∙ append-nil (filter p (range 0 a))

-- one more that passes, or does not
module _ (p : ℕ → Bool) (a : ℕ) where
  upto : filter p (range 0 (suc a)) ≡ filter p (range 0 a) ++ filter p (range a 1)
  upto =
      let e : suc a ≡ a + 1 = omega arith in
      ap (λ n. filter p (range 0 n)) e ∙ ap (filter p) (range-append 0 a 1) ∙ filter-append p (range 0 a) (range (0 + a) 1) ∙ ap (λ n. filter p (range 0 a) ++ filter p (range n 1)) (zero-add a)

  last : (b : Bool) → p a ≡ b → filter p (range a 1) ≡ cond b (a ∷ []) []
  unfolding filter range
  last b e = ap (λ b. cond b (a ∷ []) []) e

  pub filter-here : p a ≡ true → filter p (range 0 (suc a)) ≡ filter p (range 0 a) ++ a ∷ []
  filter-here h = upto ∙ ap (λ (l : List ℕ). filter p (range 0 a) ++ l) (last true h)

  pub filter-past : p a ≡ false → filter p (range 0 (suc a)) ≡ filter p (range 0 a)
  filter-past h = upto ∙ ap (λ (l : List ℕ). filter p (range 0 a) ++ l) (last false h) ∙ append-nil (filter p (range 0 a))

-- ---- the tree with its totals, and with its links
sound-formed : {d : ℕ} {keys own total : List ℕ} → (t : SoundTree d keys own) → totals_right d keys own total ≡ true → Formed d keys own t.begin total
sound-formed {d} {keys} {own} {total} t h =
    let w = facts d keys own t.begin t.sound in
    let (long, right) = total-facts d keys own total h in
    record { owns = w.owns; begins = w.begins; totals = long; some = w.some; rows = rows_of d keys own t.begin w; totalled = right }

-- what `link_nodes` asks, and what it makes
pub sound-linked : {d : ℕ} {keys own total : List ℕ} → SoundTree d keys own → totals_right d keys own total ≡ true → Linked keys total
sound-linked {d} {keys} {own} {total} t h = formed-linked d keys own t.begin total (sound-formed t h)

pub linked-tree : {d : ℕ} {keys own total old links : List ℕ} → SoundTree d keys own → totals_right d keys own total ≡ true → length keys ≤ length old → Links keys total old links → LinkedTree d keys own total links
linked-tree t h room l = record { tree = t; totals = h; room = omega (arith, l.long); right = l.right }

pub tree-formed : {d : ℕ} {keys own total links : List ℕ} → (t : LinkedTree d keys own total links) → Formed d keys own t.tree.begin total
tree-formed t = sound-formed t.tree t.totals

pub tree-linked : {d : ℕ} {keys own total links : List ℕ} → LinkedTree d keys own total links → Linked keys total
tree-linked t = sound-linked t.tree t.totals

module _ (d : ℕ) (keys own begin total : List ℕ) (w : Formed d keys own begin total) (node : ℕ) (l : node < length keys) where
  k : Linked keys total
  k = formed-linked d keys own begin total w

  nx : (i : ℕ) → i < length keys → Next keys total i (next_of keys total i)
  nx i h = next-is keys total w.totals i h

  -- what a sourced child is
  pub child-facts : (j : ℕ) → j < length keys → sourced_child d keys own node j ≡ true → (node < j) × (j < end_of keys node) × (0 < get_or total j 0) × (level_of (get_or keys j 0) ≡ suc (level_of (get_or keys node 0)))
  child-facts j lj h =
      let ch = and_l (child_of d (get_or keys node 0) (get_or keys j 0)) _ h in
      let u = sym (under-range d keys w.rows.tree node j l lj) ∙ child-under d (get_or keys node 0) (get_or keys j 0) ch in (
        later d keys own begin total w node j l lj ch,
        ltb-true j (end_of keys node) (and_r (leb node j) _ u),
        ltb-true 0 (get_or total j 0) (sym (sourced-at d keys own begin total w j lj) ∙ and_r (child_of d (get_or keys node 0) (get_or keys j 0)) _ h),
        level d keys own begin total w node j l lj ch,
      )

  -- the walk has come to c
  pub record At (c : ℕ) : Type 0 where
    pub most : c ≤ next_of keys total node
    pub child : c < next_of keys total node → (c < length keys) × (sourced_child d keys own node c ≡ true)

  -- from a child on
  pub hop : (c : ℕ) → c < length keys → child_of d (get_or keys node 0) (get_or keys c 0) ≡ true → At (next_of keys total c)
  hop c lc h = record { most = most (dec_lt (next_of keys total c) (end_of keys node)); child = λ s. child s (dec_lt (next_of keys total c) (end_of keys node)) }
    where
      most : Dec (next_of keys total c < end_of keys node) → next_of keys total c ≤ next_of keys total node
      most (yes s) = omega (arith, (nx node l).from)
      most (no s) = omega (arith, next-over d keys own begin total w node c l lc h (omega arith))

      child : next_of keys total c < next_of keys total node → Dec (next_of keys total c < end_of keys node) → (next_of keys total c < length keys) × (sourced_child d keys own node (next_of keys total c) ≡ true)
      child s (no r) = absurd (omega (arith, next-over d keys own begin total w node c l lc h (omega arith)))
      child s (yes r) =
          let (ch, so) = next-child d keys own begin total w node c l lc h r in
          let ln : next_of keys total c < length keys = omega (arith, (nx node l).within) in
          (ln, both ch (sourced-at d keys own begin total w (next_of keys total c) ln ∙ lt-ltb 0 (get_or total (next_of keys total c) 0) so))

  -- what was met are the sourced children before c
  pub record Walked (c : ℕ) (met : List ℕ) : Type 0 where
    pub at : At c
    pub are : met ≡ filter (sourced_child d keys own node) (range 0 c)

  none_before : (c : ℕ) → c ≤ length keys → ((j : ℕ) → j < c → j < length keys → sourced_child d keys own node j ≡ true → ⊥) → [] ≡ filter (sourced_child d keys own node) (range 0 c)
  none_before c h never = sym (filter_none (sourced_child d keys own node) (range 0 c) (λ x m. let (lo, hi) = mem-between 0 c x m in refute (never x (omega arith) (omega arith))))

  module _ (h : inner keys node ≡ true) where
    inside : suc node < length keys
    inside = inner-inside keys node h

    -- the first of them is next
    pub inner_first : child_of d (get_or keys node 0) (get_or keys (suc node) 0) ≡ true
    inner_first =
        let deep = inner-deeper keys node h in
        both (lt-ltb 0 (level_of (get_or keys (suc node) 0)) (omega arith)) (eq-eqb (parent d (get_or keys (suc node) 0)) (get_or keys node 0) (first-child d keys w.rows.tree node inside deep))

    pub walked_start : Walked (after_of keys total node) []
    unfolding after_of
    walked_start = go (ltb 0 (get_or total (suc node) 0)) refl
      where
        go : (b : Bool) → ltb 0 (get_or total (suc node) 0) ≡ b → Walked (after_of keys total node) []
        go true e = subst (λ c. Walked c []) (sym (ap (λ b. cond b (suc node) (next_of keys total (suc node))) e)) (record {
          at = record {
            most = omega (arith, (nx node l).from, (ends keys node l).after);
            child = λ s. (inside, both inner_first (sourced-at d keys own begin total w (suc node) inside ∙ e));
          };
          are = none_before (suc node) (omega (arith, inside)) (λ j s lj p. omega (arith, (child-facts j lj p).0));
        })
        go false e = subst (λ c. Walked c []) (sym (ap (λ b. cond b (suc node) (next_of keys total (suc node))) e)) (record {
          at = hop (suc node) inside inner_first;
          are = none_before (next_of keys total (suc node)) (nx (suc node) inside).within not_yet;
        })
          where
            not_yet : (j : ℕ) → j < next_of keys total (suc node) → j < length keys → sourced_child d keys own node j ≡ true → ⊥
            not_yet j s lj p =
                let (a, b, so, lv) = child-facts j lj p in
                let empty : get_or total (suc node) 0 ≡ 0 = omega (arith, ltb-false 0 (get_or total (suc node) 0) e) in
                by a so empty (dec_lt (suc node) j) (dec_lt j (end_of keys (suc node)))
              where
                by : node < j → 0 < get_or total j 0 → get_or total (suc node) 0 ≡ 0 → Dec (suc node < j) → Dec (j < end_of keys (suc node)) → ⊥
                by a so z (no r) _ = let q : j ≡ suc node = omega arith in omega (arith, ap (λ n. get_or total n 0) q)
                by a so z (yes r) (yes q) = omega (arith, k.up (suc node) j r q lj so)
                by a so z (yes r) (no q) = omega (arith, (nx (suc node) inside).none j (omega arith) s)

  pub walked_next : (c : ℕ) (met : List ℕ) → Walked c met → c < next_of keys total node → Walked (next_of keys total c) (met ++ c ∷ [])
  walked_next c met v s =
      let (lc, p) = v.at.child s in
      let f = child-facts c lc p in
      let beyond : suc c ≤ next_of keys total c = omega (arith, (ends keys c lc).after, (nx c lc).from) in
      record {
        at = hop c lc (and_l (child_of d (get_or keys node 0) (get_or keys c 0)) _ p);
        are = ap (λ (ms : List ℕ). ms ++ c ∷ []) v.are ∙ sym (filter-gap (sourced_child d keys own node) (suc c) (next_of keys total c) beyond (λ j a b. refute (between lc f j a b)) ∙ filter-here (sourced_child d keys own node) c p);
      }
    where
      between : c < length keys → (node < c) × (c < end_of keys node) × (0 < get_or total c 0) × (level_of (get_or keys c 0) ≡ suc (level_of (get_or keys node 0)))
          → (j : ℕ) → suc c ≤ j → j < next_of keys total c → sourced_child d keys own node j ≡ true → ⊥
      between lc f j a b p =
          let lj : j < length keys = omega (arith, (nx c lc).within) in
          let (g, e, so, lv) = child-facts j lj p in
          by so lv (dec_lt j (end_of keys c))
        where
          by : 0 < get_or total j 0 → level_of (get_or keys j 0) ≡ suc (level_of (get_or keys node 0)) → Dec (j < end_of keys c) → ⊥
          by so lv (yes q) = omega (arith, (ends keys c lc).deeper j a q, f.3)
          by so lv (no q) = omega (arith, (nx c lc).none j (omega arith) b)

  pub walked_all : (c : ℕ) (met : List ℕ) → Walked c met → next_of keys total node ≤ c → met ≡ filter (sourced_child d keys own node) (range 0 (length keys))
  walked_all c met v s =
      let e : c ≡ next_of keys total node = omega (arith, v.at.most) in
      v.are ∙ sym (filter-gap (sourced_child d keys own node) c (length keys) (omega (arith, (nx node l).within)) (λ j a b. refute (λ p. let (_, hi, _, _) = child-facts j b p in omega (arith, (nx node l).from))))
