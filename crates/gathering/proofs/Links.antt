-- The walk along a node's children, and one node more.
use mathlib.Core.Path.{◌≡◌, refl, sym, ap, ◌∙◌, subst}
use mathlib.Core.List.{List}
use mathlib.Core.Logic.{◌⊎◌, inl, inr}
use Prim.Native.Nat.{ℕ, zero, suc, ◌≤◌, ◌<◌}
use native.Mathlib.Omega.{arith}
use native.Mathlib.Nat.{eq-or-lt_of_le}
use native.Mathlib.Decide.{dec_lt}
use lib.ListN.{length, get_or, set, length-set}
use lib.Seq.{get_or-set_same, get_or-set_other}
use Rattle.morton.specs.Keys.{level_of, parent}
use Rattle.morton.proofs.Cells.{level-parent}
use Rattle.gathering.specs.Links.{Linked, Below, Absent, Searched, OneMore, Stepped}

-- at node j of the walk: it is a child of p, and k is not past it
pub record At (d n : ℕ) (key : List ℕ) (p k j : ℕ) : Type 0 where
  pub here : j < n
  pub of : 0 < j → parent d (get_or key j 0) ≡ get_or key p 0
  pub rest : (q : ℕ) → q < n → get_or key q 0 ≡ k → q ≤ j

module _ (d n : ℕ) (key child next : List ℕ) (p k : ℕ) (s : Linked d n key child next) (b : Below d n key p k) where
  -- a node with key k is no root
  not_root : (q : ℕ) → q < n → get_or key q 0 ≡ k → 0 < q
  not_root zero l e = absurd (omega (arith, b.level, ap level_of e, ap level_of s.root))
  not_root (suc q) l e = omega arith

  pub walk_start : At d n key p k (get_or child p 0)
  walk_start = record {
    here = s.child_in p b.node;
    of = s.its_child p b.node;
    rest = λ q l e. s.child_last p q b.node (not_root q l e) l (ap (parent d) e ∙ b.up);
  }

  pub walk_more : (j : ℕ) → At d n key p k j → 0 < j → (get_or key j 0 ≡ k → ⊥) → At d n key p k (get_or next j 0)
  walk_more j a h ne = record {
    here = omega (arith, s.next_in j h a.here, a.here);
    of = λ g. s.next_of j h a.here g ∙ a.of h;
    rest = λ q l e. go q l e (eq-or-lt_of_le (a.rest q l e));
  }
    where
      go : (q : ℕ) → q < n → get_or key q 0 ≡ k → (q ≡ j) ⊎ (q < j) → q ≤ get_or next j 0
      go q l e (inl z) = absurd (ne (ap (λ x. get_or key x 0) (sym z) ∙ e))
      go q l e (inr z) = s.next_last j q (not_root q l e) z a.here (ap (parent d) e ∙ b.up ∙ sym (a.of h))

  pub walk-found : (j : ℕ) → At d n key p k j → 0 < j → get_or key j 0 ≡ k → Searched n key k j
  walk-found j a h e = record { found = λ g. (a.here, e); none = λ z. absurd (omega arith) }

  pub walk_none : (j : ℕ) → At d n key p k j → j ≤ 0 → Searched n key k 0
  walk_none j a h = record { found = λ g. absurd (omega arith); none = λ z q l e. omega (arith, a.rest q l e, not_root q l e) }

-- ---- one node more

module _ (d n p k : ℕ) (key child next key' child' next' : List ℕ) (s : Linked d n key child next) (b : Below d n key p k) (no-k : Absent n key k)
    (m : OneMore n p k key child next key' child' next') (fk : n < length key) (fc : n < length child) (fn : n < length next) where
  last_or : (q : ℕ) → q < suc n → (q ≡ n) ⊎ (q < n)
  last_or q l = eq-or-lt_of_le (omega arith)

  at_new : (q : ℕ) → q ≡ n → get_or key' q 0 ≡ k
  at_new q e = ap (λ x. get_or key' x 0) e ∙ m.key_new

  levels : (q : ℕ) → 0 < q → (q ≡ n) ⊎ (q < n) → 0 < level_of (get_or key' q 0)
  levels q h (inl e) = subst (λ x. 0 < level_of x) (sym (at_new q e)) b.level
  levels q h (inr l) = subst (λ x. 0 < level_of x) (sym (m.key_old q l)) (s.levels q h l)

  parents : (q : ℕ) → 0 < q → (q ≡ n) ⊎ (q < n) → (u : ℕ) × (u < q) × (get_or key' u 0 ≡ parent d (get_or key' q 0))
  parents q h (inl e) = (p, omega (arith, b.node), m.key_old p b.node ∙ sym b.up ∙ ap (parent d) (sym (at_new q e)))
  parents q h (inr l) = let (u, lu, eu) = s.parents q h l in (u, lu, m.key_old u (omega arith) ∙ eu ∙ ap (parent d) (sym (m.key_old q l)))

  once : (x y : ℕ) → (x ≡ n) ⊎ (x < n) → (y ≡ n) ⊎ (y < n) → get_or key' x 0 ≡ get_or key' y 0 → x ≡ y
  once x y (inl a) (inl c) e = a ∙ sym c
  once x y (inl a) (inr c) e = absurd (no-k y c (sym (m.key_old y c) ∙ sym e ∙ at_new x a))
  once x y (inr a) (inl c) e = absurd (no-k x a (sym (m.key_old x a) ∙ e ∙ at_new y c))
  once x y (inr a) (inr c) e = s.once x y a c (sym (m.key_old x a) ∙ e ∙ m.key_old y c)

  -- a node is p, the new one, or another
  data Which (x : ℕ) : Type 0 where
    above : x ≡ p → Which x
    new : x ≡ n → Which x
    other : x < n → (x ≡ p → ⊥) → Which x

  which : (x : ℕ) → x < suc n → Which x
  which x l = go (last_or x l) (dec_lt x p) (dec_lt p x)
    where
      go : (x ≡ n) ⊎ (x < n) → Dec (x < p) → Dec (p < x) → Which x
      go (inl e) _ _ = new e
      go (inr h) (yes a) _ = other h (λ e. omega arith)
      go (inr h) (no a) (yes c) = other h (λ e. omega arith)
      go (inr h) (no a) (no c) = above (omega arith)

  child_in : (x : ℕ) → Which x → get_or child' x 0 < suc n
  child_in x (above e) = omega (arith, ap (λ y. get_or child' y 0) e, m.child_up)
  child_in x (new e) = omega (arith, ap (λ y. get_or child' y 0) e, m.child_new)
  child_in x (other h ne) = omega (arith, m.child_old x h ne, s.child_in x h)

  its_child : (x : ℕ) → Which x → 0 < get_or child' x 0 → parent d (get_or key' (get_or child' x 0) 0) ≡ get_or key' x 0
  its_child x (above e) g =
      ap (parent d) (at_new (get_or child' x 0) (ap (λ y. get_or child' y 0) e ∙ m.child_up)) ∙ b.up ∙ sym (m.key_old p b.node) ∙ ap (λ y. get_or key' y 0) (sym e)
  its_child x (new e) g = absurd (omega (arith, ap (λ y. get_or child' y 0) e, m.child_new))
  its_child x (other h ne) g =
      let e = m.child_old x h ne in
      ap (λ y. parent d (get_or key' y 0)) e ∙ ap (parent d) (m.key_old (get_or child x 0) (s.child_in x h)) ∙ s.its_child x h (omega (arith, e)) ∙ sym (m.key_old x h)

  child_last : (x q : ℕ) → Which x → 0 < q → (q ≡ n) ⊎ (q < n) → parent d (get_or key' q 0) ≡ get_or key' x 0 → q ≤ get_or child' x 0
  child_last x q (above e) h w u = bound w
    where
      bound : (q ≡ n) ⊎ (q < n) → q ≤ get_or child' x 0
      bound (inl z) = omega (arith, ap (λ y. get_or child' y 0) e, m.child_up)
      bound (inr z) = omega (arith, ap (λ y. get_or child' y 0) e, m.child_up)
  child_last x q (new e) h (inl z) u =
      let f : level_of k ≡ level_of (parent d k) = ap level_of (sym (at_new x e) ∙ sym u ∙ ap (parent d) (at_new q z)) in
      absurd (omega (arith, f, level-parent d k, b.level))
  child_last x q (new e) h (inr z) u =
      let (v, lv, ev) = s.parents q h z in
      absurd (no-k v (omega arith) (ev ∙ ap (parent d) (sym (m.key_old q z)) ∙ u ∙ at_new x e))
  child_last x q (other l ne) h (inl z) u = absurd (ne (s.once x p l b.node (sym (m.key_old x l) ∙ sym u ∙ ap (parent d) (at_new q z) ∙ b.up)))
  child_last x q (other l ne) h (inr z) u =
      omega (arith, m.child_old x l ne, s.child_last x q l h z (ap (parent d) (sym (m.key_old q z)) ∙ u ∙ m.key_old x l))

  next_in : (j : ℕ) → 0 < j → (j ≡ n) ⊎ (j < n) → get_or next' j 0 < j
  next_in j h (inl e) = omega (arith, ap (λ y. get_or next' y 0) e, m.next_new, s.child_in p b.node)
  next_in j h (inr l) = omega (arith, m.next_old j l, s.next_in j h l)

  next_of : (j : ℕ) → 0 < j → (j ≡ n) ⊎ (j < n) → 0 < get_or next' j 0 → parent d (get_or key' (get_or next' j 0) 0) ≡ parent d (get_or key' j 0)
  next_of j h (inl e) g =
      let f : get_or next' j 0 ≡ get_or child p 0 = ap (λ y. get_or next' y 0) e ∙ m.next_new in
      ap (λ y. parent d (get_or key' y 0)) f ∙ ap (parent d) (m.key_old (get_or child p 0) (s.child_in p b.node)) ∙ s.its_child p b.node (omega (arith, f)) ∙ sym b.up ∙ ap (parent d) (sym (at_new j e))
  next_of j h (inr l) g =
      let f = m.next_old j l in
      ap (λ y. parent d (get_or key' y 0)) f ∙ ap (parent d) (m.key_old (get_or next j 0) (omega (arith, s.next_in j h l))) ∙ s.next_of j h l (omega (arith, f)) ∙ ap (parent d) (sym (m.key_old j l))

  next_last : (j q : ℕ) → 0 < q → q < j → (j ≡ n) ⊎ (j < n) → parent d (get_or key' q 0) ≡ parent d (get_or key' j 0) → q ≤ get_or next' j 0
  next_last j q h g (inl e) u =
      let l : q < n = omega arith in
      omega (arith, ap (λ y. get_or next' y 0) e, m.next_new, s.child_last p q b.node h l (ap (parent d) (sym (m.key_old q l)) ∙ u ∙ ap (parent d) (at_new j e) ∙ b.up))
  next_last j q h g (inr l) u =
      let lq : q < n = omega arith in
      omega (arith, m.next_old j l, s.next_last j q h g l (ap (parent d) (sym (m.key_old q lq)) ∙ u ∙ ap (parent d) (m.key_old j l)))

  pub put_linked : Linked d (suc n) key' child' next'
  put_linked = record {
    some = omega arith;
    keys = omega (arith, m.keys, fk);
    childs = omega (arith, m.childs, fc);
    nexts = omega (arith, m.nexts, fn);
    root = m.key_old 0 s.some ∙ s.root;
    levels = λ q h l. levels q h (last_or q l);
    parents = λ q h l. parents q h (last_or q l);
    once = λ x y lx ly. once x y (last_or x lx) (last_or y ly);
    child_in = λ x l. child_in x (which x l);
    its_child = λ x l. its_child x (which x l);
    child_last = λ x q l h lq. child_last x q (which x l) h (last_or q lq);
    next_in = λ j h l. next_in j h (last_or j l);
    next_of = λ j h l. next_of j h (last_or j l);
    next_last = λ j q h g l. next_last j q h g (last_or j l);
  }

pub fits-still : (l : List ℕ) (j a p n : ℕ) → p < n → n < length l → p < length (set l j a)
fits-still l j a p n h f = omega (arith, length-set l j a)

-- what was stored is one node more
pub stored_more : (n p k : ℕ) (key child next : List ℕ) → p < n → n < length key → n < length child → n < length next
    → OneMore n p k key child next (set key n k) (set (set child n 0) p n) (set next n (get_or child p 0))
stored_more n p k key child next h fk fc fn = record {
  keys = length-set key n k;
  childs = length-set (set child n 0) p n ∙ length-set child n 0;
  nexts = length-set next n (get_or child p 0);
  key_new = get_or-set_same key n k 0 fk;
  key_old = λ q l. get_or-set_other key n q k 0 (λ e. omega arith);
  child_new = get_or-set_other (set child n 0) p n n 0 (λ e. omega arith) ∙ get_or-set_same child n 0 0 fc;
  child_up = get_or-set_same (set child n 0) p n 0 (omega (arith, length-set child n 0));
  child_old = λ q l ne. get_or-set_other (set child n 0) p q n 0 ne ∙ get_or-set_other child n q 0 0 (λ e. omega arith);
  next_new = get_or-set_same next n (get_or child p 0) 0 fn;
  next_old = λ q l. get_or-set_other next n q (get_or child p 0) 0 (λ e. omega arith);
}

module _ (d room n : ℕ) (key child next : List ℕ) (p k : ℕ) (s : Linked d n key child next) (b : Below d n key p k) where
  pub step-found : (r : ℕ) → Searched n key k r → 0 < r → Stepped d room n key child next k key child next r
  step-found r w h =
      let f = w.found h in
      record {
        most = omega (arith, f.0);
        old = λ q l. refl;
        found = λ l. (s, f.1);
        put = λ e. absurd (omega (arith, f.0));
        absent = λ e. absurd (omega (arith, f.0));
        full = λ e l. s;
      }

  pub step-full : (r : ℕ) → Searched n key k r → r ≤ 0 → room ≤ n → Stepped d room n key child next k key child next n
  step-full r w z h = record { most = omega arith; old = λ q l. refl; found = λ l. absurd (omega arith); put = λ e l. absurd (omega arith); absent = λ e. w.none (omega arith); full = λ e l. s }

  pub step-put : (r : ℕ) → Searched n key k r → r ≤ 0 → n < room → n < length key → n < length child → n < length next → (key' child' next' : List ℕ) → OneMore n p k key child next key' child' next'
      → Stepped d room n key child next k key' child' next' n
  step-put r w z h fk fc fn key' child' next' m = record {
    most = omega arith;
    old = m.key_old;
    found = λ l. absurd (omega arith);
    put = λ e l. (put_linked d n p k key child next key' child' next' s b (w.none (omega arith)) m fk fc fn, m.key_new);
    absent = λ e q l g. w.none (omega arith) q l (sym (m.key_old q l) ∙ g);
    full = λ e l. absurd (omega arith);
  }
