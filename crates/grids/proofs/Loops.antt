-- The loops over the axes: the coordinates of a row, the middles of a span, its half and its count.
use mathlib.Core.Path.{◌≡◌, refl, sym, ap, ap₂, ◌∙◌, subst}
use mathlib.Core.Bool.{Bool, true, cond}
use mathlib.Core.List.{List}
use mathlib.Core.Logic.{◌⊎◌, inl, inr}
use Prim.Native.Nat.{ℕ, suc, ◌+◌, ◌-◌, ◌*◌, ◌/◌, ◌%◌, ◌^◌, ◌≤◌, ◌<◌}
use native.Mathlib.Nat.{mul_comm, le_trans, le_of_eq, div-le_self, div-div-eq-div-mul, div-one, mod-le}
use native.Mathlib.Omega.{arith}
use lib.Dec.{eqb}
use lib.Ieee.{Float, nan}
use lib.ListN.{length, get_or, set, length-set}
use lib.Seq.{get_or-set_same, get_or-set_other}
use borrow.Author.Tests.{eq-eqb, ne_eqb}
use Rattle.slices.proofs.Tests.{lt-or-le}
use Rattle.slices.specs.Lists.{filled}
use Rattle.codes.proofs.Codes.{anchor-lt}
use Rattle.morton.specs.Keys.{level_of, code_of}
use Rattle.morton.specs.Anchors.{anchors}
use Rattle.anchors.proofs.Placing.{held_at}
use Rattle.space.specs.declared.Frame.{Frame}
use Rattle.grids.specs.declared.Grid.{Grid}
use Rattle.grids.specs.declared.spans.Span.{Span}
use Rattle.grids.specs.Grids.{coordinate, shape_on, product, index_on, grid_known}
use Rattle.grids.specs.Ranges.{first_from, Searched, Fitting}
use Rattle.grids.specs.Spans.{from_on, to_on, length_on, OnAxis, anchor_on, Spanned, Parted, Counts}
use Rattle.grids.proofs.Products.{from-axis, product-more, product-none}
use Rattle.grids.proofs.Sized.{some-points, searched}

-- ---- the coordinates of a row, from the last axis on
pub record Rowing (d : ℕ) (g : Grid) (row : ℕ) (point : List Float) (rest a : ℕ) : Type 0 where
  pub within : a ≤ d
  pub long : length point ≡ 3
  pub small : rest ≤ 1048576
  pub rest_is : rest ≡ row / product (shape_on g) a (d - a)
  pub done : (b : ℕ) → a ≤ b → b < d → get_or point b nan ≡ coordinate g b (index_on d g b row)

module _ (d : ℕ) (g : Grid) (row : ℕ) (most : d ≤ 3) (known : grid_known d g ≡ true) where
  pub rowing_start : (point : List Float) → length point ≡ 3 → row ≤ 1048576 → Rowing d g row point row d
  rowing_start point long small =
      let e : d - d ≡ 0 = omega arith in
      record {
        within = le_of_eq refl;
        long = long;
        small = small;
        rest_is = sym (ap (λ (n : ℕ). row / product (shape_on g) d n) e ∙ ap (λ (n : ℕ). row / n) (product-none (shape_on g) d) ∙ div-one row);
        done = λ b h l. absurd (omega arith);
      }

  module _ (point : List Float) (rest a b : ℕ) (r : Rowing d g row point rest a) (e : a ≡ b + 1) where
    inside : b < d
    inside = omega (arith, r.within)

    pub rowing-shape : 0 < shape_on g b
    rowing-shape = some-points d g known b inside

    pub rowing-axis : b < 3
    rowing-axis = omega (arith, inside)

    pub rowing-index : rest % shape_on g b ≤ 1048576
    rowing-index = le_trans (mod-le rest (shape_on g b)) r.small

    next : a ≡ suc b
    next = omega arith

    rest-on : rest ≡ row / product (shape_on g) (suc b) (d - suc b)
    rest-on = r.rest_is ∙ ap (λ (n : ℕ). row / product (shape_on g) n (d - n)) next

    pub rowing_more : (x : Float) → x ≡ coordinate g b (rest % shape_on g b) → Rowing d g row (set point b x) (rest / shape_on g b) b
    rowing_more x is = record {
      within = omega (arith, inside);
      long = length-set point b x ∙ r.long;
      small = le_trans (div-le_self rest (shape_on g b)) r.small;
      rest_is =
          ap (λ (n : ℕ). n / shape_on g b) rest-on
          ∙ div-div-eq-div-mul row (product (shape_on g) (suc b) (d - suc b)) (shape_on g b)
          ∙ ap (λ (n : ℕ). row / n) (mul_comm (product (shape_on g) (suc b) (d - suc b)) (shape_on g b) ∙ sym (from-axis (shape_on g) d (some-points d g known) b inside));
      done = λ j h l. go j h l (lt-or-le b j);
    }
      where
        go : (j : ℕ) → b ≤ j → j < d → (b < j) ⊎ (j ≤ b) → get_or (set point b x) j nan ≡ coordinate g j (index_on d g j row)
        go j h l (inl k) = get_or-set_other point b j x nan (λ q. omega (arith, q)) ∙ r.done j (omega arith) l
        go j h l (inr k) =
            let q : b ≡ j = omega arith in
            ap (λ (i : ℕ). get_or (set point b x) i nan) (sym q)
            ∙ get_or-set_same point b x nan (omega (arith, rowing-axis, r.long))
            ∙ is
            ∙ ap (λ (n : ℕ). coordinate g b (n % shape_on g b)) rest-on
            ∙ ap (λ (i : ℕ). coordinate g i (index_on d g i row)) q

-- ---- the middles
pub record Middling (f : Frame) (g : Grid) (k : ℕ) (middle : List ℕ) (a : ℕ) : Type 0 where
  pub within : a ≤ f.axes
  pub long : length middle ≡ 3
  pub done : (b : ℕ) → b < a → get_or middle b 0 ≡ first_from f g b ((2 * anchor_on f k b + 1) * 2 ^ (15 - level_of k))

-- what the search on an axis asks and tells, with the cell's level and anchors as they are read off its key
module _ (f : Frame) (g : Grid) (k : ℕ) (a : ℕ) (h : a < f.axes) (level : ℕ) (e : level ≡ level_of k) (xs : List ℕ) (held : xs ≡ filled 3 (anchors f.axes k)) where
  anchor-is : get_or xs a 0 ≡ anchor_on f k a
  anchor-is = held_at f.axes k xs held a h

  pub middle-asked : Fitting f g → level_of k < 16 → (s : Span) → Spanned f g k s → Searched f g a × (level < 16) × (get_or xs a 0 < 2 ^ level) × OnAxis f g a level (get_or xs a 0) (from_on s a) (to_on s a)
  middle-asked F l s S = (
    searched f g F a h,
    omega (arith, e, l),
    subst (λ (n : ℕ). get_or xs a 0 < 2 ^ n) (sym e) (subst (λ (n : ℕ). n < 2 ^ level_of k) (sym anchor-is) (anchor-lt f.axes a (level_of k) (code_of k))),
    subst (λ (n : ℕ). OnAxis f g a n (get_or xs a 0) (from_on s a) (to_on s a)) (sym e) (subst (λ (x : ℕ). OnAxis f g a (level_of k) x (from_on s a) (to_on s a)) (sym anchor-is) (S.each a h)),
  )

  pub middle-told : (m : ℕ) → m ≡ first_from f g a ((2 * get_or xs a 0 + 1) * 2 ^ (15 - level)) → m ≡ first_from f g a ((2 * anchor_on f k a + 1) * 2 ^ (15 - level_of k))
  middle-told m is = is ∙ ap₂ (λ (x n : ℕ). first_from f g a ((2 * x + 1) * 2 ^ (15 - n))) anchor-is e

module _ (f : Frame) (g : Grid) (k : ℕ) (most : f.axes ≤ 3) where
  pub middling-start : (middle : List ℕ) → length middle ≡ 3 → Middling f g k middle 0
  middling-start middle long = record { within = omega arith; long = long; done = λ b h. absurd (omega arith) }

  pub middling-more : (middle : List ℕ) (a m : ℕ) → Middling f g k middle a → a < f.axes → m ≡ first_from f g a ((2 * anchor_on f k a + 1) * 2 ^ (15 - level_of k)) → Middling f g k (set middle a m) (a + 1)
  middling-more middle a m r h is = record {
    within = omega arith;
    long = length-set middle a m ∙ r.long;
    done = λ b l. go b l (lt-or-le b a);
  }
    where
      go : (b : ℕ) → b < a + 1 → (b < a) ⊎ (a ≤ b) → get_or (set middle a m) b 0 ≡ first_from f g b ((2 * anchor_on f k b + 1) * 2 ^ (15 - level_of k))
      go b l (inl i) = get_or-set_other middle a b m 0 (λ q. omega (arith, q)) ∙ r.done b i
      go b l (inr i) =
          let q : a ≡ b = omega arith in
          ap (λ (j : ℕ). get_or (set middle a m) j 0) (sym q) ∙ get_or-set_same middle a m 0 (omega (arith, r.long)) ∙ is ∙ ap (λ (j : ℕ). first_from f g j ((2 * anchor_on f k j + 1) * 2 ^ (15 - level_of k))) q

  pub middling-done : (s : Span) (middle : List ℕ) (a : ℕ) → Middling f g k middle a → f.axes ≤ a → Spanned f g k s → Parted f g k (record { from = s.from; middle = middle; to = s.to })
  middling-done s middle a r h S = record { spanned = record { each = λ b l. S.each b l }; middles = λ b l. r.done b (omega arith) }

-- ---- the half of a child
abbrev lower_or : ℕ → ℕ → ℕ → ℕ → ℕ
lower_or c a x y = cond (eqb (c / 2 ^ a % 2) 0) x y

pub record Taking (d : ℕ) (from₀ middle to₀ : List ℕ) (c : ℕ) (from to : List ℕ) (a : ℕ) : Type 0 where
  pub within : a ≤ d
  pub long_from : length from ≡ 3
  pub long_to : length to ≡ 3
  pub from_done : (b : ℕ) → b < a → get_or from b 0 ≡ cond (eqb (c / 2 ^ b % 2) 0) (get_or from₀ b 0) (get_or middle b 0)
  pub to_done : (b : ℕ) → b < a → get_or to b 0 ≡ cond (eqb (c / 2 ^ b % 2) 0) (get_or middle b 0) (get_or to₀ b 0)
  pub from_rest : (b : ℕ) → a ≤ b → get_or from b 0 ≡ get_or from₀ b 0
  pub to_rest : (b : ℕ) → a ≤ b → get_or to b 0 ≡ get_or to₀ b 0

module _ (d : ℕ) (most : d ≤ 3) (from₀ middle to₀ : List ℕ) (c : ℕ) where
  pub taking-start : length from₀ ≡ 3 → length to₀ ≡ 3 → Taking d from₀ middle to₀ c from₀ to₀ 0
  taking-start p q = record {
    within = omega arith;
    long_from = p;
    long_to = q;
    from_done = λ b h. absurd (omega arith);
    to_done = λ b h. absurd (omega arith);
    from_rest = λ b h. refl;
    to_rest = λ b h. refl;
  }

  module _ (from to : List ℕ) (a : ℕ) (r : Taking d from₀ middle to₀ c from to a) (h : a < d) where
    -- one entry more, which is set or stays
    set-or-kept : (P : ℕ → ℕ) (xs : List ℕ) (m : ℕ) → length xs ≡ 3 → ((b : ℕ) → b < a → get_or xs b 0 ≡ P b) → m ≡ P a → (b : ℕ) → b < a + 1 → get_or (set xs a m) b 0 ≡ P b
    set-or-kept P xs m long before is b l = go (lt-or-le b a)
      where
        go : (b < a) ⊎ (a ≤ b) → get_or (set xs a m) b 0 ≡ P b
        go (inl i) = get_or-set_other xs a b m 0 (λ q. omega (arith, q)) ∙ before b i
        go (inr i) = let q : a ≡ b = omega arith in ap (λ (j : ℕ). get_or (set xs a m) j 0) (sym q) ∙ get_or-set_same xs a m 0 (omega (arith, long)) ∙ is ∙ ap P q

    one_more : (P : ℕ → ℕ) (xs : List ℕ) → ((b : ℕ) → b < a → get_or xs b 0 ≡ P b) → get_or xs a 0 ≡ P a → (b : ℕ) → b < a + 1 → get_or xs b 0 ≡ P b
    one_more P xs before is b l = go (lt-or-le b a)
      where
        go : (b < a) ⊎ (a ≤ b) → get_or xs b 0 ≡ P b
        go (inl i) = before b i
        go (inr i) = let q : a ≡ b = omega arith in subst (λ (j : ℕ). get_or xs j 0 ≡ P j) q is

    pub taking-lower : c / 2 ^ a % 2 ≡ 0 → Taking d from₀ middle to₀ c from (set to a (get_or middle a 0)) (a + 1)
    taking-lower z =
        let yes = eq-eqb (c / 2 ^ a % 2) 0 z in
        record {
          within = omega arith;
          long_from = r.long_from;
          long_to = length-set to a (get_or middle a 0) ∙ r.long_to;
          from_done = one_more (λ b. lower_or c b (get_or from₀ b 0) (get_or middle b 0)) from r.from_done (r.from_rest a (le_of_eq refl) ∙ ap (λ (t : Bool). cond t (get_or from₀ a 0) (get_or middle a 0)) (sym yes));
          to_done = set-or-kept (λ b. lower_or c b (get_or middle b 0) (get_or to₀ b 0)) to (get_or middle a 0) r.long_to r.to_done (ap (λ (t : Bool). cond t (get_or middle a 0) (get_or to₀ a 0)) (sym yes));
          from_rest = λ b l. r.from_rest b (omega arith);
          to_rest = λ b l. get_or-set_other to a b (get_or middle a 0) 0 (λ q. omega (arith, q)) ∙ r.to_rest b (omega arith);
        }

    pub taking-upper : (c / 2 ^ a % 2 ≡ 0 → ⊥) → Taking d from₀ middle to₀ c (set from a (get_or middle a 0)) to (a + 1)
    taking-upper n =
        let no = ne_eqb (c / 2 ^ a % 2) 0 n in
        record {
          within = omega arith;
          long_from = length-set from a (get_or middle a 0) ∙ r.long_from;
          long_to = r.long_to;
          from_done = set-or-kept (λ b. lower_or c b (get_or from₀ b 0) (get_or middle b 0)) from (get_or middle a 0) r.long_from r.from_done (ap (λ (t : Bool). cond t (get_or from₀ a 0) (get_or middle a 0)) (sym no));
          to_done = one_more (λ b. lower_or c b (get_or middle b 0) (get_or to₀ b 0)) to r.to_done (r.to_rest a (le_of_eq refl) ∙ ap (λ (t : Bool). cond t (get_or middle a 0) (get_or to₀ a 0)) (sym no));
          from_rest = λ b l. get_or-set_other from a b (get_or middle a 0) 0 (λ q. omega (arith, q)) ∙ r.from_rest b (omega arith);
          to_rest = λ b l. r.to_rest b (omega arith);
        }

-- ---- the count
pub record Multiplying (d : ℕ) (s : Span) (n a : ℕ) : Type 0 where
  pub within : a ≤ d
  pub is : n ≡ product (length_on s) 0 a

module _ (d : ℕ) (s : Span) (C : Counts d s) where
  pub multiplying-start : Multiplying d s 1 0
  multiplying-start = record { within = omega arith; is = sym (product-none (length_on s) 0) }

  module _ (n a : ℕ) (m : Multiplying d s n a) (h : a < d) where
    more-is : n * length_on s a ≡ product (length_on s) 0 (a + 1)
    more-is = ap (λ (x : ℕ). x * length_on s a) m.is ∙ sym (product-more (length_on s) a (a + 1) refl)

    pub multiplying-fits : n * length_on s a ≤ 1048576
    multiplying-fits = omega (arith, more-is, C.few (a + 1) (omega arith))

    pub multiplying-more : (r : ℕ) → r ≡ n * length_on s a → Multiplying d s r (a + 1)
    multiplying-more r e = record { within = omega arith; is = e ∙ more-is }

  pub multiplying-done : (n a : ℕ) → Multiplying d s n a → d ≤ a → n ≡ product (length_on s) 0 d
  multiplying-done n a m h = let e : a ≡ d = omega (arith, m.within) in m.is ∙ ap (product (length_on s) 0) e
