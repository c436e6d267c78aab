-- The checks before the points are looked at, one by one as they are asked, and what they tell when none refuses.
use mathlib.Core.Path.{◌≡◌}
use mathlib.Core.Bool.{true, ◌&&◌}
use mathlib.Core.List.{List}
use Prim.Native.Nat.{ℕ, ◌%◌, ◌≤◌, ◌<◌}
use native.Mathlib.Omega.{arith}
use lib.Dec.{leb, eqb}
use lib.Ieee.{Float}
use lib.ListN.{length}
use borrow.Author.Tests.{eq-eqb, ne_eqb, le-leb, lt-leb, leb-true}
use Rattle.refusal.specs.declared.Refusal.{Refusal}
use Rattle.refusal.specs.declared.Refusal.TheVariants.{Shape, Count, Order}
use Rattle.refusal.specs.Chain.{ask}
use Rattle.refusal.proofs.Chain.{asked, both-done}
use Rattle.slices.proofs.Tests.{and_r, or-not}
use Rattle.space.specs.declared.Box.{Box}
use Rattle.space.specs.Domain.{box_outcome}
use Rattle.space.proofs.Refusals.{Fine, fine}
use Rattle.space.specs.Rows.{rows_of, most_points}
use Rattle.laying.specs.Outcomes.{order_fits, asked_outcome}
use Rattle.std.specs.Prelude.{Err}
use Rattle.refusal.specs.Outcome.{accepted}

module _ (b : Box) (s t : List Float) (order : ℕ) where
  pub box-refused : (r : Refusal) → box_outcome b ≡ Err r → Err r ≡ asked_outcome b s t order
  unfolding asked_outcome
  box-refused r e = rw e

  module _ (o : box_outcome b ≡ accepted) where
    pub sources-ragged : (length s % b.axes ≡ 0 → ⊥) → Err Shape ≡ asked_outcome b s t order
    unfolding asked_outcome
    sources-ragged n = rw (o, ne_eqb (length s % b.axes) 0 n)

    module _ (whole : length s % b.axes ≡ 0) where
      pub targets-ragged : (length t % b.axes ≡ 0 → ⊥) → Err Shape ≡ asked_outcome b s t order
      unfolding asked_outcome
      targets-ragged n = rw (o, eq-eqb (length s % b.axes) 0 whole, ne_eqb (length t % b.axes) 0 n)

      module _ (rows : length t % b.axes ≡ 0) where
        pub sources-many : most_points < rows_of b s → Err Count ≡ asked_outcome b s t order
        unfolding asked_outcome
        sources-many n = rw (o, eq-eqb (length s % b.axes) 0 whole, eq-eqb (length t % b.axes) 0 rows, lt-leb (rows_of b s) most_points n)

        module _ (few : rows_of b s ≤ most_points) where
          pub targets-many : most_points < rows_of b t → Err Count ≡ asked_outcome b s t order
          unfolding asked_outcome
          targets-many n = rw (o, eq-eqb (length s % b.axes) 0 whole, eq-eqb (length t % b.axes) 0 rows, le-leb (rows_of b s) most_points few, lt-leb (rows_of b t) most_points n)

          module _ (fewer : rows_of b t ≤ most_points) where
            last : asked_outcome b s t order ≡ ask (order_fits order t) Order
            unfolding asked_outcome
            last = rw (o, eq-eqb (length s % b.axes) 0 whole, eq-eqb (length t % b.axes) 0 rows, le-leb (rows_of b s) most_points few, le-leb (rows_of b t) most_points fewer)

            pub no_targets : length t ≡ 0 → accepted ≡ asked_outcome b s t order
            no_targets e = rw (last, eq-eqb (length t) 0 e)

            module _ (some : length t ≡ 0 → ⊥) where
              pub order-none : order < 1 → Err Order ≡ asked_outcome b s t order
              order-none h = rw (last, ne_eqb (length t) 0 some, lt-leb 1 order h)

              module _ (one : 1 ≤ order) where
                pub order-large : 64 < order → Err Order ≡ asked_outcome b s t order
                order-large h = rw (last, ne_eqb (length t) 0 some, le-leb 1 order one, lt-leb order 64 h)

                pub order-known : order ≤ 64 → accepted ≡ asked_outcome b s t order
                order-known h = rw (last, ne_eqb (length t) 0 some, le-leb 1 order one, le-leb order 64 h)

  pub record Called : Type 0 where
    pub box : Fine b
    pub few : rows_of b s ≤ most_points
    pub fewer : rows_of b t ≤ most_points
    pub fits : 0 < length t → order ≤ 64

  pub checked : asked_outcome b s t order ≡ accepted → Called
  unfolding asked_outcome
  checked h =
      let sixth = both-done _ (ask (order_fits order t) Order) h in
      let fifth = both-done _ (ask (leb (rows_of b t) most_points) Count) sixth.0 in
      let fourth = both-done _ (ask (leb (rows_of b s) most_points) Count) fifth.0 in
      let third = both-done _ (ask (eqb (length t % b.axes) 0) Shape) fourth.0 in
      let second = both-done (box_outcome b) (ask (eqb (length s % b.axes) 0) Shape) third.0 in
      let f : order_fits order t ≡ true = asked (order_fits order t) Order sixth.1 in
      record {
        box = fine b second.0;
        few = leb-true (rows_of b s) most_points (asked _ Count fourth.1);
        fewer = leb-true (rows_of b t) most_points (asked _ Count fifth.1);
        fits = λ p. leb-true order 64 (and_r (leb 1 order) (leb order 64) (or-not (eqb (length t) 0) (leb 1 order && leb order 64) f (ne_eqb (length t) 0 (λ e. omega (arith, p, e)))));
      }
