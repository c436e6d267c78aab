-- The runs of an order column that holds its sources, place by place.
use mathlib.Core.Path.{◌≡◌}
use mathlib.Core.Bool.{true}
use mathlib.Core.List.{List}
use Prim.Native.Nat.{ℕ, suc, ◌+◌, ◌≤◌, ◌<◌}
use native.Mathlib.Omega.{arith}
use lib.ListN.{length, get_or}
use Rattle.slices.specs.Lists.{sum}
use Rattle.morton.specs.Keys.{holds}
use Rattle.tree.specs.WellFormed.{Run}
use Rattle.further.specs.Points.{SourcesRight}

-- each entry of a node's run is the number of a source in that node, and the entries of a run rise
pub record Holding (d : ℕ) (sources keys own begin order : List ℕ) : Type 0 where
  pub index : (j p : ℕ) → Run own begin j p → get_or order p 0 < length sources
  pub inside : (j p : ℕ) → Run own begin j p → holds d (get_or keys j 0) (get_or sources (get_or order p 0) 0) ≡ true
  pub rises : (j p : ℕ) → Run own begin j p → Run own begin j (suc p) → get_or order p 0 < get_or order (suc p) 0

module _ (d : ℕ) (s keys own begin order : List ℕ) (owns : length own ≡ length keys) where
  node : (j p : ℕ) → Run own begin j p → j < length keys
  node j p r = omega (arith, r.node, owns)

  pub holding : SourcesRight d s keys own begin order → Holding d s keys own begin order
  holding h = record {
    index = λ j p r. (h.runs j (node j p r)).index p r.from r.to;
    inside = λ j p r. (h.runs j (node j p r)).inside p r.from r.to;
    rises = λ j p r q. (h.runs j (node j p r)).rises p r.from q.to;
  }

  pub held-right : length order ≡ length s → sum own ≡ length s → Holding d s keys own begin order → SourcesRight d s keys own begin order
  held-right many whole h = record {
    many = many;
    whole = whole;
    runs = λ j l. record {
      index = λ p a b. h.index j p (run j p l a b);
      inside = λ p a b. h.inside j p (run j p l a b);
      rises = λ p a b. h.rises j p (run j p l a (omega arith)) (run j (suc p) l (omega arith) b);
    };
  }
    where
      run : (j p : ℕ) → j < length keys → get_or begin j 0 ≤ p → p < get_or begin j 0 + get_or own j 0 → Run own begin j p
      run j p l a b = record { node = omega (arith, owns); from = a; to = b }
