-- What a tree file holds: document 02, order 6. Columns, order, U and V.
use Rattle.std.specs.Prelude.{List, ℕ}

pub record Contents : Type 0 where
  pub axes : ℕ
  pub keys : List ℕ
  pub own : List ℕ
  pub begin : List ℕ
  pub total : List ℕ
  pub order : List ℕ
  pub u_starts : List ℕ
  pub u_keys : List ℕ
  pub v_starts : List ℕ
  pub v_keys : List ℕ

-- as they are handed to a call
abbrev pub contents : ℕ → (keys own begin total order us uk vs vk : List ℕ) → Contents
contents axes keys own begin total order us uk vs vk = record {
  axes = axes;
  keys = keys;
  own = own;
  begin = begin;
  total = total;
  order = order;
  u_starts = us;
  u_keys = uk;
  v_starts = vs;
  v_keys = vk;
}
