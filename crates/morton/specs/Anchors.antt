-- Document 01, "Keys": the anchors of a cell, and which cells touch.
use Rattle.std.specs.Prelude.{Bool, true, false, ◌&&◌, List, map, ℕ, zero, suc, ◌+◌, ◌*◌, ◌-◌, ◌/◌, ◌%◌, ◌^◌, min, leb, ltb, eqb, get_or}
use Rattle.slices.specs.Lists.{range}
use Rattle.slices.specs.Every.{every}
unfoldable pub use Rattle.codes.specs.Codes.{anchor, spread, encode}
pub use Rattle.codes.specs.Codes.{anchors_of}
use Rattle.morton.specs.Keys.{key, level_of, code_of, above}

-- a cell's anchors, one an axis
abbrev pub anchors : ℕ → ℕ → List ℕ
anchors d k = anchors_of d (level_of k) (code_of k)

-- the anchors on the axes, where there may be more
abbrev pub on_axes : ℕ → List ℕ → List ℕ
on_axes d xs = map (λ a. get_or xs a 0) (range 0 d)

-- the key of the cell with the anchors xs
abbrev pub key_at : ℕ → ℕ → List ℕ → ℕ
key_at d level xs = key level (encode d d level xs)

-- on each axis the anchor is one of its level, 0 to 2 ^ level - 1
abbrev pub on_level : ℕ → ℕ → List ℕ → Bool
on_level d level xs = every d (λ a. ltb (get_or xs a 0) (2 ^ level))

-- two numbers differ by at most 1
abbrev pub within1 : ℕ → ℕ → Bool
within1 x y = leb x (y + 1) && leb y (x + 1)

-- two codes of one level: on each of the first n axes their anchors differ by at most 1
unfoldable pub near : ℕ → ℕ → ℕ → ℕ → ℕ → Bool
unfolding every anchor
near n d level x y = every n (λ a. within1 (anchor d a level x) (anchor d a level y))

-- touching: same level, anchors differing by at most 1 on every axis
abbrev pub touching : ℕ → ℕ → ℕ → Bool
touching d j k = eqb (level_of j) (level_of k) && near d d (level_of j) (code_of j) (code_of k)

-- cells j and k, both taken at the coarser one's level, coincide or touch
abbrev pub close : ℕ → ℕ → ℕ → Bool
close d j k = let l = min (level_of j) (level_of k) in near d d l (above d (level_of j - l) (code_of j)) (above d (level_of k - l) (code_of k))
