-- Document 01, "Keys". A cell is a level and a code, and its key holds both; d is the number of axes.
use Rattle.std.specs.Prelude.{Bool, true, false, ◌&&◌, List, [], ◌∷◌, map, ℕ, zero, suc, ◌+◌, ◌*◌, ◌-◌, ◌/◌, ◌%◌, ◌^◌, ◌≤◌, ◌<◌, leb, ltb, eqb}
use Rattle.slices.specs.Lists.{range}
pub use Rattle.axes.specs.Axes.{axes_known, children_room, neighbours_room, far_room}

abbrev pub deepest : ℕ
deepest = 16

abbrev pub key : ℕ → ℕ → ℕ
key level code = code * 32768 + level

abbrev pub level_of : ℕ → ℕ
level_of k = k % 32768

abbrev pub code_of : ℕ → ℕ
code_of k = k / 32768

abbrev pub valid : ℕ → ℕ → Bool
valid d k = leb (level_of k) deepest && ltb (code_of k) (2 ^ (d * level_of k))

-- the same as facts: 1 to 3 axes and a valid key
pub record ValidKey (d k : ℕ) : Type 0 where
  pub some : 1 ≤ d
  pub most : d ≤ 3
  pub level : level_of k ≤ 16
  pub code : code_of k < 2 ^ (d * level_of k)

-- the code of the cell n levels above one with this code
abbrev pub above : ℕ → ℕ → ℕ → ℕ
above d n code = code / 2 ^ (d * n)

abbrev pub parent : ℕ → ℕ → ℕ
parent d k = key (level_of k - 1) (code_of k / 2 ^ d)

abbrev pub child : ℕ → ℕ → ℕ → ℕ
child d k c = key (level_of k + 1) (code_of k * 2 ^ d + c)

abbrev pub children : ℕ → ℕ → List ℕ
children d k = map (child d k) (range 0 (2 ^ d))

abbrev pub child_index : ℕ → ℕ → ℕ
child_index d k = code_of k % 2 ^ d

abbrev pub siblings : ℕ → ℕ → List ℕ
siblings d k = children d (parent d k)

-- a key, and the n cells above it, upwards
unfoldable pub upwards : ℕ → ℕ → ℕ → List ℕ
upwards zero d k = k ∷ []
upwards (suc n) d k = k ∷ upwards n d (parent d k)

abbrev pub ancestors : ℕ → ℕ → List ℕ
ancestors d k = upwards (level_of k) d k

-- cell j is cell k or lies in it
abbrev pub under : ℕ → ℕ → ℕ → Bool
under d k j = leb (level_of k) (level_of j) && eqb (above d (level_of j - level_of k) (code_of j)) (code_of k)

-- cell k holds a point with this level-16 code
abbrev pub holds : ℕ → ℕ → ℕ → Bool
holds d k code = eqb (above d (deepest - level_of k) code) (code_of k)
