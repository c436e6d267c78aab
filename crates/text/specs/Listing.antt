-- Document 01, "The survey file and the listing", with order 10: the lines of the listing, in ASCII. Nodes stand in Z order and are printed by level.
use Rattle.std.specs.Prelude.{Bool, true, false, ℕ, suc, leb, eqb, length, get_or, None, Option, Some}
use mathlib.Core.List.{List, [], ◌∷◌, ◌++◌}
use Prim.Native.Char.{code}
use Rattle.refusal.specs.declared.Refusal.{Refusal}
use Rattle.refusal.specs.Numbers.{number_of, values_of}
use Rattle.slices.specs.Lists.{range, filter, concat_map, filled}
use Rattle.morton.specs.Keys.{deepest, level_of}
use Rattle.tree.specs.Order.{depth_of}
use Rattle.rows.specs.Lists.{u_row, v_row, near_work}
use Rattle.text.specs.Characters.{ascii}
use Rattle.text.specs.Digits.{decimal}

-- a blank, and then a number
abbrev pub field : ℕ → List ℕ
field n = code " " ∷ decimal n

abbrev pub fields : List ℕ → List ℕ
fields ns = concat_map field ns

-- a word, numbers, and the line feed after every line
abbrev pub line : List ℕ → List ℕ → List ℕ
line word ns = word ++ fields ns ++ code "\n" ∷ []

-- `tree`, axes, nodes, depth, sources, near work
abbrev pub first_line : ℕ → ℕ → ℕ → ℕ → ℕ → List ℕ
first_line axes nodes depth sources work = line (ascii "tree") (axes ∷ nodes ∷ depth ∷ sources ∷ work ∷ [])

-- `refused`, number, values: one, or the three of 6 and 7
abbrev pub refusal_line : Refusal → List ℕ
refusal_line r = line (ascii "refused") (number_of r ∷ values_of r)

-- a letter after a blank, and then keys
abbrev pub lettered : ℕ → List ℕ → List ℕ
lettered letter keys = code " " ∷ letter ∷ fields keys

-- the nodes of level l, in their order: within a level that of Z order is by code
abbrev pub of_level : List ℕ → ℕ → List ℕ
of_level key l = filter (λ i. eqb (level_of (get_or key i 0)) l) (range 0 (length key))

-- the nodes by level, then ascending code, each by its number in Z order
abbrev pub by_level : List ℕ → List ℕ
by_level key = concat_map (of_level key) (range 0 (suc deepest))

-- a tree's columns, and the U and V row of each node
module _ (key own : List ℕ) (u v : ℕ → List ℕ) where
  -- node i, printed with number n: number, key, own sources, U keys, V keys
  unfoldable pub node_line : ℕ → ℕ → List ℕ
  node_line n i = decimal n ++ field (get_or key i 0) ++ field (get_or own i 0) ++ lettered (code "U") (u i) ++ lettered (code "V") (v i) ++ code "\n" ∷ []

  -- one a node, with numbers that count from n on
  unfoldable pub lines_from : ℕ → List ℕ → List ℕ
  unfolding node_line
  lines_from n [] = []
  lines_from n (i ∷ nodes) = node_line n i ++ lines_from (suc n) nodes

  -- the lines of all nodes by level
  abbrev pub node_lines : List ℕ
  node_lines = lines_from 0 (by_level key)

  abbrev pub listing : ℕ → ℕ → ℕ → ℕ → List ℕ
  listing axes depth sources work = first_line axes (length key) depth sources work ++ node_lines

-- the listing of a tree over d axes: the U and V row of each node, the depth, the sources, near work with so many targets in each leaf
abbrev pub tree_listing : (d : ℕ) (key own : List ℕ) → ℕ → (ℕ → ℕ) → List ℕ
tree_listing d key own sources weigh =
    listing key own (λ i. u_row d key own (get_or key i 0)) (λ i. v_row d key own (get_or key i 0)) d (depth_of key) sources (near_work d key own weigh)

-- ---- a text in a slice with so much room

abbrev pub length_or : Bool → ℕ → Option ℕ
length_or true n = Some n
length_or false n = None

abbrev pub text_if : Bool → List ℕ → List ℕ
text_if true text = text
text_if false text = []

-- its length, or that the room is short
abbrev pub text_answer : ℕ → List ℕ → Option ℕ
text_answer room text = length_or (leb (length text) room) (length text)

-- the slice's end content: the text and then 0, or 0 throughout if the room is short
abbrev pub text_left : ℕ → List ℕ → List ℕ
text_left room text = filled room (text_if (leb (length text) room) text)
