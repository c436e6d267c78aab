-- The file of the tree that is its root alone, and small changes of it with the refusal of each: a wrong definition fails here first.
use mathlib.Core.Path.{◌≡◌, refl}
use mathlib.Core.List.{List, [], ◌∷◌, ◌++◌, map}
use Prim.Native.Nat.{ℕ, ◌+◌, ◌*◌}
use lib.ListN.{length, set}
use Rattle.slices.specs.Every.{every}
use Rattle.slices.specs.Lists.{any, filter, sum, range, concat_map}
use Rattle.slices.specs.Order.{ascending}
use Rattle.refusal.specs.Numbers.{outcome_number}
use Rattle.morton.specs.Keys.{upwards}
use Rattle.morton.specs.Anchors.{near}
use Rattle.survey.specs.Bytes.{number_at}
use Rattle.tree.specs.Nodes.{leaf, own_of, sourced}
use Rattle.tree.specs.Order.{in_order}
use Rattle.tree.specs.Totals.{total_in}
use Rattle.tree.specs.WellFormed.{well_formed}
use Rattle.rows.specs.Lists.{in_u, in_v, u_row, v_row}
use Rattle.rows.specs.Written.{starts_from}
use Rattle.sums.specs.Right.{same, lists_are}
use Rattle.sums.specs.Arrangement.{arranges}
use Rattle.tree_file.specs.Bytes.{bytes_of}
use Rattle.tree_file.specs.Contents.{Contents}
use Rattle.tree_file.specs.Written.{body, entries, file_of}
use Rattle.tree_file.specs.Trailer.{sections_good, column_in, tree_in}
use Rattle.tree_file.specs.Checks.{writeable, readable}
use Rattle.refusal.specs.Outcome.{accepted}

abbrev root : Contents
root = record { axes = 1; keys = 0 ∷ []; own = 0 ∷ []; begin = 0 ∷ []; total = 0 ∷ []; order = []; u_starts = 0 ∷ 0 ∷ []; u_keys = []; v_starts = 0 ∷ 0 ∷ []; v_keys = [] }

-- nine sections in 36 bytes
abbrev sections₀ : List ℕ
sections₀ = 0 ∷ 0 ∷ 0 ∷ 0 ∷ 0 ∷ 0 ∷ 0 ∷ 0 ∷ 0 ∷ 0 ∷ 0 ∷ 0 ∷ 0 ∷ 0 ∷ 0 ∷ 0 ∷ 0 ∷ 0 ∷ 0 ∷ 0 ∷ 0 ∷ 0 ∷ 0 ∷ 0 ∷ 0 ∷ 0 ∷ 0 ∷ 0 ∷ 0 ∷ 0 ∷ 0 ∷ 0 ∷ 0 ∷ 0 ∷ 0 ∷ 0 ∷ []

-- code, back, length of each; one axis, nine entries
abbrev trailer₀ : List ℕ
trailer₀ = 1 ∷ 0 ∷ 0 ∷ 0 ∷ 36 ∷ 0 ∷ 0 ∷ 0 ∷ 8 ∷ 0 ∷ 0 ∷ 0
    ∷ 2 ∷ 0 ∷ 0 ∷ 0 ∷ 28 ∷ 0 ∷ 0 ∷ 0 ∷ 4 ∷ 0 ∷ 0 ∷ 0
    ∷ 3 ∷ 0 ∷ 0 ∷ 0 ∷ 24 ∷ 0 ∷ 0 ∷ 0 ∷ 4 ∷ 0 ∷ 0 ∷ 0
    ∷ 4 ∷ 0 ∷ 0 ∷ 0 ∷ 20 ∷ 0 ∷ 0 ∷ 0 ∷ 4 ∷ 0 ∷ 0 ∷ 0
    ∷ 5 ∷ 0 ∷ 0 ∷ 0 ∷ 16 ∷ 0 ∷ 0 ∷ 0 ∷ 0 ∷ 0 ∷ 0 ∷ 0
    ∷ 6 ∷ 0 ∷ 0 ∷ 0 ∷ 16 ∷ 0 ∷ 0 ∷ 0 ∷ 8 ∷ 0 ∷ 0 ∷ 0
    ∷ 7 ∷ 0 ∷ 0 ∷ 0 ∷ 8 ∷ 0 ∷ 0 ∷ 0 ∷ 0 ∷ 0 ∷ 0 ∷ 0
    ∷ 8 ∷ 0 ∷ 0 ∷ 0 ∷ 8 ∷ 0 ∷ 0 ∷ 0 ∷ 8 ∷ 0 ∷ 0 ∷ 0
    ∷ 9 ∷ 0 ∷ 0 ∷ 0 ∷ 0 ∷ 0 ∷ 0 ∷ 0 ∷ 0 ∷ 0 ∷ 0 ∷ 0
    ∷ 1 ∷ 0 ∷ 0 ∷ 0 ∷ 9 ∷ 0 ∷ 0 ∷ 0 ∷ []

abbrev file₀ : List ℕ
file₀ = sections₀ ++ trailer₀

pub written : file_of root ≡ file₀
unfolding bytes_of concat_map body entries
written = refl

pub bytes : length file₀ ≡ 152
bytes = refl

pub taken : writeable root ≡ accepted
unfolding bytes_of body well_formed in_order leaf any sum total_in own_of arranges ascending range lists_are same starts_from concat_map u_row v_row in_u in_v sourced filter near every upwards
taken = refl

pub read : tree_in file₀ ≡ root
unfolding number_at column_in
read = refl

-- as it is: not refused. Axes 0, alone and with a code 0: 1. Code 0, code 32, code 1 twice: 17. Own counts of 3 bytes, and 37 bytes before the trailer: 17; none: 13.
-- A total of 1: 13. A second start of U of 1: 17
pub refusals : map (λ file. outcome_number (readable file))
    (file₀ ∷ set file₀ 144 0 ∷ set (set file₀ 144 0) 36 0 ∷ set file₀ 36 0 ∷ set file₀ 36 32 ∷ set file₀ 48 1 ∷ set file₀ 56 3 ∷ set file₀ 52 37 ∷ set file₀ 56 0
    ∷ set file₀ 16 1 ∷ set file₀ 24 1 ∷ [])
    ≡ 0 ∷ 1 ∷ 1 ∷ 17 ∷ 17 ∷ 17 ∷ 17 ∷ 17 ∷ 13 ∷ 13 ∷ 17 ∷ []
unfolding number_at column_in sections_good well_formed in_order leaf any sum total_in own_of arranges ascending range lists_are same starts_from concat_map u_row v_row in_u in_v sourced filter near every upwards
refusals = refl

-- a trailer of so many entries that 12 times their number passes 2 ^ 32, and one entry in eight bytes: 17 before 1. No entries: 1, or 17 where there are axes
pub trailers : map (λ file. outcome_number (readable file))
    ((0 ∷ 0 ∷ 0 ∷ 0 ∷ 0 ∷ 0 ∷ 0 ∷ 0 ∷ 0 ∷ 0 ∷ 0 ∷ 0 ∷ 86 ∷ 85 ∷ 85 ∷ 21 ∷ []) ∷ (0 ∷ 0 ∷ 0 ∷ 0 ∷ 1 ∷ 0 ∷ 0 ∷ 0 ∷ [])
    ∷ (0 ∷ 0 ∷ 0 ∷ 0 ∷ 0 ∷ 0 ∷ 0 ∷ 0 ∷ []) ∷ (1 ∷ 0 ∷ 0 ∷ 0 ∷ 0 ∷ 0 ∷ 0 ∷ 0 ∷ []) ∷ [] ∷ [])
    ≡ 17 ∷ 17 ∷ 1 ∷ 17 ∷ 17 ∷ []
unfolding number_at column_in sections_good well_formed in_order leaf any sum total_in own_of arranges ascending range lists_are same starts_from concat_map u_row v_row in_u in_v sourced filter near every upwards
trailers = refl

-- the same file with more entries in front of the nine, at the trailer's start, where these sections end: code, back, length of each
abbrev with : ℕ → List ℕ → List ℕ
with n more = set (sections₀ ++ more ++ trailer₀) (148 + 12 * n) (9 + n)

-- codes 10 and 31 are skipped, whatever their section holds; 32, code 10 twice and a section that reaches into the trailer are 17
pub later : map (λ file. outcome_number (readable file))
    (with 1 (10 ∷ 0 ∷ 0 ∷ 0 ∷ 36 ∷ 0 ∷ 0 ∷ 0 ∷ 7 ∷ 0 ∷ 0 ∷ 0 ∷ []) ∷ with 1 (31 ∷ 0 ∷ 0 ∷ 0 ∷ 0 ∷ 0 ∷ 0 ∷ 0 ∷ 0 ∷ 0 ∷ 0 ∷ 0 ∷ [])
    ∷ with 1 (32 ∷ 0 ∷ 0 ∷ 0 ∷ 0 ∷ 0 ∷ 0 ∷ 0 ∷ 0 ∷ 0 ∷ 0 ∷ 0 ∷ [])
    ∷ with 2 (10 ∷ 0 ∷ 0 ∷ 0 ∷ 0 ∷ 0 ∷ 0 ∷ 0 ∷ 0 ∷ 0 ∷ 0 ∷ 0 ∷ 10 ∷ 0 ∷ 0 ∷ 0 ∷ 0 ∷ 0 ∷ 0 ∷ 0 ∷ 0 ∷ 0 ∷ 0 ∷ 0 ∷ [])
    ∷ with 1 (10 ∷ 0 ∷ 0 ∷ 0 ∷ 4 ∷ 0 ∷ 0 ∷ 0 ∷ 5 ∷ 0 ∷ 0 ∷ 0 ∷ []) ∷ [])
    ≡ 0 ∷ 0 ∷ 17 ∷ 17 ∷ 17 ∷ []
unfolding number_at column_in sections_good well_formed in_order leaf any sum total_in own_of arranges ascending range lists_are same starts_from concat_map u_row v_row in_u in_v sourced filter near every upwards
later = refl
