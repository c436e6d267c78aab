-- Document 01's example, computed from the definitions: from the columns of its tree in Z order to the listing printed there.
use mathlib.Core.Path.{◌≡◌, refl}
use mathlib.Core.List.{◌++◌}
use lib.ListN.{get_or}
use Rattle.refusal.specs.declared.Refusal.TheVariants.{Source, Room}
use Rattle.slices.specs.Every.{every}
use Rattle.slices.specs.Lists.{concat_map, range, any, filter, sum}
use Rattle.slices.specs.Order.{ascending}
use Rattle.morton.specs.Keys.{upwards}
use Rattle.morton.specs.Anchors.{near}
use Rattle.tree.specs.Nodes.{leaf, own_of, sourced}
use Rattle.tree.specs.Order.{greatest_level, depth_of}
use Rattle.tree.proofs.Examples.{keys₁, own₁}
use Rattle.rows.specs.Lists.{in_u, in_v, u_row, v_row, near_work}
use Rattle.text.specs.Characters.{ascii}
use Rattle.text.specs.Digits.{digits, decimal}
use Rattle.text.specs.Listing.{node_line, lines_from, listing, refusal_line}

pub example : listing keys₁ own₁ (λ i. u_row 1 keys₁ own₁ (get_or keys₁ i 0)) (λ i. v_row 1 keys₁ own₁ (get_or keys₁ i 0)) 1 (depth_of keys₁) 4 (near_work 1 keys₁ own₁ (own_of keys₁ own₁))
    ≡ ascii "tree 1 9 3 4 8\n"
    ++ ascii "0 0 0 U V\n"
    ++ ascii "1 1 0 U V\n"
    ++ ascii "2 32769 0 U V\n"
    ++ ascii "3 2 0 U V 98306\n"
    ++ ascii "4 98306 0 U V 2\n"
    ++ ascii "5 3 1 U 3 32771 V\n"
    ++ ascii "6 32771 1 U 3 32771 V\n"
    ++ ascii "7 196611 1 U 196611 229379 V\n"
    ++ ascii "8 229379 1 U 196611 229379 V\n"
unfolding node_line lines_from concat_map range digits greatest_level near_work sum u_row in_u v_row in_v leaf sourced own_of any ascending filter near every upwards
example = refl

pub short : refusal_line (Room 3) ≡ ascii "refused 8 3\n"
unfolding concat_map digits
short = refl

-- a source behind a wall: its index, the axis and the reason
pub behind : refusal_line (Source (record { index = 17; axis = 1; reason = 2 })) ≡ ascii "refused 6 17 1 2\n"
unfolding concat_map digits
behind = refl

-- the largest u64
pub largest : decimal 18446744073709551615 ≡ ascii "18446744073709551615"
unfolding digits
largest = refl
