-- A file in a container: whole where its length and its bytes have room.
use mathlib.Core.Path.{◌≡◌, sym, ap, subst}
use mathlib.Core.Bool.{Bool}
use mathlib.Core.List.{List}
use Prim.Native.Nat.{ℕ, ◌+◌, ◌≤◌, ◌<◌}
use native.Mathlib.Omega.{arith}
use borrow.Author.Tests.{le-leb, lt-leb}
use lib.Dec.{leb}
use lib.ListN.{length}
use Rattle.std.specs.Prelude.{Some, None}
use Rattle.survey.specs.Bytes.{u32_at}
use Rattle.container.specs.Parts.{part_if, part_at}

pub not-whole : (bytes : List ℕ) (at : ℕ) → length bytes < at + 4 + u32_at bytes at → None ≡ part_at bytes at
unfolding part_at
not-whole bytes at short = sym (ap (λ (t : Bool). part_if t bytes at) (lt-leb _ _ short))

pub is_whole : (bytes : List ℕ) (at n : ℕ) → n ≡ u32_at bytes at → at + 4 + n ≤ length bytes → Some (record { start = at + 4; end = at + 4 + n }) ≡ part_at bytes at
unfolding part_at
is_whole bytes at n e fits =
    subst (λ (m : ℕ). Some (record { start = at + 4; end = at + 4 + m }) ≡ part_if (leb (at + 4 + u32_at bytes at) (length bytes)) bytes at) (sym e)
    (sym (ap (λ (t : Bool). part_if t bytes at) (le-leb _ _ (subst (λ (m : ℕ). at + 4 + m ≤ length bytes) e fits))))
