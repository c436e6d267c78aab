-- The root's step, before any row is put.
use mathlib.Core.Path.{refl, sym, ap, ◌∙◌, subst}
use mathlib.Core.List.{List, [], ◌++◌}
use Prim.Native.Nat.{ℕ, ◌≤◌}
use native.Mathlib.Omega.{arith}
use lib.ListN.{length, length-append}
use Rattle.growth.specs.declared.Rule.{Rule}
use Rattle.growth.proofs.Kids.{splits-root}
use Rattle.parting.specs.Cells.{Points, dealt_out}
use Rattle.grow.specs.Rows.{marked, Holds}
use Rattle.parting.specs.Setting.{Setting, Given}
use Rattle.parting.specs.Parts.{Words, DealtCell}
use Rattle.grow.specs.Steps.{AtChildren}
use Rattle.parting.proofs.Root.{root-size}
use Rattle.grow.proofs.Putting.{owned-none}
use Rattle.grow.proofs.Turns.{dealt-out-length}

-- nothing is put yet
none-held : (g : Rule) (p : Points) (room : ℕ) (key mark : List ℕ) → room ≤ 1048576 → Holds g p room (marked key mark 0) []
none-held g p room key mark a = record { bounded = a; counted = omega arith; filled = λ _ _ _. record { keys = refl; marks = refl } }

pub root-at : (g : Rule) (z : Setting) (p : Points) (counts to work key mark : List ℕ) → Given g z p → z.room ≤ 1048576
    → DealtCell g z p 0 counts to work [] [] → AtChildren g z p 0 0 z.sources counts to work (marked key mark 0) [] []
root-at g z p counts to work key mark v a q = record {
  stands = record {
    behind = record { given = q.words.given; beyond = q.words.beyond };
    whole = omega (arith, length-append (dealt_out g p 0) [], dealt-out-length g p 0 (omega arith), root-size g z p v);
    rows = none-held g p z.room key mark a;
    ordered = λ _. record {
      words = subst (Words g z p work) (ap (λ (xs : List ℕ). xs ++ (dealt_out g p 0 ++ [])) (sym (owned-none g p))) q.words;
      reached = ap length (sym (owned-none g p));
    };
  };
  ends = sym (root-size g z p v) ∙ omega arith;
  inner = splits-root g p.sources p.targets 0 refl;
  counted = q.counted;
  placed = q.placed;
}
