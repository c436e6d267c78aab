-- `descent::are_few` meets its contract.
use mathlib.Core.Path.{◌≡◌, refl, sym, ap, ◌∙◌}
use mathlib.Core.Bool.{Bool, ◌&&◌}
use Prim.Native.Nat.{ℕ, ◌+◌, ◌-◌, ◌≤◌, ◌<◌}
use native.Mathlib.Omega.{arith}
use lib.Dec.{leb}
use borrow.Author.Tests.{leb-true, le-leb, lt-leb}
use Rattle.slices.proofs.Tests.{and_r, both, same_test}
use mathlib.Core.Bool.{true, false}
use Rattle.descent.proofs.are_few.Goals as goal

module _ (k n room : ℕ) where
  many : 256 < k → false ≡ (leb k 256 && leb (n + k) room)
  many h = sym (ap (λ b. b && leb (n + k) room) (lt-leb k 256 h))

  no_room : room < n → false ≡ (leb k 256 && leb (n + k) room)
  no_room h = sym (ap (λ b. leb k 256 && b) (lt-leb (n + k) room (omega arith)) ∙ none (leb k 256))
    where
      none : (b : Bool) → (b && false) ≡ false
      none true = refl
      none false = refl

  rest : k ≤ 256 → n ≤ room → leb k (room - n) ≡ (leb k 256 && leb (n + k) room)
  rest h g =
      same_test (leb k (room - n)) (leb k 256 && leb (n + k) room)
      (λ e. both (le-leb k 256 h) (le-leb (n + k) room (omega (arith, leb-true k (room - n) e))))
      (λ e. le-leb k (room - n) (omega (arith, leb-true (n + k) room (and_r (leb k 256) _ e))))

pub returns-then-nodes-gt-FEW : goal.returns-then-nodes-gt-FEW
returns-then-nodes-gt-FEW c = many _ _ _ c.if-nodes-gt-FEW.true

pub returns-then-room-n : goal.returns-then-room-n
returns-then-room-n c = no_room c.args.nodes c.args.n c.args.room c.if-room-n.true

pub returns : goal.returns
returns c = rest _ _ _ c.if-nodes-gt-FEW.false c.if-room-n.false
