-- What the C face tells of the float test agrees with what it tells of the anchor test.
use mathlib.Core.Path.{◌≡◌, sym, ap, ◌∙◌}
use mathlib.Core.Bool.{Bool, false}
use Prim.Native.Nat.{ℕ}
use Rattle.space.specs.declared.Box.{Box}
use Rattle.centres.specs.Agreement.{Agree}
use Rattle.exports_keys.specs.declared.Ended.{Ended}
use Rattle.exports_keys.specs.Told.{told}
use Rattle.exports_points.specs.Told.{AgreeTold}
use Rattle.refusal.specs.Outcome.{Answer, ending, answer_or}

agreed : (b : Box) (j k : ℕ) (r : Answer Bool) (ended : Ended) (adjacent : Bool) → Agree b j k r → ended ≡ told (ending r) → adjacent ≡ answer_or false r → AgreeTold b j k ended adjacent
agreed b j k r ended adjacent g e a o =
    let s = g o in
    (e ∙ ap (λ (r : Answer Bool). told (ending r)) s.float, ap (λ (t : Answer Bool). told (ending t)) s.anchor, a ∙ ap (answer_or false) s.float ∙ sym (ap (answer_or false) s.anchor))

-- of the box c that was made from b's parts, and the answer s that was found to be r
pub agreed-told : (b c : Box) (j k : ℕ) (r s : Answer Bool) (ended : Ended) (adjacent : Bool) → c ≡ b → s ≡ r → Agree c j k s → ended ≡ told (ending r) → adjacent ≡ answer_or false r → AgreeTold b j k ended adjacent
agreed-told b c j k r s ended adjacent p q g = agreed b j k r ended adjacent (rw (sym p, sym q) g)
