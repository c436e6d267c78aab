-- `text::find` meets its contract: no place from the first on that was passed has the byte.
use borrow.Author.Count.{below_more}
use Rattle.key_vectors.proofs.text.find.Goals as goal

pub loop-i-preserved : goal.loop-i-preserved
loop-i-preserved c = below_more _ _ c.loop-i.invariant (λ l. c.if-s-i.false)
