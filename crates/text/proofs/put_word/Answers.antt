-- The bytes passed have been put, and after a turn one more.
use Rattle.text.proofs.Putting.{puts-join, puts-same, word_more}
use mathlib.Core.Path.{sym}
use Rattle.text.proofs.put_word.Goals as goal

pub loop-byte-preserved : goal.loop-byte-preserved
loop-byte-preserved c = puts-same _ _ _ _ _ _ (sym (word_more _ _ c.loop-byte-test.true)) (puts-join _ _ _ _ _ _ _ _ c.loop-byte.invariant c.put-m.ensures)
