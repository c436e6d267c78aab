-- What the writer answers, and what it leaves in the slice lent for the file.
use Rattle.std.specs.Prelude.{List, ℕ, leb, length, Ok}
use Rattle.refusal.specs.declared.Refusal.TheVariants.{Room}
use Rattle.refusal.specs.Chain.{ask, ◌then◌}
use Rattle.refusal.specs.Left.{left}
use Rattle.tree_file.specs.Contents.{Contents}
use Rattle.tree_file.specs.Written.{file_of}
use Rattle.tree_file.specs.Checks.{writeable}
use Rattle.refusal.specs.Outcome.{Answer, Outcome}

-- 1, 4, 13, 17, then 8 with value 11 for a slice that is shorter than the file
abbrev pub write_check : Contents → ℕ → Outcome
write_check t room = writeable t then ask (leb (length (file_of t)) room) (Room 11)

-- the file's length, or the refusal
abbrev pub write_answer : Contents → ℕ → Answer ℕ
write_answer t room = write_check t room then Ok (length (file_of t))

-- the file and then 0, or 0 throughout after a refusal
abbrev pub write_left : Contents → ℕ → List ℕ
write_left t room = left (write_check t room) room (file_of t)
