-- Document 01, "The survey file and the listing": what is printed of a tree.
use Rattle.std.specs.Prelude.{List, map, ℕ, Float, Err, Ok}
use Rattle.refusal.specs.Chain.{◌then◌}
use Rattle.refusal.specs.Left.{left}
use Rattle.space.specs.declared.Box.{Box}
use Rattle.tree.specs.Columns.{Columns}
use Rattle.interaction.specs.Answers.{lists_check}
use Rattle.near_work.specs.Work.{weights}
use Rattle.near_work.specs.Answers.{work_check}
use Rattle.text.specs.Listing.{refusal_line, tree_listing}
use Rattle.refusal.specs.Outcome.{Outcome}

-- a text, or the one line of the refusal that stands in its way
abbrev pub text_or : Outcome → List ℕ → List ℕ
text_or (Ok tt) text = text
text_or (Err r) text = refusal_line r

module _ (b : Box) (t : Columns) (targets : List Float) where
  -- the refusals of the lists, then those of near work: a target that lookup refuses ends the listing; so much room for U and V starts and keys, and for counts
  abbrev pub text_check : (us uk vs vk cs : ℕ) → Outcome
  text_check us uk vs vk cs = lists_check b.axes t us uk vs vk then work_check b t targets cs

  -- the listing of a tree
  abbrev pub tree_text : (us uk vs vk cs sources : ℕ) → List ℕ
  tree_text us uk vs vk cs sources = text_or (text_check us uk vs vk cs) (tree_listing b.axes t.keys t.own sources (weights b t.keys t.own targets))

  -- what is left in the counts: the targets of each node
  abbrev pub text_counts : (us uk vs vk cs : ℕ) → List ℕ
  text_counts us uk vs vk cs = left (text_check us uk vs vk cs) cs (map (weights b t.keys t.own targets) t.keys)
