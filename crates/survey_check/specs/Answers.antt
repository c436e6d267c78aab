-- What the sum check of a whole survey answers: how many leaves agree, and the additions of all leaves.
use Rattle.std.specs.Prelude.{◌≡◌, Bool, ◌&&◌, cond, List, map, ℕ, min, eqb, ltb, ℤ, nat_abs, ◌+ℤ◌, ◌-ℤ◌, IfOk, Ok}
use Rattle.slices.specs.Lists.{count, sum}
use Rattle.refusal.specs.declared.Refusal.TheVariants.{NotBuilt, Room}
use Rattle.refusal.specs.Chain.{ask, ◌then◌}
use Rattle.tree.specs.Columns.{Columns}
use Rattle.tree.specs.Nodes.{leaf}
use Rattle.rows.specs.Lists.{u_rows, v_rows}
use Rattle.sums.specs.Sums.{near_sum, far_sum, additions, plain_sum}
use Rattle.sum_check.specs.Checks.{readings_check, is_built}
use Rattle.survey_check.specs.declared.Tally.{Tally}
use Rattle.refusal.specs.Outcome.{Answer, Outcome}

-- the largest number of additions that is told
abbrev pub most_additions : ℕ
most_additions = 9223372036854775807

-- 1, 13, 3, 20, then 18 when the lists or the order are not the tree's, and 8 where there is no room for one sum more than there are sources
abbrev pub survey_check : ℕ → Columns → (order : List ℕ) → List ℤ → (us uk vs vk : List ℕ) → ℕ → Outcome
survey_check d t order readings us uk vs vk room = readings_check d t readings then ask (is_built d t order us uk vs vk) NotBuilt then ask (ltb (sum t.own) room) (Room 1)

module _ (d : ℕ) (t : Columns) (order : List ℕ) (readings : List ℤ) where
  -- b is a leaf, and its near and far sum together are the plain sum of all readings
  unfoldable pub agrees : ℕ → Bool
  agrees b = leaf d t.keys b
      && eqb (nat_abs (near_sum d t.keys t.own t.begin order readings (u_rows d t) b +ℤ far_sum d t.keys t.own t.begin order readings (v_rows d t) b -ℤ plain_sum readings)) 0

  -- the additions of b, if it is a leaf
  abbrev pub additions_at : ℕ → ℕ
  additions_at b = cond (leaf d t.keys b) (additions d t.keys t.own (u_rows d t) (v_rows d t) b) 0

  -- how many leaves agree, and the additions of all leaves together
  abbrev pub agreeing : ℕ
  agreeing = count agrees t.keys

  abbrev pub all_additions : ℕ
  all_additions = sum (map additions_at t.keys)

  -- both, the additions told no farther than the largest number
  abbrev pub tally : Tally
  tally = record { leaves = agreeing; additions = min all_additions most_additions }

  abbrev pub survey_answer : (us uk vs vk : List ℕ) → ℕ → Answer Tally
  survey_answer us uk vs vk room = survey_check d t order readings us uk vs vk room then Ok tally

-- every leaf agrees
abbrev pub AllAgree : ℕ → Columns → Answer Tally → Type 0
AllAgree d t r = IfOk r (λ all. all.leaves ≡ count (leaf d t.keys) t.keys)
