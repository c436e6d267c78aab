-- What the sum check answers for one leaf.
use Rattle.std.specs.Prelude.{◌≡◌, List, ℕ, ℤ, ◌+ℤ◌, get_or, IfOk, Ok}
use Rattle.tree.specs.Columns.{Columns}
use Rattle.rows.specs.Lists.{u_rows, v_rows}
use Rattle.sums.specs.Sums.{near_sum, far_sum, additions, plain_sum}
use Rattle.sum_check.specs.Checks.{sum_check}
use Rattle.sum_check.specs.declared.Sums.{Sums}
use Rattle.refusal.specs.Chain.{◌then◌}
use Rattle.refusal.specs.Outcome.{Answer}

-- the near sum, the far sum and the additions of the leaf, each as the rows define it
module _ (d : ℕ) (t : Columns) (order : List ℕ) (readings : List ℤ) (node : ℕ) where
  abbrev pub near_of : ℤ
  near_of = near_sum d t.keys t.own t.begin order readings (u_rows d t) (get_or t.keys node 0)

  abbrev pub far_of : ℤ
  far_of = far_sum d t.keys t.own t.begin order readings (v_rows d t) (get_or t.keys node 0)

  abbrev pub additions_of : ℕ
  additions_of = additions d t.keys t.own (u_rows d t) (v_rows d t) (get_or t.keys node 0)

  abbrev pub sums_of : Sums
  sums_of = record { near = near_of; far = far_of; additions = additions_of }

  abbrev pub sum_answer : (us uk vs vk : List ℕ) → Answer Sums
  sum_answer us uk vs vk = sum_check d t order readings us uk vs vk node then Ok sums_of

-- near and far together are the plain sum of all readings
abbrev pub Together : List ℤ → Answer Sums → Type 0
Together readings r = IfOk r (λ s. s.near +ℤ s.far ≡ plain_sum readings)
