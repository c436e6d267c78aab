-- From the answer of the list call to the text of a tree.
use mathlib.Core.Path.{◌≡◌, sym, ap, ap₂, ◌∙◌}
use mathlib.Core.List.{List, map}
use Prim.Native.Nat.{ℕ, ◌-◌}
use lib.Ieee.{Float}
use lib.ListN.{length, get_or, replicate}
use Rattle.refusal.specs.declared.Refusal.{Refusal}
use Rattle.refusal.proofs.Chain.{after-done, after-refused}
use Rattle.space.specs.declared.Box.{Box}
use Rattle.refusal.specs.Left.{left}
use Rattle.refusal.proofs.Left.{done-left}
use Rattle.slices.specs.Lists.{filled}
use Rattle.tree.specs.Columns.{Columns, columns}
use Rattle.tree.specs.Order.{depth_of}
use Rattle.rows.specs.Lists.{u_row, v_row}
use Rattle.rows.specs.Written.{row_starts, row_keys, row_at, Written}
use Rattle.node_rows.specs.declared.Sizes.{Sizes}
use Rattle.interaction.specs.Answers.{lists_check, lists_answer}
use Rattle.interaction.proofs.Checks.{told-listed, told-refused}
use Rattle.near_work.specs.Work.{weights}
use Rattle.near_work.specs.Answers.{work_check, work_answer, counts_left}
use Rattle.near_work.proofs.Checks.{told-work, told-no-work}
use Rattle.text.specs.Listing.{listing, refusal_line, tree_listing}
use Rattle.text.proofs.Columns.{listing-read}
use Rattle.report.specs.Report.{text_or, text_check, tree_text, text_counts}
use Rattle.std.specs.Prelude.{Err, Ok}
use Rattle.refusal.specs.Outcome.{Outcome, accepted}

-- slices that are filled with rows hold them
pub holds_rows : (row : ℕ → List ℕ) (keys starts flat : List ℕ) (n m : ℕ) → starts ≡ filled n (row_starts row keys) → flat ≡ filled m (row_keys row keys) → Written keys row starts flat
holds_rows row keys starts flat n m e f = record {
  more = replicate (n - length (row_starts row keys)) 0;
  rest = replicate (m - length (row_keys row keys)) 0;
  starts_are = e;
  keys_are = f;
}

module _ (b : Box) (keys own begin total : List ℕ) (xs : List Float) (us uk vs vk cs : ℕ) where
  abbrev t : Columns
  t = columns keys own begin total

  abbrev text : ℕ → List ℕ
  text sources = tree_listing b.axes keys own sources (weights b keys own xs)

  -- ---- refused
  module _ (sources : ℕ) (r : Refusal) where
    pub text-refused : text_check b t xs us uk vs vk cs ≡ Err r → refusal_line r ≡ tree_text b t xs us uk vs vk cs sources
    text-refused h = sym (ap (λ (o : Outcome). text_or o (text sources)) h)

    pub counts-refused : text_check b t xs us uk vs vk cs ≡ Err r → (counts : List ℕ) → counts ≡ replicate cs 0 → counts ≡ text_counts b t xs us uk vs vk cs
    counts-refused h counts z = z ∙ sym (ap (λ (o : Outcome). left o cs (map (weights b keys own xs) keys)) h)

  -- by the lists
  pub lists-refused : (r : Refusal) → Err r ≡ lists_answer b.axes t us uk vs vk → text_check b t xs us uk vs vk cs ≡ Err r
  lists-refused r e = after-refused (lists_check b.axes t us uk vs vk) (work_check b t xs cs) r (told-refused b.axes keys own begin total us uk vs vk r e)

  module _ (s : Sizes) (e : Ok s ≡ lists_answer b.axes t us uk vs vk) where
    listed : lists_check b.axes t us uk vs vk ≡ accepted
    listed = told-listed b.axes keys own begin total us uk vs vk s e

    -- by a target, or not
    by-work : text_check b t xs us uk vs vk cs ≡ work_check b t xs cs
    by-work = after-done (lists_check b.axes t us uk vs vk) (work_check b t xs cs) listed

    pub work-refused : (r : Refusal) → Err r ≡ work_answer b t xs cs → text_check b t xs us uk vs vk cs ≡ Err r
    work-refused r q = by-work ∙ told-no-work b keys own begin total xs cs r q

    pub counts_are : (counts : List ℕ) → counts ≡ counts_left b t xs cs → counts ≡ text_counts b t xs us uk vs vk cs
    counts_are counts q = q ∙ sym (ap (λ (o : Outcome). left o cs (map (weights b keys own xs) keys)) by-work)

    -- what the list call left in a slice
    pub filled-as : (n : ℕ) (s ys : List ℕ) → s ≡ left (lists_check b.axes t us uk vs vk) n ys → s ≡ filled n ys
    filled-as n s ys f = done-left _ n ys s listed f

    pub text-listed : (sources w depth : ℕ) (ss sk ts tk : List ℕ) → Ok w ≡ work_answer b t xs cs → depth ≡ depth_of keys
        → Written keys (u_row b.axes keys own) ss sk → Written keys (v_row b.axes keys own) ts tk
        → listing keys own (row_at ss sk) (row_at ts tk) b.axes depth sources w ≡ tree_text b t xs us uk vs vk cs sources
    text-listed sources w depth ss sk ts tk q ed wu wv =
        listing-read keys own ss sk ts tk (u_row b.axes keys own) (v_row b.axes keys own) wu wv b.axes depth sources w
        ∙ ap₂ (λ (n w : ℕ). listing keys own (λ i. u_row b.axes keys own (get_or keys i 0)) (λ i. v_row b.axes keys own (get_or keys i 0)) b.axes n sources w) ed (told-work b keys own begin total xs cs w q).1
        ∙ sym (ap (λ (o : Outcome). text_or o (text sources)) (by-work ∙ (told-work b keys own begin total xs cs w q).0))
