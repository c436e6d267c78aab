-- Laws of the lengths that can be written.
use mathlib.Core.Path.{◌≡◌, sym, ap, ◌∙◌}
use mathlib.Core.Bool.{Bool, true, false, ◌&&◌}
use Prim.Native.Nat.{ℕ, ◌+◌, ◌*◌, ◌≤◌, ◌<◌, max}
use native.Mathlib.Omega.{arith}
use lib.Dec.{leb}
use lib.ListN.{length}
use borrow.Author.Tests.{leb-true, le-leb}
use Rattle.slices.proofs.Tests.{and_l, and_r, both, refute}
use Rattle.tree_file.specs.Contents.{Contents}
use Rattle.tree_file.specs.Checks.{most_nodes, most_keys, counts_fit}
use Rattle.file_layout.specs.Lengths.{body_length}
use Rattle.file_layout.proofs.Lengths.{body-length}
use Rattle.write_file.specs.Fitting.{lengths_fit}

module _ (keys own begin total order us uk vs vk : ℕ) where
  pub record Fit : Type 0 where
    pub nodes : keys ≤ 1048576
    pub near : uk ≤ 16777216
    pub far : vk ≤ 16777216
    pub bytes : body_length keys own begin total order us uk vs vk ≤ 4294967295

  pub fit-facts : lengths_fit keys own begin total order us uk vs vk ≡ true → Fit
  unfolding lengths_fit
  fit-facts e =
      let few = and_l (leb keys most_nodes && (leb uk most_keys && leb vk most_keys)) (leb (body_length keys own begin total order us uk vs vk) 4294967295) e in
      let lists = and_r (leb keys most_nodes) (leb uk most_keys && leb vk most_keys) few in
      record {
        nodes = leb-true keys most_nodes (and_l (leb keys most_nodes) (leb uk most_keys && leb vk most_keys) few);
        near = leb-true uk most_keys (and_l (leb uk most_keys) (leb vk most_keys) lists);
        far = leb-true vk most_keys (and_r (leb uk most_keys) (leb vk most_keys) lists);
        bytes = leb-true (body_length keys own begin total order us uk vs vk) 4294967295 (and_r (leb keys most_nodes && (leb uk most_keys && leb vk most_keys)) (leb (body_length keys own begin total order us uk vs vk) 4294967295) e);
      }

  pub no-fit : (Fit → ⊥) → false ≡ lengths_fit keys own begin total order us uk vs vk
  no-fit h = sym (refute (λ e. h (fit-facts e)))

  pub too-many-nodes : 1048576 < keys → false ≡ lengths_fit keys own begin total order us uk vs vk
  too-many-nodes h = no-fit over
    where
      over : Fit → ⊥
      over f = omega (arith, f.nodes)

  pub too-many-keys : (m : ℕ) → m ≡ max uk vk → 16777216 < m → false ≡ lengths_fit keys own begin total order us uk vs vk
  too-many-keys m e h = no-fit over
    where
      over : Fit → ⊥
      over f = omega (arith, f.near, f.far)

  pub columns-long : (m n : ℕ) → m ≡ max begin total → n ≡ max own m → 1073741824 < n → false ≡ lengths_fit keys own begin total order us uk vs vk
  columns-long m n e g h = no-fit over
    where
      over : Fit → ⊥
      over f = omega (arith, f.bytes)

  pub lists-long : (m n : ℕ) → m ≡ max us vs → n ≡ max order m → 1073741824 < n → false ≡ lengths_fit keys own begin total order us uk vs vk
  lists-long m n e g h = no-fit over
    where
      over : Fit → ⊥
      over f = omega (arith, f.bytes)

  -- where all are counted the bytes decide
  pub by_bytes : keys ≤ 1048576 → (m : ℕ) → m ≡ max uk vk → m ≤ 16777216
      → leb (8 * (keys + uk + vk) + 4 * (own + begin + total + order + us + vs)) 4294967295 ≡ lengths_fit keys own begin total order us uk vs vk
  unfolding lengths_fit
  by_bytes a m is c =
      let e : 8 * (keys + uk + vk) + 4 * (own + begin + total + order + us + vs) ≡ body_length keys own begin total order us uk vs vk = omega arith in
      ap (λ (k : ℕ). leb k 4294967295) e
      ∙ sym (ap (λ (t : Bool). t && leb (body_length keys own begin total order us uk vs vk) 4294967295) (both (le-leb keys 1048576 a) (both (le-leb uk 16777216 (omega arith)) (le-leb vk 16777216 (omega arith)))))

pub counts-fit : (t : Contents) → counts_fit t ≡ lengths_fit (length t.keys) (length t.own) (length t.begin) (length t.total) (length t.order) (length t.u_starts) (length t.u_keys) (length t.v_starts) (length t.v_keys)
unfolding lengths_fit
counts-fit t = ap (λ (k : ℕ). (leb (length t.keys) most_nodes && (leb (length t.u_keys) most_keys && leb (length t.v_keys) most_keys)) && leb k 4294967295) (body-length t)
