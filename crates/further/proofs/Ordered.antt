-- The same in Z order: two lists of the same cells in order are one list.
use mathlib.Core.Path.{◌≡◌, refl, sym, ap, ap₂, ◌∙◌, subst}
use mathlib.Core.Bool.{true}
use mathlib.Core.List.{List, [], ◌∷◌}
use mathlib.Core.Logic.{◌⊎◌, inl, inr, ◌↔◌}
use Prim.Native.Nat.{ℕ, suc, ◌<◌}
use native.Mathlib.Omega.{arith}
use native.Mathlib.Nat.{not-suc-le-zero}
use lib.ListN.{length, get_or}
use Rattle.slices.specs.Lists.{Mem, Distinct}
use Rattle.slices.proofs.Counts.{here, there}
use Rattle.slices.proofs.Members.{mem-cases}
use Rattle.morton.specs.Keys.{axes_known, ValidKey}
use Rattle.morton.proofs.Checks.{valid-facts}
use Rattle.tree.specs.WellFormed.{well_formed}
use Rattle.tree.proofs.Rules.{WellFormed, well, all-facts}
use Rattle.tree.proofs.Stored.{distinct, parent-mem}
use Rattle.growth.specs.declared.Rule.{Rule}
use Rattle.growth.specs.Nodes.{nodes}
use Rattle.growth.specs.Columns.{own_column, begin_column, order_column}
use Rattle.growth.proofs.Arranged.{Codes}
use Rattle.tree.proofs.Spans.{Earlier, earlier-not}
use Rattle.tree.proofs.Ranges.{earlier-at}
use Rattle.growth.proofs.Sorted.{nodes-ascending}
use Rattle.further.specs.Built.{Tree, GrownRight}
use Rattle.further.specs.Points.{Beside, SourcesRight, BuildOf}
use Rattle.further.proofs.Columns.{columns-iff}

-- each node comes before those after it
abbrev pub Rising : ℕ → List ℕ → Type 0
Rising d xs = (i j : ℕ) → i < j → j < length xs → Earlier d (get_or xs i 0) (get_or xs j 0)

module _ (d : ℕ) where
  later : (x : ℕ) (xs : List ℕ) → Rising d (x ∷ xs) → (z : ℕ) → Mem z xs → Earlier d x z
  later x xs h z (i, l, e) = subst (λ (y : ℕ). Earlier d x y) e (h 0 (suc i) (omega arith) (omega arith))

  rest : (x : ℕ) (xs : List ℕ) → Rising d (x ∷ xs) → Rising d xs
  rest x xs h i j a b = h (suc i) (suc j) (omega arith) (omega arith)

  pub same-order : (xs ys : List ℕ) → Rising d xs → Rising d ys → ((z : ℕ) → Mem z xs → Mem z ys) → ((z : ℕ) → Mem z ys → Mem z xs) → xs ≡ ys
  same-order [] [] a b f h = refl
  same-order [] (y ∷ ys) a b f h = absurd (not-suc-le-zero (h y (here y ys)).1)
  same-order (x ∷ xs) [] a b f h = absurd (not-suc-le-zero (f x (here x xs)).1)
  same-order (x ∷ xs) (y ∷ ys) a b f h =
      ap₂ (λ (z : ℕ) (zs : List ℕ). z ∷ zs) same
      (same-order xs ys (rest x xs a) (rest y ys b)
      (λ z m. tail z x y ys (later x xs a z m) same (mem-cases z y ys (f z (there x z xs m))))
      (λ z m. tail z y x xs (later y ys b z m) (sym same) (mem-cases z x xs (h z (there y z ys m)))))
    where
      heads : (y ≡ x) ⊎ Mem x ys → (x ≡ y) ⊎ Mem y xs → x ≡ y
      heads (inl e) _ = sym e
      heads (inr m) (inl e) = e
      heads (inr m) (inr n) = absurd (earlier-not d y x (later y ys b x m) (later x xs a y n))

      same : x ≡ y
      same = heads (mem-cases x y ys (f x (here x xs))) (mem-cases y x xs (h y (here y ys)))

      tail : (z u w : ℕ) (ws : List ℕ) → Earlier d u z → u ≡ w → (w ≡ z) ⊎ Mem z ws → Mem z ws
      tail z u w ws l e (inl q) = let r = subst (λ (y : ℕ). Earlier d y z) (e ∙ q) l in absurd (earlier-not d z z r r)
      tail z u w ws l e (inr m) = m

module _ (g : Rule) (s keys own begin order : List ℕ) (known : axes_known g.axes ≡ true) (codes : Codes g.axes s) (total : List ℕ) (formed : well_formed g.axes keys own begin total ≡ true) where
  w : WellFormed g.axes keys own begin
  w = well g.axes keys own begin total (all-facts g.axes keys own begin total formed)

  pub formed-tree : Tree g.axes keys
  unfolding w
  formed-tree = record {
    sound = λ k m. subst (ValidKey g.axes) m.2 (valid-facts g.axes (get_or keys m.0 0) known (w.ascending.sound m.0 m.1));
    root = (0, w.some, w.ascending.root);
    parents = parent-mem g.axes keys w.ascending w.parents;
  }

  pub formed-beside : Beside g.axes keys own begin
  unfolding w
  formed-beside = record { owns = w.owns; begins = w.begins; inner = w.inner; runs = w.runs }

  pub formed-distinct : Distinct keys
  unfolding w
  formed-distinct = distinct g.axes keys w.ascending

  -- the four columns of the build, as the build writes them
  pub record Columns : Type 0 where
    pub keys_are : keys ≡ nodes g s []
    pub owns-are : own ≡ own_column g.axes (nodes g s []) s
    pub begins-are : begin ≡ begin_column own
    pub orders-are : order ≡ order_column g.axes (nodes g s []) s

  listed : BuildOf g s keys own begin order → Columns
  unfolding w
  listed b =
      let same = same-order g.axes keys (nodes g s []) (earlier-at g.axes keys w.ascending) (earlier-at g.axes (nodes g s []) (nodes-ascending g s [] known)) (λ z. (b.cells z).0) (λ z. (b.cells z).1) in
      record {
        keys_are = same;
        owns-are = b.owns ∙ ap (λ (ks : List ℕ). own_column g.axes ks s) same;
        begins-are = b.begins;
        orders-are = b.orders ∙ ap (λ (ks : List ℕ). order_column g.axes ks s) same;
      }

  unlisted : Columns → BuildOf g s keys own begin order
  unlisted c = record {
    cells = λ k. (λ m. subst (λ (ks : List ℕ). Mem k ks) c.keys_are m, λ m. subst (λ (ks : List ℕ). Mem k ks) (sym c.keys_are) m);
    owns = c.owns-are ∙ ap (λ (ks : List ℕ). own_column g.axes ks s) (sym c.keys_are);
    begins = c.begins-are;
    orders = c.orders-are ∙ ap (λ (ks : List ℕ). order_column g.axes ks s) (sym c.keys_are);
  }

  -- a well-formed tree is the build of these sources exactly when its points and its growth are right
  pub formed-iff : (SourcesRight g.axes s keys own begin order × GrownRight g s keys) ↔ Columns
  formed-iff =
      let iff = columns-iff g s keys own begin order known codes formed-tree formed-distinct formed-beside in
      (λ h. listed (iff.0 h), λ c. iff.1 (unlisted c))
