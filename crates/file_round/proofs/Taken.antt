-- The numbers of every tree that the writer takes have room in their bytes.
use mathlib.Core.Path.{◌≡◌, refl, sym, ap, ◌∙◌, subst}
use mathlib.Core.Bool.{Bool, true, ◌&&◌}
use mathlib.Core.List.{List, [], ◌∷◌, ◌++◌}
use mathlib.Core.Logic.{⊎_elim}
use Prim.Native.Nat.{ℕ, zero, suc, ◌+◌, ◌-◌, ◌*◌, ◌/◌, ◌^◌, ◌≤◌, ◌<◌}
use native.Mathlib.Omega.{arith}
use native.Mathlib.Nat.{not-suc-le-zero}
use lib.Dec.{leb, ltb}
use lib.ListN.{length, get_or, take, length-append, get_or-append}
use lib.Seq.{get_or-append-add}
use borrow.Author.Tests.{leb-true, ltb-true}
use Rattle.slices.specs.Lists.{sum, concat_map, Mem}
use Rattle.slices.proofs.Sums.{sum-take, sum-whole}
use Rattle.slices.proofs.Tests.{and_l, and_r, lt-or-le}
use Rattle.slices.proofs.Counts.{here, there}
use Rattle.refusal.specs.declared.Refusal.TheVariants.{Dims, Count, Tree, Section}
use Rattle.refusal.specs.Chain.{ask, ◌then◌}
use Rattle.refusal.proofs.Chain.{both-done, asked}
use Rattle.morton.specs.Keys.{axes_known, valid, level_of, code_of, deepest, ValidKey}
use Rattle.morton.proofs.Arithmetic.{code-48}
use Rattle.tree.specs.Order.{end_of}
use Rattle.tree.specs.WellFormed.{formed}
use Rattle.tree.proofs.Rules as Rules
use Rattle.tree.proofs.Verdict.{formed-of}
use Rattle.tree.proofs.Sums.{total-to}
use Rattle.rows.specs.Lists.{u_row, v_row}
use Rattle.rows.specs.Written.{row_of, Gives}
use Rattle.sums.specs.Right.{StartsRight, ListsRight, Flat, lists_are}
use Rattle.sums.specs.Arrangement.{AllIndices, arranges}
use Rattle.sums.proofs.Flat.{climbs, lists-are, right-flat}
use Rattle.sums.proofs.Arranged.{arranges-iff}
use Rattle.sums.proofs.Right.{lists-right}
use Rattle.tree_file.specs.Contents.{Contents}
use Rattle.tree_file.specs.Written.{sections, body, file_of}
use Rattle.tree_file.specs.Trailer.{axes_in, trailer_fits, sections_good, tree_in}
use Rattle.tree_file.specs.Checks.{most_nodes, most_keys, counts_fit, columns_right, rest_right, writeable, readable}
use Rattle.file_round.specs.Fits.{InBytes, Fits}
use Rattle.file_round.proofs.Round.{same-tree, sections-good, trailer-fits, axes-read}
use Rattle.refusal.specs.Outcome.{accepted}

-- rows whose keys have room, one after the other
joined : (f : ℕ → List ℕ) (ks : List ℕ) → ((k : ℕ) → Mem k ks → InBytes 8 (f k)) → InBytes 8 (concat_map f ks)
unfolding concat_map
joined f [] h i l = absurd (not-suc-le-zero l)
joined f (k ∷ ks) h i l = ⊎_elim (λ b. first b) (λ b. rest b (joined f ks (λ x m. h x (there k x ks m)) (i - length (f k)) (under b))) (lt-or-le i (length (f k)))
  where
    first : i < length (f k) → get_or (f k ++ concat_map f ks) i 0 < 256 ^ 8
    first b = subst (λ (x : ℕ). x < 256 ^ 8) (sym (get_or-append (f k) (concat_map f ks) 0 i b)) (h k (here k ks) i b)

    under : length (f k) ≤ i → i - length (f k) < length (concat_map f ks)
    under b = omega (arith, length-append (f k) (concat_map f ks))

    rest : length (f k) ≤ i → get_or (concat_map f ks) (i - length (f k)) 0 < 256 ^ 8 → get_or (f k ++ concat_map f ks) i 0 < 256 ^ 8
    rest b r =
        let e : i ≡ length (f k) + (i - length (f k)) = omega arith in
        subst (λ (x : ℕ). x < 256 ^ 8) (sym (ap (λ (j : ℕ). get_or (f k ++ concat_map f ks) j 0) e ∙ get_or-append-add (f k) (concat_map f ks) (i - length (f k)) 0)) r

module _ (t : Contents) (done : writeable t ≡ accepted) where
  abbrev d : ℕ
  d = t.axes

  front : ask (axes_known d) Dims then ask (counts_fit t) Count then ask (columns_right t) Tree ≡ accepted
  front = (both-done (ask (axes_known d) Dims then ask (counts_fit t) Count then ask (columns_right t) Tree) (ask (rest_right t) Section) done).0

  first_two : ask (axes_known d) Dims then ask (counts_fit t) Count ≡ accepted
  first_two = (both-done (ask (axes_known d) Dims then ask (counts_fit t) Count) (ask (columns_right t) Tree) front).0

  known : axes_known d ≡ true
  known = asked (axes_known d) Dims (both-done (ask (axes_known d) Dims) (ask (counts_fit t) Count) first_two).0

  counted : counts_fit t ≡ true
  counted = asked (counts_fit t) Count (both-done (ask (axes_known d) Dims) (ask (counts_fit t) Count) first_two).1

  well : columns_right t ≡ true
  well = asked (columns_right t) Tree (both-done (ask (axes_known d) Dims then ask (counts_fit t) Count) (ask (columns_right t) Tree) front).1

  rest : rest_right t ≡ true
  rest = asked (rest_right t) Section (both-done (ask (axes_known d) Dims then ask (counts_fit t) Count then ask (columns_right t) Tree) (ask (rest_right t) Section) done).1

  some-axes : 1 ≤ d
  some-axes = leb-true 1 d (and_l (leb 1 d) (leb d 3) known)

  most-axes : d ≤ 3
  most-axes = leb-true d 3 (and_r (leb 1 d) (leb d 3) known)

  w : Rules.Formed d t.keys t.own t.begin t.total
  w = Rules.all-facts d t.keys t.own t.begin t.total well

  key-small : (k : ℕ) → valid d k ≡ true → k < 256 ^ 8
  key-small k e =
      let v : ValidKey d k = record { some = some-axes; most = most-axes; level = leb-true (level_of k) deepest (and_l _ _ e); code = ltb-true (code_of k) (2 ^ (d * level_of k)) (and_r (leb (level_of k) deepest) _ e) } in
      let c : code_of k < 2 ^ 48 = code-48 d k v in
      omega arith

  node-small : (k : ℕ) → Mem k t.keys → k < 256 ^ 8
  node-small k (i, l, e) = subst (λ (x : ℕ). x < 256 ^ 8) e (key-small (get_or t.keys i 0) (w.rows.tree.ascending.sound i l))

  formed' : formed d t.keys t.own t.begin ≡ true
  formed' = formed-of d t.keys t.own t.begin t.total well

  flat : Flat d t.keys t.own t.u_starts t.u_keys t.v_starts t.v_keys
  flat = (lists-are d t.keys t.own t.begin formed' t.u_starts t.u_keys t.v_starts t.v_keys).0 (and_r (arranges t.order (sum t.own)) _ rest)

  right : StartsRight t.keys t.u_starts t.u_keys × StartsRight t.keys t.v_starts t.v_keys × ListsRight d t.keys t.own (row_of t.keys t.u_starts t.u_keys) (row_of t.keys t.v_starts t.v_keys)
  right = right-flat d t.keys t.own t.begin formed' t.u_starts t.u_keys t.v_starts t.v_keys flat

  gives : Gives t.keys (u_row d t.keys t.own) (row_of t.keys t.u_starts t.u_keys) × Gives t.keys (v_row d t.keys t.own) (row_of t.keys t.v_starts t.v_keys)
  gives = lists-right d t.keys t.own t.begin formed' (row_of t.keys t.u_starts t.u_keys) (row_of t.keys t.v_starts t.v_keys) right.2

  u-small : (k : ℕ) → Mem k t.keys → InBytes 8 (u_row d t.keys t.own k)
  u-small k m i l = node-small (get_or (u_row d t.keys t.own k) i 0) (right.2.passing.u_passes k (get_or (u_row d t.keys t.own k) i 0) m (subst (λ (r : List ℕ). Mem (get_or (u_row d t.keys t.own k) i 0) r) (sym (gives.0 k m)) (i, l, refl))).0

  v-small : (k : ℕ) → Mem k t.keys → InBytes 8 (v_row d t.keys t.own k)
  v-small k m i l = node-small (get_or (v_row d t.keys t.own k) i 0) (right.2.passing.v_passes k (get_or (v_row d t.keys t.own k) i 0) m (subst (λ (r : List ℕ). Mem (get_or (v_row d t.keys t.own k) i 0) r) (sym (gives.1 k m)) (i, l, refl))).0

  starts-small : (s keys : List ℕ) → StartsRight t.keys s keys → length keys ≤ 16777216 → InBytes 4 s
  starts-small s keys r n i l = omega (arith, climbs s (length t.keys) r.rises i (length t.keys) (omega (arith, r.entries)) (omega arith), r.last)

  keys-few : (length t.u_keys ≤ 16777216) × (length t.v_keys ≤ 16777216)
  keys-few =
      let f = and_l (leb (length t.keys) most_nodes && (leb (length t.u_keys) most_keys && leb (length t.v_keys) most_keys)) _ counted in
      let g = and_r (leb (length t.keys) most_nodes) (leb (length t.u_keys) most_keys && leb (length t.v_keys) most_keys) f in
      (leb-true (length t.u_keys) most_keys (and_l _ _ g), leb-true (length t.v_keys) most_keys (and_r (leb (length t.u_keys) most_keys) _ g))

  arranged : AllIndices t.order (sum t.own)
  arranged = (arranges-iff t.order (sum t.own)).0 (and_l (arranges t.order (sum t.own)) _ rest)

  pub fits : Fits t
  fits = record {
    axes = omega (arith, most-axes);
    keys = λ i l. key-small (get_or t.keys i 0) (w.rows.tree.ascending.sound i l);
    own = λ i l. omega (arith, sum-take t.own i, sum-whole t.own (suc i), w.rows.most);
    begin = λ i l. omega (arith, w.rows.runs i (omega (arith, w.begins)), sum-whole t.own i, w.rows.most);
    total = λ i l. omega (arith, total-to d t.keys t.own t.begin t.total w i (omega (arith, w.totals)), sum-whole t.own (end_of t.keys i), w.rows.most);
    order = λ i l. omega (arith, arranged.below i l, w.rows.most);
    u_starts = starts-small t.u_starts t.u_keys right.0 keys-few.0;
    u_keys = subst (InBytes 8) (sym flat.u_keys) (joined (u_row d t.keys t.own) t.keys u-small);
    v_starts = starts-small t.v_starts t.v_keys right.1 keys-few.1;
    v_keys = subst (InBytes 8) (sym flat.v_keys) (joined (v_row d t.keys t.own) t.keys v-small);
    bytes = omega (arith, leb-true (length (body (sections t))) 4294967295 (and_r (leb (length t.keys) most_nodes && (leb (length t.u_keys) most_keys && leb (length t.v_keys) most_keys)) _ counted));
  }

  -- F1 for every tree that the writer takes
  pub same : tree_in (file_of t) ≡ t
  same = same-tree t fits

  pub good : sections_good (file_of t) ≡ true
  good = sections-good t fits

  -- and it is refused by nothing but short slices
  pub read_again : readable (file_of t) ≡ accepted
  read_again = passed (trailer_fits (file_of t)) (axes_known (axes_in (file_of t))) (sections_good (file_of t)) (columns_right (tree_in (file_of t))) (rest_right (tree_in (file_of t)))
      (trailer-fits t fits) (ap axes_known (axes-read t fits) ∙ known) good (ap columns_right same ∙ well) (ap rest_right same ∙ rest)
    where
      passed : (a b c e f : Bool) → a ≡ true → b ≡ true → c ≡ true → e ≡ true → f ≡ true → ask a Section then ask b Dims then ask c Section then ask e Tree then ask f Section ≡ accepted
      passed a b c e f p q r s u = rw (p, q, r, s, u)
