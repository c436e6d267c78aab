-- Entries put one after the other: the sourced children of a node near a cell, by the walk along the links.
use mathlib.Core.Path.{◌≡◌, refl, sym, ap, ap₂, ◌∙◌, subst}
use mathlib.Core.Bool.{Bool, true, false, cond, ◌&&◌}
use mathlib.Core.List.{List, [], ◌∷◌, ◌++◌, append_assoc, append-nil}
use Prim.Native.Nat.{ℕ, suc, ◌+◌, ◌*◌, ◌/◌, ◌%◌, ◌^◌, ◌≤◌, ◌<◌}
use native.Mathlib.Omega.{arith}
use native.Mathlib.Numerals.{add-one}
use native.Mathlib.Decide.{dec_lt}
use lib.Dec.{ltb, eqb}
use lib.ListN.{length, get_or, take, drop, set, length-set, length-append, length-drop}
use lib.Seq.{get_or-set_same, get_or-set_other, get_or-take, take-suc-set, take-set-le, take-set-lt, drop-set-lt, drop-set-add, take_all, length-take-le}
use lib.Pow.{pow_mono}
use borrow.Author.Tests.{eqb-true}
use Rattle.slices.specs.Lists.{filter, range, concat_map, Mem}
use Rattle.slices.proofs.Tests.{and_l, and_r}
use Rattle.slices.proofs.Members.{mem-filter, mem-range}
use Rattle.codes.proofs.Codes.{anchor-lt}
use Rattle.morton.specs.Keys.{level_of, code_of, parent, ValidKey}
use Rattle.morton.specs.Anchors.{anchor, near}
use Rattle.morton.proofs.Cells.{above-one, code-parent}
use Rattle.tree.specs.Nodes.{child_of}
use Rattle.links.specs.Links.{next_of, after_of, inner, sourced_child, sourced_children, LinkedTree}
use Rattle.links.proofs.Links.{hop-far}
use Rattle.links.proofs.Children.{tree-formed, tree-linked, Walked, walked_start, walked_next, walked_all, filter-here}
use Rattle.places.specs.Places.{step_of, place_at, place_of, beside}
use Rattle.places.proofs.Laws.{first, second, third, place-small, place-more, beside-near}
use Rattle.around.specs.Masks.{bit_of, Beneath, MaskOf}
use Rattle.around.specs.Around.{near_to, around_nodes, Entries, Frame, nodes_in, places_in, masks_in, NearListed, Beside}
use Rattle.around.proofs.Lists.{filter-longer, concat-longer, concat-more}
use Rattle.around.proofs.Nodes.{child-level, node-valid}
use Rattle.around.proofs.Gathered.{around-joined}
use Rattle.around.proofs.Few.{around-length}

-- ---- one more entry
pub entries_none : (d : ℕ) (keys : List ℕ) (spot : ℕ) (nodes places masks : List ℕ) → length places ≡ length nodes → length masks ≡ length nodes → Entries d keys spot [] nodes places masks 0
entries_none d keys spot nodes places masks a b = record {
  fits = omega arith;
  places_room = a;
  masks_room = b;
  numbers = refl;
  placed = λ i l. absurd (omega arith);
  masked = λ i s l. absurd (omega arith);
}

pub entries-length : {d : ℕ} {keys : List ℕ} {spot : ℕ} {cells nodes places masks : List ℕ} {n : ℕ} → Entries d keys spot cells nodes places masks n → n ≡ length cells
entries-length {nodes = nodes} {n = n} e = sym (length-take-le n nodes e.fits) ∙ ap length e.numbers

pub entries-more : (d : ℕ) (keys : List ℕ) (spot : ℕ) (cells nodes places masks : List ℕ) (n : ℕ) → Entries d keys spot cells nodes places masks n → n < length nodes → (j place mask : ℕ) → place ≡ place_of d (get_or keys j 0) → MaskOf place spot mask
    → Entries d keys spot (cells ++ j ∷ []) (set nodes n j) (set places n place) (set masks n mask) (n + 1)
entries-more d keys spot cells nodes places masks n e room j place mask at m = record {
  fits = omega (arith, length-set nodes n j);
  places_room = length-set places n place ∙ e.places_room ∙ sym (length-set nodes n j);
  masks_room = length-set masks n mask ∙ e.masks_room ∙ sym (length-set nodes n j);
  numbers = ap (λ (k : ℕ). take k (set nodes n j)) (add-one n) ∙ take-suc-set nodes n j room ∙ ap (λ (l : List ℕ). l ++ j ∷ []) e.numbers;
  placed = λ i l. placed i l (dec_lt i n);
  masked = λ i s l q. masked i s l q (dec_lt i n);
}
  where
    placed : (i : ℕ) → i < n + 1 → Dec (i < n) → get_or (set places n place) i 0 ≡ place_of d (get_or keys (get_or (set nodes n j) i 0) 0)
    placed i l (yes h) = get_or-set_other places n i place 0 (λ z. omega arith) ∙ e.placed i h ∙ ap (λ k. place_of d (get_or keys k 0)) (sym (get_or-set_other nodes n i j 0 (λ z. omega arith)))
    placed i l (no h) =
        let z : n ≡ i = omega arith in
        subst (λ k. get_or (set places n place) k 0 ≡ place_of d (get_or keys (get_or (set nodes n j) k 0) 0)) z
        (get_or-set_same places n place 0 (omega (arith, e.places_room)) ∙ at ∙ ap (λ k. place_of d (get_or keys k 0)) (sym (get_or-set_same nodes n j 0 room)))

    masked : (i s : ℕ) → i < n + 1 → s < 8 → Dec (i < n) → bit_of (get_or (set masks n mask) i 0) s ≡ beside (place_of d (get_or keys (get_or (set nodes n j) i 0) 0)) (step_of s + 2 * spot) 0
    masked i s l q (yes h) =
        ap (λ k. bit_of k s) (get_or-set_other masks n i mask 0 (λ z. omega arith)) ∙ e.masked i s h q ∙ ap (λ k. beside (place_of d (get_or keys k 0)) (step_of s + 2 * spot) 0) (sym (get_or-set_other nodes n i j 0 (λ z. omega arith)))
    masked i s l q (no h) =
        let z : n ≡ i = omega arith in
        subst (λ k. bit_of (get_or (set masks n mask) k 0) s ≡ beside (place_of d (get_or keys (get_or (set nodes n j) k 0) 0)) (step_of s + 2 * spot) 0) z
        (ap (λ k. bit_of k s) (get_or-set_same masks n mask 0 (omega (arith, e.masks_room))) ∙ m s q ∙ ap (λ k. beside k (step_of s + 2 * spot) 0) (at ∙ ap (λ k. place_of d (get_or keys k 0)) (sym (get_or-set_same nodes n j 0 room))))

-- ---- one more entry of a frame in one slice
pub parts-length : (frame : List ℕ) → 648 ≤ length frame → (length (nodes_in frame) ≡ 216) × (length (places_in frame) ≡ 216) × (length (masks_in frame) ≡ 216)
parts-length frame h = (length-take-le 216 frame (omega arith), length-take-le 216 (drop 216 frame) (omega (arith, length-drop 216 frame)), length-take-le 216 (drop 432 frame) (omega (arith, length-drop 432 frame)))

-- a number written before a part of a slice, in it, and after it
before : (b : ℕ) (xs : List ℕ) (k x : ℕ) → k < b → take 216 (drop b (set xs k x)) ≡ take 216 (drop b xs)
before b xs k x h = ap (take 216) (drop-set-lt b xs k x h)

within : (b : ℕ) (xs : List ℕ) (i x : ℕ) → i < 216 → take 216 (drop b (set xs (b + i) x)) ≡ set (take 216 (drop b xs)) i x
within b xs i x h = ap (take 216) (drop-set-add b xs i x) ∙ take-set-lt 216 (drop b xs) i x h

after : (b : ℕ) (xs : List ℕ) (i x : ℕ) → 216 ≤ i → take 216 (drop b (set xs (b + i) x)) ≡ take 216 (drop b xs)
after b xs i x h = ap (take 216) (drop-set-add b xs i x) ∙ take-set-le 216 (drop b xs) i x h

module _ (frame : List ℕ) (n j place mask : ℕ) (h : n < 216) where
  abbrev pub entry_put : List ℕ
  entry_put = set (set (set frame n j) (216 + n) place) (432 + n) mask

  nodes-put : nodes_in entry_put ≡ set (nodes_in frame) n j
  nodes-put = take-set-le 216 (set (set frame n j) (216 + n) place) (432 + n) mask (omega arith) ∙ take-set-le 216 (set frame n j) (216 + n) place (omega arith) ∙ take-set-lt 216 frame n j h

  places-put : places_in entry_put ≡ set (places_in frame) n place
  places-put =
      let e : 432 + n ≡ 216 + (216 + n) = omega arith in
      ap (λ (k : ℕ). places_in (set (set (set frame n j) (216 + n) place) k mask)) e ∙ after 216 (set (set frame n j) (216 + n) place) (216 + n) mask (omega arith)
      ∙ within 216 (set frame n j) n place h ∙ ap (λ (xs : List ℕ). set xs n place) (before 216 frame n j h)

  masks-put : masks_in entry_put ≡ set (masks_in frame) n mask
  masks-put =
      within 432 (set (set frame n j) (216 + n) place) n mask h
      ∙ ap (λ (xs : List ℕ). set xs n mask) (before 432 (set frame n j) (216 + n) place (omega arith) ∙ before 432 frame n j (omega arith))

-- ---- a child of a node that is near a cell
-- an axis of a place is far from its 20 bits' end
low : (d a l x : ℕ) (b : Bool) → l ≤ 16 → cond b (anchor d a l x) 0 < 524288
low d a l x true h = omega (arith, anchor-lt d a l x, pow_mono {i = l} {j = 16} h)
low d a l x false h = omega arith

below : (d p x : ℕ) → ValidKey d p → level_of x ≤ 16 → level_of x ≡ suc (level_of p) → near d d (level_of p) (code_of p) (code_of x / 2 ^ d) ≡ true → Beneath (place_of d x) (place_of d p)
below d p x v h e n = record {
  small = place-small d (level_of x) (code_of x) h;
  first = subst (λ m. m < 524288) (sym (first d (level_of p) (code_of p) v.some v.most v.level)) (low d 0 (level_of p) (code_of p) (ltb 0 d) v.level);
  second = subst (λ m. m < 524288) (sym (second d (level_of p) (code_of p) v.some v.most v.level)) (low d 1 (level_of p) (code_of p) (ltb 1 d) v.level);
  third = subst (λ m. m < 524288) (sym (third d (level_of p) (code_of p) v.some v.most v.level)) (low d 2 (level_of p) (code_of p) (ltb 2 d) v.level);
  touch =
      ap (λ m. beside (place_of d p) (place_at d m (code_of x)) 1) one
      ∙ beside-near d (level_of p) 1 (code_of p) (code_of x) v.some v.most (omega arith)
      ∙ ap (near d d (level_of p) (code_of p)) (above-one d (code_of x)) ∙ n;
}
  where
    one : level_of x ≡ 1 + level_of p
    one = omega arith

module _ {d : ℕ} {keys own total links : List ℕ} (t : LinkedTree d keys own total links) {node up spot : ℕ} (b : Beside d keys node up spot) where
  pub up_small : up < 1152921504606846976
  up_small = subst (λ n. n < 1152921504606846976) (sym b.placed) (place-small d (level_of (get_or keys node 0)) (code_of (get_or keys node 0)) (node-valid d keys own t.tree node b.inside).level)

  module _ (j : ℕ) (l : j < length keys) (h : sourced_child d keys own node j ≡ true) where
    ch : child_of d (get_or keys node 0) (get_or keys j 0) ≡ true
    ch = and_l _ _ h

    lv : level_of (get_or keys j 0) ≡ suc (level_of (get_or keys node 0))
    lv = child-level d (get_or keys node 0) (get_or keys j 0) ch

    code : code_of (get_or keys node 0) ≡ code_of (get_or keys j 0) / 2 ^ d
    code = ap code_of (sym (eqb-true (parent d (get_or keys j 0)) (get_or keys node 0) (and_r (ltb 0 (level_of (get_or keys j 0))) _ ch))) ∙ code-parent d (get_or keys j 0)

    kid-place : (place : ℕ) → place ≡ step_of (code_of (get_or keys j 0) % 2 ^ d) + 2 * up → place ≡ place_of d (get_or keys j 0)
    kid-place place e = e ∙ place-more d (level_of (get_or keys j 0)) (code_of (get_or keys j 0)) up (omega (arith, lv)) (b.placed ∙ ap₂ (place_at d) (omega (arith, lv)) code)

    kid-beneath : (place : ℕ) → place ≡ step_of (code_of (get_or keys j 0) % 2 ^ d) + 2 * up → Beneath place spot
    kid-beneath place e = rw (b.spotted, kid-place place e)
        (below d b.cell (get_or keys j 0) b.valid (node-valid d keys own t.tree j l).level (lv ∙ ap suc b.level) (subst (λ x. near d d (level_of b.cell) (code_of b.cell) x ≡ true) code b.close))

  -- ---- the loop along the children: those met up to j were put, and there is room for all
  pub record ChildrenPut (nodes₀ : List ℕ) (n₀ end j : ℕ) (nodes places masks : List ℕ) (n : ℕ) : Type 0 where
    pub met : List ℕ
    pub walked : Walked d keys own t.tree.begin total (tree-formed t) node b.inside j met
    pub ending : end ≡ next_of keys total node
    pub entries : Entries d keys spot (take n₀ nodes₀ ++ met) nodes places masks n
    pub long : length nodes ≡ length nodes₀
    pub fits : n₀ ≤ length nodes₀
    pub room : n₀ + length (sourced_children d keys own node) ≤ length nodes₀

  pub put-start : inner keys node ≡ true → (nodes places masks : List ℕ) (n end j : ℕ) → Entries d keys spot (take n nodes) nodes places masks n → n + length (sourced_children d keys own node) ≤ length nodes
      → end ≡ next_of keys total node → j ≡ after_of keys total node → ChildrenPut nodes n end j nodes places masks n
  put-start h nodes places masks n end j e room q z = record {
    met = [];
    walked = subst (λ c. Walked d keys own t.tree.begin total (tree-formed t) node b.inside c []) (sym z) (walked_start d keys own t.tree.begin total (tree-formed t) node b.inside h);
    ending = q;
    entries = subst (λ cells. Entries d keys spot cells nodes places masks n) (sym (append-nil (take n nodes))) e;
    long = refl;
    fits = e.fits;
    room = room;
  }

  module _ {nodes₀ : List ℕ} {n₀ end j : ℕ} {nodes places masks : List ℕ} {n : ℕ} (w : ChildrenPut nodes₀ n₀ end j nodes places masks n) where
    module _ (more : j < end) where
      kid : (j < length keys) × (sourced_child d keys own node j ≡ true)
      kid = w.walked.at.child (omega (arith, w.ending))

      pub put-inside : j < length keys
      put-inside = kid.0

      -- each hop goes on
      pub put-far : j < next_of keys total j
      put-far = hop-far keys total (tree-linked t) j kid.0

      -- there is room for one more
      pub put-fits : n < length nodes
      put-fits =
          let one : length w.met + 1 ≡ length (filter (sourced_child d keys own node) (range 0 (suc j))) = sym (length-append w.met (j ∷ [])) ∙ ap (λ (ms : List ℕ). length (ms ++ j ∷ [])) w.walked.are ∙ ap length (sym (filter-here (sourced_child d keys own node) j kid.1)) in
          let all = filter-longer (sourced_child d keys own node) (suc j) (length keys) kid.0 in
          let size = entries-length w.entries ∙ length-append (take n₀ nodes₀) w.met in
          omega (arith, one, all, size, length-take-le n₀ nodes₀ w.fits, w.room, w.long)

      pub put-beneath : (place : ℕ) → place ≡ step_of (code_of (get_or keys j 0) % 2 ^ d) + 2 * up → Beneath place spot
      put-beneath place at = kid-beneath j kid.0 kid.1 place at

      pub put-more : (place mask : ℕ) → place ≡ step_of (code_of (get_or keys j 0) % 2 ^ d) + 2 * up → MaskOf place spot mask → (c : ℕ) → c ≡ next_of keys total j
          → ChildrenPut nodes₀ n₀ end c (set nodes n j) (set places n place) (set masks n mask) (n + 1)
      put-more place mask at m c z = record {
        met = w.met ++ j ∷ [];
        walked = subst (λ c. Walked d keys own t.tree.begin total (tree-formed t) node b.inside c (w.met ++ j ∷ [])) (sym z)
            (walked_next d keys own t.tree.begin total (tree-formed t) node b.inside j w.met w.walked (omega (arith, w.ending)));
        ending = w.ending;
        entries = subst (λ cells. Entries d keys spot cells (set nodes n j) (set places n place) (set masks n mask) (n + 1)) (append_assoc (take n₀ nodes₀) w.met (j ∷ []))
            (entries-more d keys spot (take n₀ nodes₀ ++ w.met) nodes places masks n w.entries put-fits j place mask (kid-place j kid.0 kid.1 place at) m);
        long = length-set nodes n j ∙ w.long;
        fits = w.fits;
        room = w.room;
      }

    pub put-all : end ≤ j → Entries d keys spot (take n₀ nodes₀ ++ sourced_children d keys own node) nodes places masks n
    put-all h = subst (λ ms. Entries d keys spot (take n₀ nodes₀ ++ ms) nodes places masks n) (walked_all d keys own t.tree.begin total (tree-formed t) node b.inside j w.met w.walked (omega (arith, w.ending))) w.entries

  -- one more in a frame, which has room for it
  pub put-room : {nodes₀ : List ℕ} {n₀ end j : ℕ} (frame : List ℕ) {n : ℕ} → 648 ≤ length frame → ChildrenPut nodes₀ n₀ end j (nodes_in frame) (places_in frame) (masks_in frame) n → j < end → n < 216
  put-room frame big w more = omega (arith, put-fits w more, (parts-length frame big).0)

  pub put-entry : {nodes₀ : List ℕ} {n₀ end j : ℕ} (frame : List ℕ) {n : ℕ} (w : ChildrenPut nodes₀ n₀ end j (nodes_in frame) (places_in frame) (masks_in frame) n) (more : j < end) (h : n < 216) (place mask : ℕ)
      → place ≡ step_of (code_of (get_or keys j 0) % 2 ^ d) + 2 * up → MaskOf place spot mask → (c : ℕ) → c ≡ next_of keys total j
      → ChildrenPut nodes₀ n₀ end c (nodes_in (entry_put frame n j place mask h)) (places_in (entry_put frame n j place mask h)) (masks_in (entry_put frame n j place mask h)) (n + 1)
  put-entry frame {n} w more h place mask at m c z = rw (nodes-put frame n _ place mask h, places-put frame n _ place mask h, masks-put frame n _ place mask h) (put-more w more place mask at m c z)

-- ---- the loop along the near nodes with children: those of the first i were put
pub record AroundPut (d : ℕ) (keys own : List ℕ) (spot : ℕ) (listed : List ℕ) (c i : ℕ) (nodes places masks : List ℕ) (m : ℕ) : Type 0 where
  pub upto : i ≤ c
  pub entries : Entries d keys spot (concat_map (sourced_children d keys own) (take i (take c listed))) nodes places masks m

module _ {d : ℕ} {keys own total links : List ℕ} (t : LinkedTree d keys own total links) {p spot : ℕ} (v : ValidKey d p) (here : spot ≡ place_of d p) {listed spots : List ℕ} {c : ℕ} (near : NearListed d keys own p listed spots c) where
  size : length (take c listed) ≡ c
  size = length-take-le c listed near.fits

  pub around-start : (nodes places masks : List ℕ) → length places ≡ length nodes → length masks ≡ length nodes → AroundPut d keys own spot listed c 0 nodes places masks 0
  unfolding concat_map
  around-start nodes places masks a b = record { upto = omega arith; entries = entries_none d keys spot nodes places masks a b }

  module _ {i : ℕ} (l : i < c) where
    at : get_or (take c listed) i 0 ≡ get_or listed i 0
    at = get_or-take c listed i 0 l

    pass : (get_or listed i 0 < length keys) × ((near_to d keys own p (get_or keys (get_or listed i 0) 0) && inner keys (get_or listed i 0)) ≡ true)
    pass =
        let m : Mem (get_or listed i 0) (take c listed) = (i, omega (arith, size), at) in
        let (r, h) = mem-filter (λ j. near_to d keys own p (get_or keys j 0) && inner keys j) (range 0 (length keys)) (get_or listed i 0) (subst (λ xs. Mem (get_or listed i 0) xs) near.numbers m) in
        (mem-range (length keys) (get_or listed i 0) r, h)

    pub listed-inner : inner keys (get_or listed i 0) ≡ true
    listed-inner = and_r (near_to d keys own p (get_or keys (get_or listed i 0) 0)) _ pass.1

    pub listed-beside : Beside d keys (get_or listed i 0) (get_or spots i 0) spot
    listed-beside =
        let n = and_l (near_to d keys own p (get_or keys (get_or listed i 0) 0)) _ pass.1 in
        record {
          cell = p;
          valid = v;
          spotted = here;
          inside = pass.0;
          level = eqb-true (level_of (get_or keys (get_or listed i 0) 0)) (level_of p) (and_l _ _ n);
          close = and_l _ _ (and_r (eqb (level_of (get_or keys (get_or listed i 0) 0)) (level_of p)) _ n);
          placed = near.placed i l;
        }

    module _ {nodes places masks : List ℕ} {m : ℕ} (w : AroundPut d keys own spot listed c i nodes places masks m) where
      grown : take m nodes ++ sourced_children d keys own (get_or listed i 0) ≡ concat_map (sourced_children d keys own) (take (i + 1) (take c listed))
      grown = ap₂ (λ (xs : List ℕ) (k : ℕ). xs ++ sourced_children d keys own k) w.entries.numbers (sym at) ∙ sym (concat-more (sourced_children d keys own) (take c listed) i (omega (arith, size)))

      pub around-own : Entries d keys spot (take m nodes) nodes places masks m
      around-own = subst (λ cells. Entries d keys spot cells nodes places masks m) (sym w.entries.numbers) w.entries

      pub around-more : (nodes₁ places₁ masks₁ : List ℕ) (m₁ : ℕ) → Entries d keys spot (take m nodes ++ sourced_children d keys own (get_or listed i 0)) nodes₁ places₁ masks₁ m₁ → AroundPut d keys own spot listed c (i + 1) nodes₁ places₁ masks₁ m₁
      around-more nodes₁ places₁ masks₁ m₁ e = record { upto = omega arith; entries = subst (λ cells. Entries d keys spot cells nodes₁ places₁ masks₁ m₁) grown e }

      pub around-room : m + length (sourced_children d keys own (get_or listed i 0)) ≤ 216
      around-room = omega (
        arith,
        sym (length-append (take m nodes) (sourced_children d keys own (get_or listed i 0))) ∙ ap length grown,
        length-take-le m nodes w.entries.fits,
        concat-longer (sourced_children d keys own) (i + 1) (take c listed),
        all-few,
      )
        where
          all-few : length (concat_map (sourced_children d keys own) (take c listed)) ≤ 216
          all-few = subst (λ n. n ≤ 216) (sym (ap (λ (xs : List ℕ). length (concat_map (sourced_children d keys own) xs)) near.numbers ∙ ap length (around-joined d keys own t.tree p))) (around-length d keys own t.tree p)

  pub around-all : {i : ℕ} → c ≤ i → {nodes places masks : List ℕ} {m : ℕ} → AroundPut d keys own spot listed c i nodes places masks m → Frame d keys own p nodes places masks m
  around-all {i} h {nodes} {places} {masks} {m} w = record { entries = subst (λ n. Entries d keys n (around_nodes d keys own p) nodes places masks m) here done; few = omega (arith, entries-length done, around-length d keys own t.tree p) }
    where
      whole : concat_map (sourced_children d keys own) (take i (take c listed)) ≡ around_nodes d keys own p
      whole = ap (concat_map (sourced_children d keys own)) (take_all i (take c listed) (omega (arith, size)) ∙ near.numbers) ∙ around-joined d keys own t.tree p

      done : Entries d keys spot (around_nodes d keys own p) nodes places masks m
      done = subst (λ cells. Entries d keys spot cells nodes places masks m) whole w.entries
