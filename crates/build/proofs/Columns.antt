-- All rows are put: the columns are those of the tree that was asked for; and what is then left in the lent slices, with 0 in the unused places.
use mathlib.Core.Path.{◌≡◌, refl, sym, ap, ap₂, subst, ◌∙◌}
use mathlib.Core.List.{List, ◌++◌, map}
use Prim.Native.Nat.{ℕ, ◌*◌, ◌+◌, ◌-◌, ◌%◌, ◌≤◌, ◌<◌}
use native.Mathlib.Omega.{arith}
use lib.ListN.{length, take, replicate, length-map}
use lib.Seq.{length-take-le, length-slice, take_all}
use Rattle.refusal.specs.declared.Refusal.{Refusal}
use Rattle.refusal.proofs.Chain.{after-done, after-refused}
use Rattle.refusal.proofs.Left.{left-done, left-refused}
use Rattle.slices.specs.Lists.{filled}
use Rattle.growth.specs.Columns.{own_column, begin_column, order_column}
use Rattle.growth.proofs.Runs.{length-own, length-begin}
use Rattle.tree.specs.Order.{depth_of}
use Rattle.growth.specs.declared.Grown.{Grown}
use Rattle.growth.specs.Grown.{grown}
use Rattle.tree.specs.Totals.{total_column}
use Rattle.growth.specs.Nodes.{nodes}
use Rattle.laying.specs.Points.{codes_of}
use Rattle.parting.specs.Setting.{Setting}
use Rattle.parting.specs.Parts.{source_codes, target_codes, Coded}
use Rattle.grow.specs.Rows.{sum_marked, own_marked, Marked}
use Rattle.grow.specs.Steps.{Grows}
use Rattle.grow.proofs.Ending.{order-taken}
use Rattle.filling.specs.Slices.{indices, Slices, RowsPut, Filled, Cleared, grown_of, Ended}
use Rattle.filling.specs.declared.Started.{Started}
use Rattle.build.specs.Asked.{Asked, rule_of, built_keys, built_own, built_begins, built_totals, built_order}
use Rattle.build.specs.Outcomes.{Rooms, room_of, build_outcome, build_check, build_answer, order_left, keys_left, own_left, begins_left, totals_left}
use Rattle.build.specs.Steps.{TreeStarted, BuiltSlices}
use Rattle.refusal.specs.Outcome.{Answer, Outcome, accepted, ending}
use Rattle.std.specs.Prelude.{Err, Ok, IfOk}

module _ (a : Asked) (z : Setting) (work work' : List ℕ) (s : Marked) (coded : Coded (rule_of a) z work) (q : Grows (rule_of a) z work work' s)
    (sources_are : source_codes z work ≡ codes_of a.box a.sources) (nodes_are : nodes (rule_of a) (codes_of a.box a.sources) (target_codes z work) ≡ built_keys a) where
  abbrev d : ℕ
  d = a.box.axes

  abbrev src : List ℕ
  src = source_codes z work

  abbrev keys : List ℕ
  keys = nodes (rule_of a) (source_codes z work) (target_codes z work)

  pub keys-asked : nodes (rule_of a) (source_codes z work) (target_codes z work) ≡ built_keys a
  keys-asked = ap (λ (xs : List ℕ). nodes (rule_of a) xs (target_codes z work)) sources_are ∙ nodes_are

  own-asked : own_column d keys src ≡ built_own a
  unfolding built_own
  own-asked = ap₂ (own_column a.box.axes) keys-asked sources_are

  totals-asked : total_column d keys (own_column d keys src) ≡ built_totals a
  unfolding built_totals
  totals-asked = ap₂ (total_column a.box.axes) keys-asked own-asked

  order-asked : order_column d keys src ≡ built_order a
  unfolding built_order
  order-asked = ap₂ (order_column a.box.axes) keys-asked sources_are

  src-long : length src ≡ z.sources
  src-long = length-slice z.sources (2 * z.sources) work (omega (arith, coded.beside)) ∙ omega arith

  order-grown : s.number ≤ z.room → indices (take z.sources work') ≡ order_column d keys src
  order-grown fits =
      let words = take z.sources work' in
      let long : length words ≡ z.sources = length-take-le z.sources work' (omega (arith, q.kept, coded.beside)) in
      let all : take z.sources (indices words) ≡ indices words = take_all z.sources (indices words) (omega (arith, length-map words (λ w. w % 1048576), long)) in
      sym all
      ∙ order-taken (rule_of a) z src (target_codes z work) work work' (indices words) (indices words) s (omega (arith, src-long, coded.few)) q fits (record { taken = all; rest = refl })

  pub nodes-counted : s.number ≤ z.room → s.number ≡ length (built_keys a)
  nodes-counted fits = omega (arith, q.counted, ap length keys-asked)

  pub tree-started : (order : List ℕ) (rows n : ℕ) → rows ≡ z.sources → n ≡ s.number → s.number ≤ z.room → z.sources ≤ length order → z.room ≤ length s.key → z.room ≤ length s.mark
      → TreeStarted a z.room rows n work' order s.key s.mark
  tree-started order rows n r e fits room key-room mark-room =
      subst (λ (x : ℕ). TreeStarted a z.room x n work' order s.key s.mark) (sym r)
      (subst (λ (y : ℕ). TreeStarted a z.room z.sources y work' order s.key s.mark) (sym e) so)
    where
      so : TreeStarted a z.room z.sources s.number work' order s.key s.mark
      so = record {
        in_work = omega (arith, q.kept, coded.beside);
        in_order = room;
        in_room = fits;
        number = nodes-counted fits;
        keys = (q.rows fits key-room mark-room).keys ∙ keys-asked;
        owns = (q.rows fits key-room mark-room).owns ∙ own-asked;
        totals = (q.rows fits key-room mark-room).totals ∙ totals-asked;
        few = (q.rows fits key-room mark-room).few;
        ordered = order-grown fits ∙ order-asked;
      }

-- ---- the lent slices at the end
-- the first entries of a column, and 0 behind them
cut-filled : (n room : ℕ) (first written column : List ℕ) → first ≡ column → length first ≡ n → written ≡ first ++ replicate (room - n) 0 → written ≡ filled room column
cut-filled n room first written column e size w = w ∙ ap₂ (λ (xs : List ℕ) (m : ℕ). xs ++ replicate m 0) e (ap (room -◌) (sym size ∙ ap length e))

begins-long : (a : Asked) → length (built_begins a) ≡ length (built_keys a)
unfolding built_begins built_own
begins-long a = length-begin a.box.axes (built_keys a) (codes_of a.box a.sources)

own-begins : (a : Asked) → begin_column (built_own a) ≡ built_begins a
unfolding built_begins
own-begins a = refl

-- so long are the slices
pub record Long (r : Rooms) (s : Slices) : Type 0 where
  pub work : length s.work ≡ r.work
  pub order : length s.order ≡ r.order
  pub keys : length s.key ≡ r.keys
  pub own : length s.own ≡ r.own
  pub begins : length s.begin ≡ r.begins
  pub totals : length s.total ≡ r.totals

module _ (a : Asked) (room rows n : ℕ) (r : Rooms) (s : Slices) (long : Long r s) (e : room ≡ room_of r) (q : TreeStarted a room rows n s.work s.order s.key s.total) where
  pub rows-put : RowsPut rows n s
  rows-put = record {
    in_work = q.in_work;
    in_order = q.in_order;
    in_key = omega (arith, q.in_room, e, long.keys);
    in_own = omega (arith, q.in_room, e, long.own);
    in_begin = omega (arith, q.in_room, e, long.begins);
    in_total = omega (arith, q.in_room, e, long.totals);
    few = q.few;
  }

  slices-built : (t : Slices) → Filled rows n s t → BuiltSlices a r t.work t.order t.key t.own t.begin t.total
  slices-built t f = record {
    worked = f.worked ∙ ap (λ (x : ℕ). replicate x 0) long.work;
    ordered = cut-filled rows r.order (indices (take rows s.work)) t.order (built_order a) q.ordered (length-map (take rows s.work) (λ w. w % 1048576) ∙ length-take-le rows s.work q.in_work) (f.ordered ∙ ap (λ (x : ℕ). indices (take rows s.work) ++ replicate (x - rows) 0) long.order);
    keyed = cut-filled n r.keys (take n s.key) t.key (built_keys a) q.keys (length-take-le n s.key rows-put.in_key) (f.keyed ∙ ap (λ (x : ℕ). take n s.key ++ replicate (x - n) 0) long.keys);
    owned = cut-filled n r.own (map own_marked (take n s.total)) t.own (built_own a) q.owns (length-map (take n s.total) own_marked ∙ marks) (f.owned ∙ ap (λ (x : ℕ). map own_marked (take n s.total) ++ replicate (x - n) 0) long.own);
    begun = cut-filled n r.begins (begin_column (map own_marked (take n s.total))) t.begin (built_begins a) begun-is (ap length begun-is ∙ begins-long a ∙ sym q.number) (f.begun ∙ ap (λ (x : ℕ). begin_column (map own_marked (take n s.total)) ++ replicate (x - n) 0) long.begins);
    summed = cut-filled n r.totals (map sum_marked (take n s.total)) t.total (built_totals a) q.totals (length-map (take n s.total) sum_marked ∙ marks) (f.summed ∙ ap (λ (x : ℕ). map sum_marked (take n s.total) ++ replicate (x - n) 0) long.totals);
  }
    where
      begun-is : begin_column (map own_marked (take n s.total)) ≡ built_begins a
      begun-is = ap begin_column q.owns ∙ own-begins a

      marks : length (take n s.total) ≡ n
      marks = length-take-le n s.total rows-put.in_total

-- the same of a start that was not refused
pub rows-started : (a : Asked) (room : ℕ) (r : Rooms) (s : Slices) → Long r s → room ≡ room_of r → (p : Answer Started) → IfOk p (λ q. TreeStarted a room q.rows q.nodes s.work s.order s.key s.total)
    → IfOk p (λ q. RowsPut q.rows q.nodes s)
rows-started a room r s long e (Ok q) h = rows-put a room q.rows q.nodes r s long e h
rows-started a room r s long e (Err x) h = tt

-- a start whose key and mark columns have the room
pub with-room : (a : Asked) (room : ℕ) (s : Slices) (m n : ℕ) (p : Answer Started) → IfOk p (λ q. room ≤ m → room ≤ n → TreeStarted a room q.rows q.nodes s.work s.order s.key s.total)
    → room ≤ m → room ≤ n → IfOk p (λ q. TreeStarted a room q.rows q.nodes s.work s.order s.key s.total)
with-room a room s m n (Ok q) h k l = h k l
with-room a room s m n (Err x) h k l = tt

-- ---- the answer and the slices of a build
abbrev pub Built : Asked → Rooms → Answer Grown → Slices → Type 0
Built a r answer t =
    (answer ≡ build_answer a r)
    × ((t.work ≡ replicate r.work 0) × ((t.order ≡ order_left a r) × ((t.key ≡ keys_left a r) × ((t.own ≡ own_left a r) × ((t.begin ≡ begins_left a r) × (t.total ≡ totals_left a r))))))

module _ (a : Asked) (r : Rooms) (s t : Slices) (long : Long r s) where
  abbrev checked : Outcome
  checked = build_check a r

  refused_all : (q : Refusal) → build_check a r ≡ Err q → Cleared s t → (answer : Answer Grown) → answer ≡ Err q → Built a r answer t
  refused_all q d z answer e = (
    e ∙ sym (after-refused checked (Ok (grown (built_keys a))) q d),
    (
      z.worked ∙ ap (λ (x : ℕ). replicate x 0) long.work,
      (
        left-refused checked r.order (built_order a) t.order q (length s.order) d long.order z.ordered,
        (
          left-refused checked r.keys (built_keys a) t.key q (length s.key) d long.keys z.keyed,
          (
            left-refused checked r.own (built_own a) t.own q (length s.own) d long.own z.owned,
            (
              left-refused checked r.begins (built_begins a) t.begin q (length s.begin) d long.begins z.begun,
              left-refused checked r.totals (built_totals a) t.total q (length s.total) d long.totals z.summed,
            ),
          ),
        ),
      ),
    ),
  )

  built-all : build_check a r ≡ accepted → (n : ℕ) (first : List ℕ) → n ≡ length (built_keys a) → first ≡ built_keys a → BuiltSlices a r t.work t.order t.key t.own t.begin t.total
      → (answer : Answer Grown) → answer ≡ Ok (record { nodes = n; depth = depth_of first }) → Built a r answer t
  built-all d n first e f z answer g = (
    g ∙ ap₂ (λ (x : ℕ) (keys : List ℕ). grown_at x keys) e f ∙ sym (after-done checked (Ok (grown (built_keys a))) d),
    (
      z.worked,
      (
        left-done checked r.order (built_order a) t.order d z.ordered,
        (
          left-done checked r.keys (built_keys a) t.key d z.keyed,
          (
            left-done checked r.own (built_own a) t.own d z.owned,
            (
              left-done checked r.begins (built_begins a) t.begin d z.begun,
              left-done checked r.totals (built_totals a) t.total d z.summed,
            ),
          ),
        ),
      ),
    ),
  )
    where
      grown_at : ℕ → List ℕ → Answer Grown
      grown_at n keys = Ok (record { nodes = n; depth = depth_of keys })

  -- where all rows are put the slices are filled, and else cleared
  pub ended : (p : Answer Started) (room : ℕ) → room ≡ room_of r → ending p ≡ build_outcome a r.work r.order room
      → IfOk p (λ q. TreeStarted a room q.rows q.nodes s.work s.order s.key s.total)
      → (answer : Answer Grown) → answer ≡ grown_of p s.key → Ended p s t → Built a r answer t
  ended (Ok q) room m e h answer g f =
      built-all (sym (e ∙ ap (build_outcome a r.work r.order) m)) q.nodes (take q.nodes s.key) h.number h.keys (slices-built a room q.rows q.nodes r s long m h t f) answer g
  ended (Err x) room m e h answer g z = refused_all x (sym (e ∙ ap (build_outcome a r.work r.order) m)) z answer g
