-- The gathered keys, sorted.
use mathlib.Core.Path.{◌≡◌, sym, ap, ◌∙◌, subst}
use mathlib.Core.Bool.{true}
use mathlib.Core.List.{List, ◌++◌, map}
use Prim.Native.Nat.{ℕ, ◌≤◌, ◌<◌}
use native.Mathlib.Omega.{arith}
use lib.ListN.{length, get_or, take, drop, length-map}
use lib.Seq.{get_or-take, length-take-le, take_at}
use Rattle.slices.specs.Lists.{Mem, Distinct}
use Rattle.slices.specs.Order.{ascending}
use Rattle.slices.proofs.Lists.{length-ascending}
use Rattle.morton.specs.Keys.{axes_known, ValidKey}
use Rattle.tree.proofs.Ranges.{distinct}
use Rattle.salvaged.specs.Nodes.{kept_keys}
use Rattle.salvaged.proofs.Kept.{kept-good, kept-chain, kept-ascending}
use Rattle.ranking.specs.Ranks.{rank, key_of, AllValid}
use Rattle.ranking.proofs.Ordered.{in_order}
use Rattle.kept_keys.specs.Gathered.{Gathered, Ordered}

module _ (d : ℕ) (rows : List ℕ) (room : ℕ) (key : List ℕ) (r : ℕ) (known : axes_known d ≡ true) (g : Gathered d rows room key r) where
  pub order-short : room < r → Ordered d rows room key r
  order-short h = record { fits = λ f. absurd (omega arith); short = g.short }

  module _ (h : r ≤ room) where
    at : (q : ℕ) → q < length (take r key) → (q < r) × (get_or (take r key) q 0 ≡ get_or key q 0)
    at q l = let f : q < r = omega (arith, length-take-le r key (g.within h)) in (f, get_or-take r key q 0 f)

    pub all_valid : AllValid d (take r key)
    all_valid q l = let a = at q l in subst (ValidKey d) (sym a.1) (kept-good d rows known (get_or key q 0) (g.only h q a.0))

    apart : Distinct (take r key)
    apart x y lx ly e = let a = at x lx in let b = at y ly in g.once h x y a.0 b.0 (sym a.1 ∙ e ∙ b.1)

    into : (z : ℕ) → Mem z (take r key) → Mem z (kept_keys d rows)
    into z (q, l, e) = let a = at q l in subst (λ y. Mem y (kept_keys d rows)) (sym a.1 ∙ e) (g.only h q a.0)

    back : (z : ℕ) → Mem z (kept_keys d rows) → Mem z (take r key)
    back z m = let (q, l, e) = g.all h z m in (q, omega (arith, length-take-le r key (g.within h)), get_or-take r key q 0 l ∙ e)

    pub order-fits : (e : List ℕ) → e ≡ map (key_of d) (ascending (map (rank d) (take r key))) → Ordered d rows room (e ++ drop r key) r
    order-fits e s =
        let w : e ≡ kept_keys d rows = s ∙ in_order d (take r key) (kept_keys d rows) apart (distinct d (kept_keys d rows) (kept-ascending d rows known)) (kept-good d rows known) (kept-chain d rows known) into back in
        let n : length e ≡ r = ap length s ∙ length-map (ascending (map (rank d) (take r key))) (key_of d) ∙ length-ascending (map (rank d) (take r key)) ∙ length-map (take r key) (rank d) ∙ length-take-le r key (g.within h) in
        record {
          fits = λ f. (sym n ∙ ap length w, take_at e (drop r key) r n ∙ w);
          short = λ f. absurd (omega arith);
        }
