-- What the outcome of a file says of its rows.
use mathlib.Core.Path.{◌≡◌, refl, sym, ap, ap₂, ◌∙◌, subst}
use mathlib.Core.Bool.{Bool, true, false, ◌&&◌}
use mathlib.Core.List.{List, [], ◌∷◌}
use Prim.Native.Nat.{ℕ, zero, ◌+◌, ◌-◌, ◌*◌, ◌/◌, ◌%◌, ◌≤◌, ◌<◌}
use native.Mathlib.Omega.{arith}
use lib.Dec.{leb, eqb}
use lib.Ieee.{Float}
use lib.ListN.{length}
use borrow.Author.Tests.{leb-true, eqb-true, le-leb, lt-leb, eq-eqb, ne_eqb}
use Rattle.refusal.specs.declared.Refusal.{Refusal}
use Rattle.refusal.specs.declared.Refusal.TheVariants.{Dims, File}
use Rattle.refusal.specs.Chain.{ask, ◌then◌}
use Rattle.refusal.proofs.Chain.{asked, both-done}
use Rattle.slices.proofs.Tests.{and_l, and_r, both}
use Rattle.morton.specs.Keys.{axes_known}
use Rattle.space.specs.declared.Box.{Box}
use Rattle.survey.specs.declared.Survey.{Survey}
use Rattle.survey.specs.Bytes.{f64s_at}
use Rattle.survey.specs.File.{trailer, axes, flags, limit, order, back_to_sources, back_to_targets, sources, targets, bytes_of, size_known, flags_known, rows_fill, file_outcome, said, survey, rows_or, source_rows, target_rows}
use Rattle.std.specs.Prelude.{Err, Ok}
use Rattle.refusal.specs.Outcome.{Outcome, accepted}

-- ---- the chain of checks, one law a place where it stops

pub size-off : (size known right : Bool) → size ≡ false → Err File ≡ ask size File then ask known Dims then ask right File
size-off size known right e = rw e

pub axes-off : (size known right : Bool) → size ≡ true → known ≡ false → Err Dims ≡ ask size File then ask known Dims then ask right File
axes-off size known right e f = rw (e, f)

pub rest-off : (size known right : Bool) → size ≡ true → known ≡ true → right ≡ false → Err File ≡ ask size File then ask known Dims then ask right File
rest-off size known right e f g = rw (e, f, g)

pub all_right : (size known right : Bool) → size ≡ true → known ≡ true → right ≡ true → accepted ≡ ask size File then ask known Dims then ask right File
all_right size known right e f g = rw (e, f, g)

pub size_low : (n : ℕ) → n < 64 → (leb 64 n && leb n 32768) ≡ false
size_low n h = rw (lt-leb 64 n h)

pub size-high : (n : ℕ) → 32768 < n → (leb 64 n && leb n 32768) ≡ false
size-high n h = let a : 64 ≤ n = omega arith in rw (le-leb 64 n a, lt-leb n 32768 h)

pub size-fine : (n : ℕ) → 64 ≤ n → n ≤ 32768 → (leb 64 n && leb n 32768) ≡ true
size-fine n h k = both (le-leb 64 n h) (le-leb n 32768 k)

pub flags-off : (f : ℕ) (fill : Bool) → (f ≡ 0 → ⊥) → (eqb f 0 && fill) ≡ false
flags-off f fill h = rw (ne_eqb f 0 h)

pub flags-fine : (f : ℕ) (fill : Bool) → f ≡ 0 → (eqb f 0 && fill) ≡ fill
flags-fine f fill h = rw (eq-eqb f 0 h)

-- ---- the rows fill the file

module _ (a b c d e t : ℕ) where
  pub back-off : (a ≡ t → ⊥) → false ≡ (eqb a t && (eqb b c && eqb (d + e) t))
  back-off h = rw (ne_eqb a t h)

  pub targets-off : a ≡ t → (b ≡ c → ⊥) → false ≡ (eqb a t && (eqb b c && eqb (d + e) t))
  targets-off h k = rw (eq-eqb a t h, ne_eqb b c k)

  pub sum-decides : a ≡ t → b ≡ c → eqb (d + e) t ≡ (eqb a t && (eqb b c && eqb (d + e) t))
  sum-decides h k = rw (eq-eqb a t h, eq-eqb b c k)

pub in_bytes : (r d rows axes : ℕ) → r ≡ rows → d ≡ axes → r * d * 8 ≡ rows * axes * 8
in_bytes r d rows axes e f = ap₂ (λ (r d : ℕ). r * d * 8) e f

-- ---- what a reader needs of a file that is not refused

pub record Fits (file : List ℕ) : Type 0 where
  pub small : length file ≤ 32768
  pub trailing : 64 ≤ length file
  pub sources_back : back_to_sources file ≡ trailer file
  pub targets_back : back_to_targets file ≡ bytes_of file (targets file)
  pub both_fill : bytes_of file (sources file) + bytes_of file (targets file) ≡ trailer file

pub done-fits : (file : List ℕ) → file_outcome file ≡ accepted → Fits file
done-fits file e =
    let p = both-done (ask (size_known file) File then ask (axes_known (axes file)) Dims) (ask (flags_known file && rows_fill file) File) e in
    let q = both-done (ask (size_known file) File) (ask (axes_known (axes file)) Dims) p.0 in
    let size = asked (size_known file) File q.0 in
    let rest = and_r (flags_known file) (rows_fill file) (asked (flags_known file && rows_fill file) File p.1) in
    let s = eqb (back_to_sources file) (trailer file) in
    let t = eqb (back_to_targets file) (bytes_of file (targets file)) in
    let u = eqb (bytes_of file (sources file) + bytes_of file (targets file)) (trailer file) in
    record {
      small = leb-true (length file) 32768 (and_r (leb 64 (length file)) (leb (length file) 32768) size);
      trailing = leb-true 64 (length file) (and_l (leb 64 (length file)) (leb (length file) 32768) size);
      sources_back = eqb-true (back_to_sources file) (trailer file) (and_l s (t && u) rest);
      targets_back = eqb-true (back_to_targets file) (bytes_of file (targets file)) (and_l t u (and_r s (t && u) rest));
      both_fill = eqb-true (bytes_of file (sources file) + bytes_of file (targets file)) (trailer file) (and_r t u (and_r s (t && u) rest));
    }

-- ---- the answer

abbrev saying : Box → ℕ → ℕ → ℕ → ℕ → ℕ → Survey
saying b k l o s t = record { b = b; keep = eqb (k % 2) 1; limit = l; order = o; sources = s; targets = t }

pub said-is : (file : List ℕ) (b : Box) (k l o s t : ℕ) → b ≡ (said file).b → k ≡ flags file → l ≡ limit file → o ≡ order file → s ≡ sources file → t ≡ targets file
    → saying b k l o s t ≡ said file
said-is file b k l o s t eb ek el eo es et =
    ap₂ (λ (b : Box) (k : ℕ). saying b k l o s t) eb ek
    ∙ ap₂ (λ (l o : ℕ). saying (said file).b (flags file) l o s t) el eo
    ∙ ap₂ (λ (s t : ℕ). saying (said file).b (flags file) (limit file) (order file) s t) es et

-- how many numbers are read from where, and what they are
pub record Reads (file : List ℕ) (m n : ℕ) : Type 0 where
  pub room : m ≤ 4088
  pub room_2 : n ≤ 4088
  pub within : 8 * m + 8 * n ≤ length file
  pub sources_are : f64s_at file m 0 ≡ source_rows file
  pub targets_are : f64s_at file n (8 * m) ≡ target_rows file

pub reads : (file : List ℕ) (s : Survey) → file_outcome file ≡ accepted → s ≡ said file → Reads file (s.sources * s.b.axes) (s.targets * s.b.axes)
reads file s e is = subst (λ (s : Survey). Reads file (s.sources * s.b.axes) (s.targets * s.b.axes)) (sym is)
    (let g = done-fits file e in
    let back : 0 ≡ trailer file - back_to_sources file = omega (arith, g.sources_back) in
    let back₂ : 8 * (sources file * axes file) ≡ trailer file - back_to_targets file = omega (arith, g.targets_back, g.both_fill) in
    record {
      room = omega (arith, g.small, g.both_fill);
      room_2 = omega (arith, g.small, g.both_fill);
      within = omega (arith, g.both_fill);
      sources_are = ap (f64s_at file (sources file * axes file)) back ∙ sym (ap (λ (o : Outcome). rows_or file o (f64s_at file (sources file * axes file) (trailer file - back_to_sources file))) e);
      targets_are = ap (f64s_at file (targets file * axes file)) back₂ ∙ sym (ap (λ (o : Outcome). rows_or file o (f64s_at file (targets file * axes file) (trailer file - back_to_targets file))) e);
    })

-- what a reader has that was answered
pub answers-said : (file : List ℕ) (s : Survey) → Ok s ≡ survey file → (file_outcome file ≡ accepted) × (s ≡ said file)
answers-said file s e = by (file_outcome file) refl
  where
    by : (o : Outcome) → file_outcome file ≡ o → (file_outcome file ≡ accepted) × (s ≡ said file)
    by (Ok tt) f = (f, let z = e ∙ ap (λ (o : Outcome). o then Ok (said file)) f in cc)
    by (Err r) f = absurd (let z : Ok s ≡ Err r = e ∙ ap (λ (o : Outcome). o then Ok (said file)) f in let y : ◌≡◌ {A = ℕ} 0 1 = cc in omega arith)

pub reads-said : (file : List ℕ) (s : Survey) → Ok s ≡ survey file → Reads file (s.sources * s.b.axes) (s.targets * s.b.axes)
reads-said file s e = let (a, b) = answers-said file s e in reads file s a b

-- after a refusal no number is read
pub no-rows : (file : List ℕ) (r : Refusal) (xs : List Float) → file_outcome file ≡ Err r → f64s_at file 0 0 ≡ rows_or file (file_outcome file) xs
no-rows file r xs e = empty ∙ sym (ap (λ (o : Outcome). rows_or file o xs) e)
  where
    empty : f64s_at file 0 0 ≡ []
    empty = unfold f64s_at in refl

pub checked-long : (file : List ℕ) → file_outcome file ≡ accepted → 64 ≤ length file
checked-long file e = (done-fits file e).trailing
