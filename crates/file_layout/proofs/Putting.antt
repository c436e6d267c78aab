-- Sections and entries that are put one behind the other.
use mathlib.Core.Path.{◌≡◌, refl, sym, ap, ap₂, ◌∙◌}
use mathlib.Core.List.{List, [], ◌∷◌, ◌++◌, map, append-nil, append_assoc}
use Prim.Native.Nat.{ℕ, zero, suc, ◌+◌, ◌-◌, ◌*◌, ◌≤◌, ◌<◌}
use native.Mathlib.Omega.{arith}
use native.Mathlib.Numerals.{add-one}
use lib.ListN.{length, get_or, take, drop, replicate, length-append, length-drop}
use lib.Seq.{drop-cons, drop-length, take_at}
use Rattle.slices.specs.Lists.{sum, filled}
use Rattle.slices.proofs.Lists.{cleared-filled}
use Rattle.tree_file.specs.Bytes.{u32, in_bytes}
use Rattle.tree_file.specs.Contents.{Contents}
use Rattle.tree_file.specs.Written.{sections, body, trailer_of, file_of}
use Rattle.file_bytes.specs.Pasted.{pasted}
use Rattle.file_bytes.proofs.Pasted.{pasted-none, pasted_length, pasted-join, pasted-front}
use Rattle.file_bytes.proofs.Numbers.{bytes-length, column-length}
use Rattle.file_layout.specs.Lengths.{entry, entries_from}
use Rattle.file_layout.proofs.Lengths.{lengths_of, entry_length, entries-length, body-append, body-sum, section-lengths, body-length, trailer-is, file-length}

-- a section, and then others right behind it
behind : (s s' s'' x : List ℕ) (ss : List (List ℕ)) (at to : ℕ) → at + length x ≤ length s → to ≡ at + length x → s' ≡ pasted s at x → s'' ≡ pasted s' to (body ss) → s'' ≡ pasted s at (body (x ∷ ss))
unfolding body
behind s s' s'' x ss at to fits e p q = q ∙ ap (λ (l : List ℕ). pasted l to (body ss)) p ∙ pasted-join s at x fits (body ss) to e

alone : (s s' x : List ℕ) (at : ℕ) → s' ≡ pasted s at x → s' ≡ pasted s at (body (x ∷ []))
unfolding body
alone s s' x at p = p ∙ ap (pasted s at) (sym (append-nil x))

-- sections 1 to 5
pub columns-put : (s s₁ s₂ s₃ s₄ s₅ k o b t i : List ℕ) → 8 * length k + (4 * length o + (4 * length b + (4 * length t + 4 * length i))) ≤ length s
    → length s₁ ≡ length s → length s₂ ≡ length s₁ → length s₃ ≡ length s₂ → length s₄ ≡ length s₃
    → s₁ ≡ pasted s 0 (in_bytes 8 k) → s₂ ≡ pasted s₁ (8 * length k) (in_bytes 4 o) → s₃ ≡ pasted s₂ (8 * length k + 4 * length o) (in_bytes 4 b)
    → s₄ ≡ pasted s₃ (8 * length k + 4 * length o + 4 * length b) (in_bytes 4 t) → s₅ ≡ pasted s₄ (8 * length k + 4 * length o + 4 * length b + 4 * length t) (in_bytes 4 i)
    → s₅ ≡ pasted s 0 (body (in_bytes 8 k ∷ in_bytes 4 o ∷ in_bytes 4 b ∷ in_bytes 4 t ∷ in_bytes 4 i ∷ []))
columns-put s s₁ s₂ s₃ s₄ s₅ k o b t i fits e₁ e₂ e₃ e₄ p₁ p₂ p₃ p₄ p₅ =
    let lk = column-length 8 k in
    let lo = column-length 4 o in
    let lb = column-length 4 b in
    let lt = column-length 4 t in
    behind s s₁ s₅ (in_bytes 8 k) (in_bytes 4 o ∷ in_bytes 4 b ∷ in_bytes 4 t ∷ in_bytes 4 i ∷ []) 0 (8 * length k) (omega arith) (omega arith) p₁
    (behind s₁ s₂ s₅ (in_bytes 4 o) (in_bytes 4 b ∷ in_bytes 4 t ∷ in_bytes 4 i ∷ []) (8 * length k) (8 * length k + 4 * length o) (omega arith) (omega arith) p₂
    (behind s₂ s₃ s₅ (in_bytes 4 b) (in_bytes 4 t ∷ in_bytes 4 i ∷ []) (8 * length k + 4 * length o) (8 * length k + 4 * length o + 4 * length b) (omega arith) (omega arith) p₃
    (behind s₃ s₄ s₅ (in_bytes 4 t) (in_bytes 4 i ∷ []) (8 * length k + 4 * length o + 4 * length b) (8 * length k + 4 * length o + 4 * length b + 4 * length t) (omega arith) (omega arith) p₄
    (alone s₄ s₅ (in_bytes 4 i) (8 * length k + 4 * length o + 4 * length b + 4 * length t) p₅))))

-- sections 6 to 9
pub lists-put : (s s₁ s₂ s₃ s₄ : List ℕ) (at : ℕ) (us uk vs vk : List ℕ) → at + (4 * length us + (8 * length uk + (4 * length vs + 8 * length vk))) ≤ length s
    → length s₁ ≡ length s → length s₂ ≡ length s₁ → length s₃ ≡ length s₂
    → s₁ ≡ pasted s at (in_bytes 4 us) → s₂ ≡ pasted s₁ (at + 4 * length us) (in_bytes 8 uk) → s₃ ≡ pasted s₂ (at + 4 * length us + 8 * length uk) (in_bytes 4 vs)
    → s₄ ≡ pasted s₃ (at + 4 * length us + 8 * length uk + 4 * length vs) (in_bytes 8 vk)
    → s₄ ≡ pasted s at (body (in_bytes 4 us ∷ in_bytes 8 uk ∷ in_bytes 4 vs ∷ in_bytes 8 vk ∷ []))
lists-put s s₁ s₂ s₃ s₄ at us uk vs vk fits e₁ e₂ e₃ p₁ p₂ p₃ p₄ =
    let a = column-length 4 us in
    let b = column-length 8 uk in
    let c = column-length 4 vs in
    behind s s₁ s₄ (in_bytes 4 us) (in_bytes 8 uk ∷ in_bytes 4 vs ∷ in_bytes 8 vk ∷ []) at (at + 4 * length us) (omega arith) (omega arith) p₁
    (behind s₁ s₂ s₄ (in_bytes 8 uk) (in_bytes 4 vs ∷ in_bytes 8 vk ∷ []) (at + 4 * length us) (at + 4 * length us + 8 * length uk) (omega arith) (omega arith) p₂
    (behind s₂ s₃ s₄ (in_bytes 4 vs) (in_bytes 8 vk ∷ []) (at + 4 * length us + 8 * length uk) (at + 4 * length us + 8 * length uk + 4 * length vs) (omega arith) (omega arith) p₃
    (alone s₃ s₄ (in_bytes 8 vk) (at + 4 * length us + 8 * length uk + 4 * length vs) p₄)))

-- three parts, one behind the other
pub three-put : (s s₁ s₂ s₃ a b c : List ℕ) (at p q : ℕ) → at + length a + length b ≤ length s → p ≡ at + length a → q ≡ at + length a + length b
    → s₁ ≡ pasted s at a → s₂ ≡ pasted s₁ p b → s₃ ≡ pasted s₂ q c → s₃ ≡ pasted s at (a ++ b ++ c)
three-put s s₁ s₂ s₃ a b c at p q fits ep eq p₁ p₂ p₃ =
    p₃ ∙ ap (λ (l : List ℕ). pasted l q c) (p₂ ∙ ap (λ (l : List ℕ). pasted l p b) p₁ ∙ pasted-join s at a (omega arith) b p ep)
    ∙ pasted-join s at (a ++ b) (omega (arith, length-append a b)) c q (omega (arith, length-append a b))

pub entry-put : (s s₁ s₂ s₃ : List ℕ) (at code back bytes : ℕ) → at + 12 ≤ length s → s₁ ≡ pasted s at (u32 code) → s₂ ≡ pasted s₁ (at + 4) (u32 back) → s₃ ≡ pasted s₂ (at + 8) (u32 bytes)
    → s₃ ≡ pasted s at (entry code back bytes)
entry-put s s₁ s₂ s₃ at code back bytes h p₁ p₂ p₃ =
    let a = bytes-length 4 code in
    let b = bytes-length 4 back in
    three-put s s₁ s₂ s₃ (u32 code) (u32 back) (u32 bytes) at (at + 4) (at + 8) (omega arith) (omega arith) (omega arith) p₁ p₂ p₃

-- ---- the entries, one a turn

pub record Entering (ns : List ℕ) (at : ℕ) (s₀ s : List ℕ) (back i : ℕ) : Type 0 where
  pub size : length ns ≡ 9
  pub within : i ≤ 9
  pub room : at + 108 ≤ length s₀
  pub kept : length s ≡ length s₀
  pub rest : back ≡ sum (drop i ns)
  pub done : List ℕ
  pub done_length : length done ≡ 12 * i
  pub whole : done ++ entries_from (i + 1) (drop i ns) ≡ entries_from 1 ns
  pub puts : s ≡ pasted s₀ at done

module _ (ns : List ℕ) (at : ℕ) (s₀ : List ℕ) where
  pub entering-none : (back : ℕ) → length ns ≡ 9 → at + 108 ≤ length s₀ → back ≡ sum ns → Entering ns at s₀ s₀ back 0
  entering-none back n h e = record { size = n; within = omega arith; room = h; kept = refl; rest = e; done = []; done_length = refl; whole = refl; puts = pasted-none s₀ at }

  sum_more : (x : ℕ) (xs : List ℕ) → sum (x ∷ xs) ≡ x + sum xs
  unfolding sum
  sum_more x xs = refl

  entry_more : (code x : ℕ) (xs : List ℕ) → entries_from code (x ∷ xs) ≡ entry code (sum (x ∷ xs)) x ++ entries_from (suc code) xs
  unfolding entries_from
  entry_more code x xs = refl

  no-entries : (code : ℕ) → entries_from code [] ≡ []
  unfolding entries_from
  no-entries code = refl

  module _ (s : List ℕ) (back i : ℕ) (g : Entering ns at s₀ s back i) where
    pub entry-fits : i < 9 → at + 12 * i + 12 ≤ length s
    entry-fits h = omega (arith, g.kept, g.room)

    here : i < 9 → drop i ns ≡ get_or ns i 0 ∷ drop (i + 1) ns
    here h = drop-cons ns i 0 (omega (arith, g.size)) ∙ ap (λ (k : ℕ). get_or ns i 0 ∷ drop k ns) (sym (add-one i))

    pub back_is : i < 9 → back ≡ get_or ns i 0 + sum (drop (i + 1) ns)
    back_is h = g.rest ∙ ap sum (here h) ∙ sum_more (get_or ns i 0) (drop (i + 1) ns)

    pub entering-more : (s' : List ℕ) → i < 9 → s' ≡ pasted s (at + 12 * i) (entry (i + 1) back (get_or ns i 0)) → length s' ≡ length s → Entering ns at s₀ s' (back - get_or ns i 0) (i + 1)
    entering-more s' h e k = record {
      size = g.size;
      within = omega arith;
      room = g.room;
      kept = k ∙ g.kept;
      rest = omega (arith, back_is h);
      done = g.done ++ entry (i + 1) back (get_or ns i 0);
      done_length = length-append g.done (entry (i + 1) back (get_or ns i 0)) ∙ omega (arith, g.done_length, entry_length (i + 1) back (get_or ns i 0));
      whole = append_assoc g.done (entry (i + 1) back (get_or ns i 0)) (entries_from (i + 1 + 1) (drop (i + 1) ns)) ∙ ap (λ (l : List ℕ). g.done ++ l) (sym rest_is) ∙ g.whole;
      puts = e ∙ ap (λ (l : List ℕ). pasted l (at + 12 * i) (entry (i + 1) back (get_or ns i 0))) g.puts
          ∙ pasted-join s₀ at g.done (omega (arith, g.done_length, g.room)) (entry (i + 1) back (get_or ns i 0)) (at + 12 * i) (omega (arith, g.done_length));
    }
      where
        rest_is : entries_from (i + 1) (drop i ns) ≡ entry (i + 1) back (get_or ns i 0) ++ entries_from (i + 1 + 1) (drop (i + 1) ns)
        rest_is =
            ap (entries_from (i + 1)) (here h) ∙ entry_more (i + 1) (get_or ns i 0) (drop (i + 1) ns)
            ∙ ap₂ (λ (k c : ℕ). entry (i + 1) k (get_or ns i 0) ++ entries_from c (drop (i + 1) ns)) (ap sum (sym (here h)) ∙ sym g.rest) (sym (add-one (i + 1)))

    pub entering-all : 9 ≤ i → s ≡ pasted s₀ at (entries_from 1 ns)
    entering-all h =
        let e : i ≡ length ns = omega (arith, g.size, g.within) in
        g.puts ∙ ap (pasted s₀ at) (sym (append-nil g.done) ∙ ap (λ (l : List ℕ). g.done ++ l) (sym (ap (entries_from (i + 1)) (ap (λ (k : ℕ). drop k ns) e ∙ drop-length ns) ∙ no-entries (i + 1))) ∙ g.whole)

pub trailer-put : (s s₁ s₂ s₃ ns : List ℕ) (at axes : ℕ) → length ns ≡ 9 → at + 116 ≤ length s → s₁ ≡ pasted s at (entries_from 1 ns) → s₂ ≡ pasted s₁ (at + 108) (u32 axes) → s₃ ≡ pasted s₂ (at + 112) (u32 9)
    → s₃ ≡ pasted s at (entries_from 1 ns ++ u32 axes ++ u32 9)
trailer-put s s₁ s₂ s₃ ns at axes n h p₁ p₂ p₃ =
    let a = entries-length 1 ns in
    let b = bytes-length 4 axes in
    three-put s s₁ s₂ s₃ (entries_from 1 ns) (u32 axes) (u32 9) at (at + 108) (at + 112) (omega arith) (omega arith) (omega arith) p₁ p₂ p₃

-- ---- the whole file, and the zeros behind it

module _ (t : Contents) where
  abbrev first : List (List ℕ)
  first = in_bytes 8 t.keys ∷ in_bytes 4 t.own ∷ in_bytes 4 t.begin ∷ in_bytes 4 t.total ∷ in_bytes 4 t.order ∷ []

  abbrev second : List (List ℕ)
  second = in_bytes 4 t.u_starts ∷ in_bytes 8 t.u_keys ∷ in_bytes 4 t.v_starts ∷ in_bytes 8 t.v_keys ∷ []

  whole-body : body (sections t) ≡ body first ++ body second
  whole-body = body-append first second

  pub file-put : (s s₁ s₂ s₃ : List ℕ) (middle end : ℕ) → middle ≡ length (body first) → end ≡ length (body (sections t)) → length (body (sections t)) ≤ length s
      → s₁ ≡ pasted s 0 (body first) → s₂ ≡ pasted s₁ middle (body second) → s₃ ≡ pasted s₂ end (trailer_of t) → s₃ ≡ pasted s 0 (file_of t)
  file-put s s₁ s₂ s₃ middle end em ee room p₁ p₂ p₃ =
      let parts = ap length whole-body ∙ length-append (body first) (body second) in
      p₃ ∙ ap (λ (l : List ℕ). pasted l end (trailer_of t))
      (p₂ ∙ ap (λ (l : List ℕ). pasted l middle (body second)) p₁ ∙ pasted-join s 0 (body first) (omega arith) (body second) middle (omega arith) ∙ ap (pasted s 0) (sym whole-body))
      ∙ pasted-join s 0 (body (sections t)) (omega arith) (trailer_of t) end (omega arith)

  pub first-length : length (body first) ≡ 8 * length t.keys + 4 * length t.own + 4 * length t.begin + 4 * length t.total + 4 * length t.order
  first-length = body-sum first ∙ ap sum lengths ∙ added (8 * length t.keys) (4 * length t.own) (4 * length t.begin) (4 * length t.total) (4 * length t.order)
    where
      lengths : map length first ≡ 8 * length t.keys ∷ 4 * length t.own ∷ 4 * length t.begin ∷ 4 * length t.total ∷ 4 * length t.order ∷ []
      lengths = ap₂ ◌∷◌ (column-length 8 t.keys) (ap₂ ◌∷◌ (column-length 4 t.own) (ap₂ ◌∷◌ (column-length 4 t.begin) (ap₂ ◌∷◌ (column-length 4 t.total) (ap₂ ◌∷◌ (column-length 4 t.order) refl))))

      added : (a b c d e : ℕ) → sum (a ∷ b ∷ c ∷ d ∷ e ∷ []) ≡ a + b + c + d + e
      added a b c d e = unfold sum in omega arith

  -- room for the file is room for each part
  module _ (s : List ℕ) (room : length (file_of t) ≤ length s) where
    pub columns-fit : 8 * length t.keys + (4 * length t.own + (4 * length t.begin + (4 * length t.total + 4 * length t.order))) ≤ length s
    columns-fit = omega (arith, file-length t)

    module _ (s₁ : List ℕ) (middle : ℕ) (e₁ : length s₁ ≡ length s) (m : middle ≡ 8 * length t.keys + 4 * length t.own + 4 * length t.begin + 4 * length t.total + 4 * length t.order) where
      pub lists-fit : middle + (4 * length t.u_starts + (8 * length t.u_keys + (4 * length t.v_starts + 8 * length t.v_keys))) ≤ length s₁
      lists-fit = omega (arith, file-length t)

      module _ (s₂ ns : List ℕ) (end : ℕ) (e₂ : length s₂ ≡ length s₁) (n : end ≡ middle + 4 * length t.u_starts + 8 * length t.u_keys + 4 * length t.v_starts + 8 * length t.v_keys) (l : ns ≡ lengths_of t) where
        pub trailer-fit : (end + 116 ≤ length s₂) × (end ≡ sum ns) × (length ns ≡ 9)
        trailer-fit = (omega (arith, file-length t), omega (arith, ap sum l ∙ sym (ap sum (section-lengths t)) ∙ sym (body-sum (sections t)) ∙ body-length t), ap length l)

        pub file-done : (s₃ : List ℕ) → s₁ ≡ pasted s 0 (body first) → s₂ ≡ pasted s₁ middle (body second) → s₃ ≡ pasted s₂ end (entries_from 1 ns ++ u32 t.axes ++ u32 9)
            → (s₃ ≡ pasted s 0 (file_of t)) × (end + 116 ≡ length (file_of t))
        file-done s₃ p₁ p₂ p₃ =
            let size = file-length t in
            let sections-size = body-length t in (
              file-put s s₁ s₂ s₃ middle end (m ∙ sym first-length) (omega arith) (omega arith) p₁ p₂
                  (p₃ ∙ ap (pasted s₂ end) (ap (λ (l : List ℕ). entries_from 1 l ++ u32 t.axes ++ u32 9) l ∙ trailer-is t)),
              omega arith,
            )

pub then-zeros : (s xs s' s'' : List ℕ) (n : ℕ) → length xs ≤ length s → length s' ≡ length s → s' ≡ pasted s 0 xs → n ≡ length xs → s'' ≡ take n s' ++ replicate (length s' - n) 0 → s'' ≡ filled (length s) xs
then-zeros s xs s' s'' n fits k p e z =
    z ∙ ap (λ (m : ℕ). take m s' ++ replicate (length s' - m) 0) e ∙ cleared-filled xs s' (ap (take (length xs)) (p ∙ pasted-front s xs) ∙ take_at xs (drop (length xs) s) (length xs) refl)
    ∙ ap (λ (m : ℕ). filled m xs) k
