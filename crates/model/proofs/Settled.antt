-- Settling keeps what spans hold, and makes each leaf's tokens those of its span's mode. Assumes nothing.
use mathlib.Core.Path.{◌≡◌, refl, sym, ap, ◌∙◌}
use mathlib.Core.Logic.{◌≢◌, ◌⊎◌, inl, inr}
use Prim.Native.Nat.{ℕ, zero, suc, ◌+◌, ◌-◌, ◌≤◌, ◌<◌}
use native.Mathlib.Omega.{arith}
use mathlib.Core.Bool.{Bool, cond}
use mathlib.Core.List.{List, [], ◌∷◌, ◌++◌, append-nil}
use lib.ListN.{length, take, drop}
use lib.Seq.{slice, length-slice}
use lib.Dec.{T}
use Rattle.model.specs.Meter.{Meter}
use Rattle.model.specs.Rows.{Row, Span, within}
use Rattle.model.specs.Mode.{fresh}
use Rattle.model.specs.Tree.{is_leaf}
use Rattle.model.specs.Grow.{Entry}
use Rattle.model.specs.Settle.{settled}
use Rattle.model.specs.Promise.{no_row}
use Rattle.model.specs.Kept.{entry_at}
use Rattle.model.proofs.Slices.{length-replaced, slice-gt, slice-before, slice-after}
use Rattle.model.proofs.Fresh.{fresh-key, fresh-twice, length-fresh}
use Rattle.model.proofs.Placed.{Placed}

-- the mode step on one span
abbrev pub put : Bool → Span → List Row → List Row
put uses s rows = take s.first rows ++ fresh uses (within s rows) ++ drop s.end rows

module _ (uses : Bool) (rows : List Row) (s : Span) (ab : s.first ≤ s.end) (bn : s.end ≤ length rows) where
  abbrev mid : List Row
  mid = fresh uses (within s rows)

  fits : length mid + length {A = Row} [] ≡ s.end - s.first
  fits = omega (arith, length-fresh uses (within s rows), length-slice s.first s.end rows bn)

  put_is : take s.first rows ++ mid ++ [] ++ drop s.end rows ≡ put uses s rows
  put_is = ap (λ (l : List Row). l ++ drop s.end rows) (append-nil (take s.first rows ++ mid))

  pub put-length : length (put uses s rows) ≡ length rows
  put-length = ap length (sym put_is) ∙ length-replaced rows s.first s.end ab bn mid [] fits

  pub put_same : within s (put uses s rows) ≡ mid
  put_same = let e : s.end ≡ s.first + length mid = omega (arith, fits) in
      ap (λ (k : ℕ). slice s.first k (put uses s rows)) e ∙ ap (λ (l : List Row). slice s.first (s.first + length mid) l) (sym put_is) ∙ slice-gt rows s.first s.end ab bn mid [] fits

  pub put_other : (t : Span) → t.end ≤ length rows → (s.end ≤ t.first) ⊎ (t.end ≤ s.first) → within t (put uses s rows) ≡ within t rows
  put_other t tn (inl c) = ap (within t) (sym put_is) ∙ slice-after rows s.first s.end ab bn mid [] fits no_row t.first t.end c tn
  put_other t tn (inr c) = ap (within t) (sym put_is) ∙ slice-before rows s.first s.end ab bn mid [] fits no_row t.first t.end c

module _ {M : Meter} where
  -- one entry's turn
  abbrev turn : Bool → Entry M → List Row → List Row
  turn uses e rows = cond (is_leaf e.node) (put uses e.span rows) rows

  module _ (uses : Bool) (e : Entry M) (rows : List Row) (ab : e.span.first ≤ e.span.end) (bn : e.span.end ≤ length rows) where
    turn-length : length (turn uses e rows) ≡ length rows
    turn-length = search (arith, put-length)

    turn-same : T (is_leaf e.node) → within e.span (turn uses e rows) ≡ fresh uses (within e.span rows)
    turn-same t = search (arith, put_same)

    turn-other : (t : Span) → t.end ≤ length rows → (T (is_leaf e.node) → (e.span.end ≤ t.first) ⊎ (t.end ≤ e.span.first)) → within t (turn uses e rows) ≡ within t rows
    turn-other t tn c = search (arith, put_other)

  abbrev Bounded : List (Entry M) → List Row → Type 0
  Bounded es rows = (k : ℕ) → k < length es → ((entry_at es k).span.first ≤ (entry_at es k).span.end) × ((entry_at es k).span.end ≤ length rows)

  abbrev Spread : List (Entry M) → Type 0
  Spread es = (i k : ℕ) → i < length es → k < length es → i ≢ k → T (is_leaf (entry_at es i).node) → T (is_leaf (entry_at es k).node) → ((entry_at es i).span.end ≤ (entry_at es k).span.first) ⊎ ((entry_at es k).span.end ≤ (entry_at es i).span.first)

  later : (uses : Bool) (e : Entry M) (es : List (Entry M)) (rows : List Row) → Bounded (e ∷ es) rows → Bounded es (turn uses e rows)
  later uses e es rows b k h = let q = b (suc k) (omega arith) in let z = b 0 (omega arith) in (q.0, rw (turn-length uses e rows z.0 z.1) q.1)

  pub settled-length : (uses : Bool) (es : List (Entry M)) (rows : List Row) → Bounded es rows → length (settled uses es rows) ≡ length rows
  unfolding settled
  settled-length uses [] rows b = refl
  settled-length uses (e ∷ es) rows b = let z = b 0 (omega arith) in settled-length uses es (turn uses e rows) (later uses e es rows b) ∙ turn-length uses e rows z.0 z.1

  settled-other : (uses : Bool) (es : List (Entry M)) (rows : List Row) → Bounded es rows → (t : Span) → t.end ≤ length rows
      → ((k : ℕ) → k < length es → T (is_leaf (entry_at es k).node) → ((entry_at es k).span.end ≤ t.first) ⊎ (t.end ≤ (entry_at es k).span.first)) → within t (settled uses es rows) ≡ within t rows
  unfolding settled
  settled-other uses [] rows b t tn c = refl
  settled-other uses (e ∷ es) rows b t tn c =
      let z = b 0 (omega arith) in
      settled-other uses es (turn uses e rows) (later uses e es rows b) t (rw (turn-length uses e rows z.0 z.1) tn) (λ k h u. c (suc k) (omega arith) u)
      ∙ turn-other uses e rows z.0 z.1 t tn (λ u. c 0 (omega arith) u)

  settled-leaf : (uses : Bool) (es : List (Entry M)) (rows : List Row) → Bounded es rows → Spread es → (q : ℕ) → q < length es → T (is_leaf (entry_at es q).node) → within (entry_at es q).span (settled uses es rows) ≡ fresh uses (within (entry_at es q).span rows)
  unfolding settled
  settled-leaf uses [] rows b d q h t = absurd (none-there q h)
    where
      none-there : (q : ℕ) → q < 0 → ⊥
      none-there q h = omega arith
  settled-leaf uses (e ∷ es) rows b d zero h t =
      let z = b 0 (omega arith) in
      settled-other uses es (turn uses e rows) (later uses e es rows b) e.span (rw (turn-length uses e rows z.0 z.1) z.1) (λ k hk u. d (suc k) 0 (omega arith) (omega arith) (omega arith) u t)
      ∙ turn-same uses e rows z.0 z.1 t
  settled-leaf uses (e ∷ es) rows b d (suc q) h t =
      let z = b 0 (omega arith) in
      let y = b (suc q) h in
      settled-leaf uses es (turn uses e rows) (later uses e es rows b) (λ i k hi hk ne. d (suc i) (suc k) (omega arith) (omega arith) (omega arith)) q (omega arith) t
      ∙ ap (fresh uses) (turn-other uses e rows z.0 z.1 (entry_at es q).span y.1 (λ u. d 0 (suc q) (omega arith) h (omega arith) u t))

  pub settled-placed : (uses : Bool) (given rows : List Row) (es : List (Entry M)) → Placed uses given rows es → Placed uses given (settled uses es rows) es
  settled-placed uses given rows es pl = search (arith, settled-length, settled-leaf, fresh-key)

  pub settled-fresh : (uses : Bool) (given rows : List Row) (es : List (Entry M)) → Placed uses given rows es → (k : ℕ) → k < length es → T (is_leaf (entry_at es k).node)
      → fresh uses (within (entry_at es k).span (settled uses es rows)) ≡ within (entry_at es k).span (settled uses es rows)
  settled-fresh uses given rows es pl k h t = let q = settled-leaf uses es rows pl.bounds pl.apart k h t in ap (fresh uses) q ∙ fresh-twice uses (within (entry_at es k).span rows) ∙ sym q
