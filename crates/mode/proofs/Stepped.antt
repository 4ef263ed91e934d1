-- The mode step on the flat lists is the model's on the rows that they hold. Assumes nothing.
use mathlib.Core.Path.{◌≡◌, refl, sym, ap, ◌∙◌}
use mathlib.Core.Bool.{Bool, true, false}
use mathlib.Core.List.{List, ◌∷◌, ◌++◌, map, append-nil}
use Prim.Native.Nat.{ℕ, zero, suc, ◌+◌, ◌-◌, ◌*◌, ◌/◌, ◌≤◌, ◌<◌}
use native.Mathlib.Omega.{arith}
use lib.IntN.{ℤ, pos}
use lib.ListN.{length, get_or, set, take, drop, take-append-drop}
use lib.Seq.{slice, slice_empty, slice-cons, take-set-lt, take-set-le, drop-set-lt, drop-set-add, take-suc-set, take-take, append_snoc}
use Rattle.model.specs.Settings.{props_per_row, toks_per_row}
use Rattle.model.specs.Rows.{Row, Span, within, with_zero, rows_of, rows_held, res_of}
use Rattle.model.specs.Mode.{mode, zero_token, rebased, span_mode, fresh}
use Rattle.model.specs.Promise.{no_row}
use Rattle.model.proofs.Places.{row-at, length_rows_of}
use Rattle.mode.specs.Column.{rezeroed, mode_at, tokens_at, step_mode, step_tokens}
use Rattle.mode.specs.Lent.{Inside}

-- ---- rows in the flat lists

row-res : (n i : ℕ) (ps : List ℤ) (ts : List ℕ) (rs : List ℤ) → i < n → (get_or (rows_of n ps ts rs) i no_row).res ≡ get_or rs i (pos 0)
row-res n i ps ts rs h = ap (λ (r : Row). r.res) (row-at n ps ts rs i h)

-- a token that is stored in the zero predictor's column is its row's
stored : (n i t : ℕ) (ps : List ℤ) (ts : List ℕ) (rs : List ℤ) → i < n
    → rows_of n ps (set ts (i * toks_per_row) t) rs ≡ set (rows_of n ps ts rs) i (with_zero t (get_or (rows_of n ps ts rs) i no_row))
stored zero i t ps ts rs h = absurd (omega arith)
stored (suc n) zero t ps ts rs h = rw (take-set-lt toks_per_row ts 0 t (omega arith), drop-set-lt toks_per_row ts 0 t (omega arith))
stored (suc n) (suc i) t ps ts rs h =
    let next : suc i * toks_per_row ≡ toks_per_row + i * toks_per_row = omega arith in
    rw (next, take-set-le toks_per_row ts (toks_per_row + i * toks_per_row) t (omega arith), drop-set-add toks_per_row ts (i * toks_per_row) t)
    (ap (λ (l : List Row). record { props = take props_per_row ps; toks = take toks_per_row ts; res = get_or rs 0 (pos 0) } ∷ l) (stored n i t (drop props_per_row ps) (drop toks_per_row ts) (drop 1 rs) (omega arith)))

-- ---- the span

-- the part from i to end with f at each element: one element of it, and the rest
part-more : {A : Type 0} (d : A) (f : A → A) (l : List A) (i end : ℕ) (x : A) → i < end → end ≤ length l → x ≡ f (get_or l i d)
    → take (suc i) (set l i x) ++ map f (slice (suc i) end (set l i x)) ++ drop end (set l i x) ≡ take i l ++ map f (slice i end l) ++ drop end l
part-more {A} d f l i end x lt le e =
    rw (
      slice-cons i end l d lt le,
      take-suc-set l i x (omega arith),
      take-set-lt end l i x lt,
      drop-set-lt (suc i) (take end l) i x (omega arith),
      drop-set-lt end l i x lt,
      e,
    )
    (ap (λ (m : List A). m ++ drop end l) (append_snoc (take i l) (f (get_or l i d)) (map f (slice (suc i) end l))))

module _ (n : ℕ) (ps res : List ℤ) (long : n ≤ length res) where
  -- the rows of a list of tokens
  abbrev rows : List ℕ → List Row
  rows tok = rows_of n ps tok res

  there : (end : ℕ) (tok : List ℕ) → end ≤ n → end ≤ length (rows tok)
  there end tok h = omega (arith, length_rows_of n ps tok res)

  -- their residuals
  span-res : (k i end : ℕ) (tok : List ℕ) → i + k ≡ end → end ≤ n → res_of (slice i end (rows tok)) ≡ slice i end res
  span-res zero i end tok e h = let none : i ≡ end = omega arith in rw (none, slice_empty end (rows tok), slice_empty end res)
  span-res (suc k) i end tok e h =
      rw (slice-cons i end (rows tok) no_row (omega arith) (there end tok h), slice-cons i end res (pos 0) (omega arith) (omega arith))
      (λ j. row-res n i ps tok res (omega arith) j ∷ span-res k (suc i) end tok (omega arith) h j)

  -- and their tokens
  span-rows : (m : ℤ) (k i end : ℕ) (tok : List ℕ) → i + k ≡ end → end ≤ n
      → rows (rezeroed m i (slice i end res) tok) ≡ take i (rows tok) ++ rebased m (slice i end (rows tok)) ++ drop end (rows tok)
  unfolding rezeroed rebased
  span-rows m zero i end tok e h =
      let none : i ≡ end = omega arith in
      rw (none, slice_empty end (rows tok), slice_empty end res, append-nil) (sym (take-append-drop end (rows tok)))
  span-rows m (suc k) i end tok e h =
      let v = get_or res i (pos 0) in
      let row = get_or (rows tok) i no_row in
      let next = set tok (i * toks_per_row) (zero_token m v) in
      rw (slice-cons i end res (pos 0) (omega arith) (omega arith))
      (span-rows m k (suc i) end next (omega arith) h
      ∙ ap (λ (l : List Row). take (suc i) l ++ rebased m (slice (suc i) end l) ++ drop end l) (stored n i (zero_token m v) ps tok res (omega arith))
      ∙ part-more no_row (λ (r : Row). with_zero (zero_token m r.res) r) (rows tok) i end (with_zero (zero_token m v) row) (omega arith) (there end tok h)
      (ap (λ (w : ℤ). with_zero (zero_token m w) row) (sym (row-res n i ps tok res (omega arith)))))

-- ---- the mode step

module _ (ps : List ℤ) (tok : List ℕ) (res : List ℤ) (first end : ℕ) where
  -- the rows that the lists hold, and the span
  abbrev held : List Row
  held = rows_held ps tok res

  abbrev span : Span
  span = record { first = first; end = end }

  module _ (inside : Inside first end res) (wide : length ps ≡ length res * props_per_row) where
    count : length ps / props_per_row ≡ length res
    count = omega arith

    -- `rebase_zero` answers the mode of the span's rows
    pub rebase_mode : mode_at first end res ≡ span_mode true (within span held)
    unfolding span_mode
    rebase_mode =
        let at = inside.inside in
        let up = inside.ordered in
        ap mode (sym (span-res (length ps / props_per_row) ps res (omega (arith, count)) (end - first) first end tok (omega arith) (omega (arith, count))))

    -- and leaves them afresh in the lists
    pub rebase_rows : rows_held ps (tokens_at first end res tok) res ≡ take first held ++ fresh true (within span held) ++ drop end held
    unfolding fresh
    rebase_rows =
        let at = inside.inside in
        let up = inside.ordered in
        span-rows (length ps / props_per_row) ps res (omega (arith, count)) (mode_at first end res) (end - first) first end tok (omega arith) (omega (arith, count))
        ∙ ap (λ (m : ℤ). take first held ++ rebased m (within span held) ++ drop end held) rebase_mode

  -- the same of `mode_step`, where `uses` says whether modes are in use
  pub step-mode : (uses : Bool) → (uses ≡ true → Inside first end res) → (uses ≡ true → length ps ≡ length res * props_per_row)
      → step_mode uses first end res ≡ span_mode uses (within span held)
  unfolding span_mode
  step-mode true inside wide = rebase_mode (inside refl) (wide refl)
  step-mode false inside wide = refl

  pub step-rows : (uses : Bool) → first ≤ end → (uses ≡ true → Inside first end res) → (uses ≡ true → length ps ≡ length res * props_per_row)
      → rows_held ps (step_tokens uses first end res tok) res ≡ take first held ++ fresh uses (within span held) ++ drop end held
  unfolding fresh
  step-rows true ordered inside wide = rebase_rows (inside refl) (wide refl)
  step-rows false ordered inside wide =
      sym
      (ap (λ (l : List Row). l ++ within span held ++ drop end held) (sym (take-take first end held ordered))
      ∙ ap (λ (l : List Row). l ++ drop end held) (take-append-drop first (take end held))
      ∙ take-append-drop end held)
