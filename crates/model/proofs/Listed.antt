-- Rows in the lent flat lists: what the lists at exit hold is the result's rows. Assumes nothing.
use mathlib.Core.Path.{◌≡◌, refl, sym, ap, ◌∙◌}
use Prim.Native.Nat.{ℕ, zero, suc, ◌*◌, ◌/◌, ◌≤◌}
use native.Mathlib.Omega.{arith}
use mathlib.Core.Bool.{Bool, true, false, cond}
use mathlib.Core.List.{List, [], ◌∷◌}
use lib.ListN.{length, get_or, drop, length-append, length-drop, length-set, length-map}
use lib.Seq.{take_at, drop_at, length-take-le}
use lib.IntN.{ℤ, pos}
use lib.Dec.{T, eqb, eqb→eq}
use lib.Ieee.Fits.{and_i, and_l, and_r}
use Rattle.model.specs.Lists.{all, eq_z}
use Rattle.model.specs.Meter.{Meter}
use Rattle.model.specs.Settings.{props_per_row, toks_per_row}
use Rattle.model.specs.Rows.{Row, rows_of, joined, props_of, toks_of, res_of}
use Rattle.model.specs.Learn.{Result}
use Rattle.model.specs.Lent.{Lent, row_count, rows_in, has_residuals, lent_after}
use Rattle.model.specs.Accepting.{Even}
use Rattle.model.proofs.Results.{has_tokens, ResultKept}
use Rattle.model.proofs.Places.{length_rows_of}
use Rattle.model.proofs.Tests.{eq_z-eq}

-- ---- tests of one row, none of which looks at the zero token
abbrev pub has_props : Row → Bool
has_props r = eqb (length r.props) props_per_row

abbrev has_toks : Row → Bool
has_toks r = eqb (length r.toks) toks_per_row

abbrev has_no_res : Row → Bool
has_no_res r = eq_z r.res (pos 0)

-- ---- lists of rows
all_more : {A : Type 0} (p q : A → Bool) (xs : List A) → ((x : A) → T (p x) → T (q x)) → T (all p xs) → T (all q xs)
all_more p q [] h t = tt
all_more p q (x ∷ xs) h t = and_i (q x) (all q xs) (h x (and_l (p x) (all p xs) t)) (all_more p q xs h (and_r (p x) (all p xs) t))

-- the parts of rows end to end are as long as the parts together
length-joined : {A : Type 0} (part : Row → List A) (w : ℕ) (rows : List Row) → T (all (λ (r : Row). eqb (length (part r)) w) rows) → length (joined part rows) ≡ w * length rows
length-joined part w [] t = omega arith
length-joined part w (r ∷ rs) t = search (arith, length-append, length-joined part w rs (and_r (eqb (length (part r)) w) _ t))

-- rows that are written and read back; the residuals are written if `given`, and else each is 0
listed : (given : Bool) (rows : List Row) → T (all has_props rows) → T (all has_toks rows) → (given ≡ false → T (all has_no_res rows))
    → rows_of (length rows) (props_of rows) (toks_of rows) (cond given (res_of rows) []) ≡ rows
listed given [] ps ts rs = refl
listed given (r ∷ rows) ps ts rs =
    let p = eqb→eq (length r.props) props_per_row (and_l (has_props r) (all has_props rows) ps) in
    let t = eqb→eq (length r.toks) toks_per_row (and_l (has_toks r) (all has_toks rows) ts) in
    rw (
      take_at r.props (props_of rows) props_per_row p,
      drop_at r.props (props_of rows) props_per_row p,
      take_at r.toks (toks_of rows) toks_per_row t,
      drop_at r.toks (toks_of rows) toks_per_row t,
      first given rs,
      others given,
    )
    (ap (λ (l : List Row). r ∷ l) (listed given rows (and_r (has_props r) (all has_props rows) ps) (and_r (has_toks r) (all has_toks rows) ts) (λ e. and_r (has_no_res r) (all has_no_res rows) (rs e))))
  where
    first : (b : Bool) → (b ≡ false → T (all has_no_res (r ∷ rows))) → get_or (cond b (res_of (r ∷ rows)) []) 0 (pos 0) ≡ r.res
    first true f = refl
    first false f = sym (eq_z-eq r.res (pos 0) (and_l (has_no_res r) (all has_no_res rows) (f refl)))

    others : (b : Bool) → drop 1 (cond b (res_of (r ∷ rows)) []) ≡ cond b (res_of rows) []
    others true = refl
    others false = refl

-- ---- the rows of even lists
rows-wide : (n : ℕ) (ps : List ℤ) (ts : List ℕ) (rs : List ℤ) → props_per_row * n ≤ length ps → toks_per_row * n ≤ length ts → T (all has_props (rows_of n ps ts rs)) × T (all has_toks (rows_of n ps ts rs))
rows-wide zero ps ts rs h k = (tt, tt)
rows-wide (suc n) ps ts rs h k =
    let p = length-take-le props_per_row ps (omega arith) in
    let t = length-take-le toks_per_row ts (omega arith) in
    let further = rows-wide n (drop props_per_row ps) (drop toks_per_row ts) (drop 1 rs) (omega (arith, length-drop props_per_row ps)) (omega (arith, length-drop toks_per_row ts)) in
    rw (p, t) further

rows-bare : (n : ℕ) (ps : List ℤ) (ts : List ℕ) → T (all has_no_res (rows_of n ps ts []))
rows-bare zero ps ts = tt
rows-bare (suc n) ps ts = rows-bare n (drop props_per_row ps) (drop toks_per_row ts)

pub length-rows_in : {M : Meter} (x : Lent M) → length (rows_in x) ≡ row_count x
length-rows_in x = length_rows_of (row_count x) x.props x.toks x.res

module _ {M : Meter} (x : Lent M) (even : Even x) where
  wide : T (all has_props (rows_in x)) × T (all has_toks (rows_in x))
  wide = rows-wide (row_count x) x.props x.toks x.res (omega (arith, even.props)) (omega (arith, even.toks))

  -- each row handed in has 24 properties, and 14 tokens
  pub rows_in-props : T (all has_props (rows_in x))
  rows_in-props = wide.0

  rows_in-toks : T (all has_toks (rows_in x))
  rows_in-toks = wide.1

  pub rows_in-tokens : T (all has_tokens (rows_in x))
  rows_in-tokens = search (arith, all_more, rows_in-toks)

  rows_in-bare : has_residuals x ≡ false → T (all has_no_res (rows_in x))
  rows_in-bare e = search (arith, rows-bare)

  -- ---- the lists at exit, if the result kept the rows
  module _ (uses : Bool) (most : ℕ) (r : Result M) (kept : ResultKept uses (rows_in x) most r) where
    still_props : T (all has_props r.rows)
    still_props = kept.formed has_props (λ z w. refl) rows_in-props

    still_toks : T (all has_toks r.rows)
    still_toks = kept.formed has_toks (λ z w. ap (λ (n : ℕ). eqb n toks_per_row) (length-set w.toks 0 z)) rows_in-toks

    length-props : length (props_of r.rows) ≡ props_per_row * length r.rows
    length-props = length-joined (λ (w : Row). w.props) props_per_row r.rows still_props

    as_many : length r.rows ≡ row_count x
    as_many = kept.counted ∙ length-rows_in x

    pub exit_rows : rows_in (lent_after r x) ≡ r.rows
    unfolding lent_after
    exit_rows =
        let n : length (props_of r.rows) / props_per_row ≡ length r.rows = omega (arith, length-props) in
        rw n (listed (has_residuals x) r.rows still_props still_toks (λ e. kept.formed has_no_res (λ z w. refl) (rows_in-bare e)))

    -- each row list is as long as at entry
    pub exit_props : length (lent_after r x).props ≡ length x.props
    unfolding lent_after
    exit_props = omega (arith, length-props, as_many, even.props)

    pub exit_toks : length (lent_after r x).toks ≡ length x.toks
    unfolding lent_after
    exit_toks = omega (arith, length-joined (λ (w : Row). w.toks) toks_per_row r.rows still_toks, as_many, even.toks)

    pub exit_res : length (lent_after r x).res ≡ length x.res
    unfolding lent_after
    exit_res = search (arith, length-map, as_many)
