-- Offsets and thresholds are values of the rows, so they fit 32 bits as these do: a mode is 0 or one of the residuals, an offered threshold is a property
-- of some row. Assumes nothing.
use mathlib.Core.Path.{◌≡◌, refl, sym, subst}
use mathlib.Core.Logic.{◌⊎◌, inl, inr}
use Prim.Native.Nat.{ℕ, zero, suc, ◌+◌, ◌-◌, ◌*◌, ◌/◌, ◌^◌, ◌≤◌, ◌<◌}
use native.Mathlib.Nat.{not-suc-le-zero}
use native.Mathlib.Omega.{arith}
use mathlib.Core.Bool.{Bool, true, false, cond}
use mathlib.Core.List.Memᴰ
use mathlib.Core.List.{List, [], ◌∷◌, map, Memᴰ}
use mathlib.Core.Option.{some}
use lib.ListN.{length, get_or}
use lib.IntN.{ℤ, pos, suc_ℤ}
use lib.Signed.{lt_z, mag}
use lib.Dec.{T, ltb, ltb→lt, lit<}
use Rattle.model.specs.Lists.{range, count_if, eq_z}
use Rattle.model.specs.Meter.{Meter}
use Rattle.model.specs.Settings.{Settings}
use Rattle.model.specs.Rows.{Row, prop_of, res_of}
use Rattle.model.specs.Mode.{lowest, oftenest, width, mode, span_mode}
use Rattle.model.specs.Candidates.{every, insert, distinct, quantiles, candidates_of}
use Rattle.model.specs.Evaluate.{plan_of, info_of, offered}
use Rattle.model.specs.Job.{Offer}
use Rattle.model.proofs.InRange.{IsOffer, offered-is}
use Rattle.model.proofs.Tests.{eq_z-eq}

-- from -2 ^ 31 to 2 ^ 31 - 1: `mag` of a negative number is one less than its size
abbrev pub Fits32 : ℤ → Type 0
Fits32 v = mag v < 2 ^ 31

-- ---- modes
-- what is counted is there
counted : (v : ℤ) (rs : List ℤ) → 0 < count_if (eq_z v) rs → Memᴰ v rs
counted v [] h = absurd (not-suc-le-zero h)
counted v (r ∷ rs) h = go (eq_z v r) (eq_z-eq v r) (counted v rs) h
  where
    go : (b : Bool) → (T b → v ≡ r) → (0 < count_if (eq_z v) rs → Memᴰ v rs) → 0 < cond b 1 0 + count_if (eq_z v) rs → Memᴰ v (r ∷ rs)
    go true e ih k = Memᴰ.head (e tt)
    go false e ih k = Memᴰ.tail (ih (omega arith))

lowest-is : (v : ℤ) (ws : List ℤ) → Memᴰ (lowest v ws) (v ∷ ws)
unfolding lowest
lowest-is v [] = Memᴰ.head refl
lowest-is v (w ∷ ws) = go (lt_z w v) (lowest-is (cond (lt_z w v) w v) ws)
  where
    go : (b : Bool) → Memᴰ (lowest (cond b w v) ws) (cond b w v ∷ ws) → Memᴰ (lowest (cond b w v) ws) (v ∷ w ∷ ws)
    go true m = Memᴰ.tail m
    go false m = elim (Memᴰ.cases_cons m) [ inl e ↦ Memᴰ.head e | inr k ↦ Memᴰ.tail (Memᴰ.tail k) ]

oftenest-is : (rs : List ℤ) (width : ℕ) (v best : ℤ) (most : ℕ) → Memᴰ best rs → Memᴰ (oftenest rs width v best most) rs
unfolding oftenest
oftenest-is rs zero v best most m = m
oftenest-is rs (suc width) v best most m =
    let n = count_if (eq_z v) rs in
    oftenest-is rs width (suc_ℤ v) (cond (ltb most n) v best) (cond (ltb most n) n most) (go (ltb most n) (ltb→lt most n))
  where
    go : (b : Bool) → (T b → most < count_if (eq_z v) rs) → Memᴰ (cond b v best) rs
    go true h = let k = h tt in counted v rs (omega arith)
    go false h = m

pub mode-is : (rs : List ℤ) → (mode rs ≡ pos 0) ⊎ Memᴰ (mode rs) rs
unfolding mode
mode-is [] = inl refl
mode-is (r ∷ rs) = search (arith, oftenest-is, lowest-is)

-- ---- candidates
every-is : {v : ℤ} (step skip : ℕ) (xs : List ℤ) → Memᴰ v (every step skip xs) → Memᴰ v xs
unfolding every
every-is step skip [] m = m
every-is step zero (x ∷ xs) m = elim (Memᴰ.cases_cons m) [ inl e ↦ Memᴰ.head e | inr k ↦ Memᴰ.tail (every-is step (step - 1) xs k) ]
every-is step (suc skip) (x ∷ xs) m = Memᴰ.tail (every-is step skip xs m)

insert-is : {x : ℤ} (v : ℤ) (ws : List ℤ) → Memᴰ x (insert v ws) → Memᴰ x (v ∷ ws)
unfolding insert
insert-is v [] m = m
insert-is {x} v (w ∷ ws) m = go (lt_z v w) (eq_z v w) (insert-is v ws) m
  where
    later : Memᴰ x (v ∷ ws) → Memᴰ x (v ∷ w ∷ ws)
    later k = elim (Memᴰ.cases_cons k) [ inl e ↦ Memᴰ.head e | inr l ↦ Memᴰ.tail (Memᴰ.tail l) ]

    go : (a b : Bool) → (Memᴰ x (insert v ws) → Memᴰ x (v ∷ ws)) → Memᴰ x (cond a (v ∷ w ∷ ws) (cond b (w ∷ ws) (w ∷ insert v ws))) → Memᴰ x (v ∷ w ∷ ws)
    go true b ih k = k
    go false true ih k = Memᴰ.tail k
    go false false ih k = elim (Memᴰ.cases_cons k) [ inl e ↦ Memᴰ.tail (Memᴰ.head e) | inr l ↦ later (ih l) ]

distinct-is : {x : ℤ} (vs : List ℤ) → Memᴰ x (distinct vs) → Memᴰ x vs
unfolding distinct
distinct-is [] m = m
distinct-is (v ∷ vs) m = elim (Memᴰ.cases_cons (insert-is v (distinct vs) m)) [ inl e ↦ Memᴰ.head e | inr k ↦ Memᴰ.tail (distinct-is vs k) ]

get_d_is : (xs : List ℤ) (i : ℕ) (z : ℤ) → i < length xs → Memᴰ (get_or xs i z) xs
get_d_is [] i z h = absurd (not-suc-le-zero h)
get_d_is (x ∷ xs) zero z h = Memᴰ.head refl
get_d_is (x ∷ xs) (suc i) z h = Memᴰ.tail (get_d_is xs i z (omega arith))

range-below : {k : ℕ} (first count : ℕ) → Memᴰ k (range first count) → k < first + count
range-below first zero m = absurd (Memᴰ.not-nil m)
range-below first (suc count) m = elim (Memᴰ.cases_cons m) [ inl e ↦ omega arith | inr k ↦ omega (arith, range-below (suc first) count k) ]

quantile-lt : (k d n : ℕ) → k < n → k * d / n < suc d
quantile-lt k d n h = search arith

quantiles_are : {v : ℤ} (d n : ℕ) (vs : List ℤ) → n ≤ d → d ≡ length vs - 1 → Memᴰ v (quantiles d n vs) → Memᴰ v vs
unfolding quantiles
quantiles_are d n vs h e m =
    let f = Memᴰ.of_map (λ (k : ℕ). get_or vs (k * d / n) (pos 0)) (range 0 n) m in
    let k = f.0 in
    let l : k < 0 + n = range-below 0 n f.1 in
    let q = quantile-lt k d n (omega arith) in
    Memᴰ.cast (sym f.2) (get_d_is vs (k * d / n) (pos 0) (omega arith))

pub candidate-is : {v : ℤ} (most : ℕ) (column : List ℤ) → Memᴰ v (candidates_of most column) → Memᴰ v column
unfolding candidates_of
candidate-is most column m = search (arith, every-is, distinct-is, quantiles_are)

-- ---- what stands beside a node, and what it offers
module _ {M : Meter} (t : Settings M) (logs : List M.Cost) where
  -- a leaf over the rows, whose mode is that of the rows `given`
  pub offset-is : (uses : Bool) (given rows : List Row) → ((info_of t logs (span_mode uses given) rows).offset ≡ pos 0) ⊎ Memᴰ (info_of t logs (span_mode uses given) rows).offset (res_of given)
  unfolding info_of span_mode
  offset-is uses given rows = search (arith, mode-is)

  pub offset-fits : (uses : Bool) (given rows : List Row) → ((r : Row) → Memᴰ r given → Fits32 r.res) → Fits32 (info_of t logs (span_mode uses given) rows).offset
  offset-fits uses given rows fit = elim (offset-is uses given rows) [
    | inl e ↦ subst Fits32 (sym e) (lit< tt)
    | inr m ↦ let r = Memᴰ.of_map (λ (r : Row). r.res) given m in subst Fits32 r.2 (fit r.0 r.1)
  ]

  -- the threshold of an offer is the property of a row
  pub threshold-is : (depth : ℕ) (cost : M.Cost) (rows : List Row) (o : Offer M) → offered t logs depth cost rows ≡ some o → (r : Row) × Memᴰ r rows × (prop_of r o.prop ≡ o.val)
  unfolding plan_of
  threshold-is depth cost rows o e =
      let f = subst (IsOffer t logs rows cost) e (offered-is t logs rows depth cost) in
      Memᴰ.of_map (λ (r : Row). prop_of r o.prop) rows (candidate-is t.candidates (map (λ (r : Row). prop_of r o.prop) rows) f.scored.candidate)

  pub threshold-fits : (depth : ℕ) (cost : M.Cost) (rows : List Row) (o : Offer M) → ((r : Row) → Memᴰ r rows → Fits32 (prop_of r o.prop)) → offered t logs depth cost rows ≡ some o → Fits32 o.val
  threshold-fits depth cost rows o fit e = let r = threshold-is depth cost rows o e in subst Fits32 r.2 (fit r.0 r.1)
