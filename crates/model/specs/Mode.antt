-- The mode of a span's residuals, and the tokens of the zero predictor that follow from it (document 01, "Mode"; the Rust's `rebase_zero`).
-- Assumes nothing.
use Rattle.std.specs.Prelude.{ℕ, zero, suc, min, Bool, true, false, cond, List, [], ◌∷◌, map, ℤ, pos, ◌-ℤ◌, nat_abs, ltb}
use Rattle.std.proofs.Math.IntN.{suc_ℤ}
use Rattle.std.specs.Int.Signed.{lt_z}
use Rattle.model.specs.Lists.{count_if, eq_z}
use Rattle.model.specs.Pack.{packed}
use Rattle.model.specs.Token.{token_of}
use Rattle.model.specs.Rows.{Row, res_of, with_zero}

-- the lowest of v and the values
unfoldable pub lowest : ℤ → List ℤ → ℤ
lowest v [] = v
lowest v (w ∷ ws) = lowest (cond (lt_z w v) w v) ws

unfoldable pub highest : ℤ → List ℤ → ℤ
highest v [] = v
highest v (w ∷ ws) = highest (cond (lt_z v w) w v) ws

-- Of best, which occurs most times, and the values v, v + 1, .., width of them: the one that occurs oftenest in rs, the first at a tie
unfoldable pub oftenest : List ℤ → ℕ → ℤ → ℤ → ℕ → ℤ
oftenest rs zero v best most = best
oftenest rs (suc width) v best most =
    let n = count_if (eq_z v) rs in
    let b = ltb most n in
    oftenest rs width (suc_ℤ v) (cond b v best) (cond b n most)

-- highest - lowest + 1
unfoldable pub width : ℤ → List ℤ → ℕ
width r rs = suc (nat_abs (highest r rs -ℤ lowest r rs))

-- 0 where the residuals spread over more than 4,096 values, else the commonest, the smallest at a tie; no rows: 0
unfoldable pub mode : List ℤ → ℤ
mode [] = pos 0
mode (r ∷ rs) = elim (ltb 4096 (width r rs)) [ true ↦ pos 0 | false ↦ oftenest (r ∷ rs) (width r rs) (lowest r rs) (lowest r rs) 0 ]

-- the token of packed (residual - mode), at most 255
unfoldable pub zero_token : ℤ → ℤ → ℕ
zero_token m v = min (token_of (packed (v -ℤ m))) 255

unfoldable pub rebased : ℤ → List Row → List Row
rebased m = map (λ (r : Row). with_zero (zero_token m r.res) r)

-- The mode step on a span's rows. `uses` says whether residuals are given and modal offsets on: without, nothing changes and the mode is 0
unfoldable pub span_mode : Bool → List Row → ℤ
span_mode uses rows = cond uses (mode (res_of rows)) (pos 0)

unfoldable pub fresh : Bool → List Row → List Row
fresh uses rows = cond uses (rebased (span_mode uses rows) rows) rows
