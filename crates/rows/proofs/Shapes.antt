-- Sizes, shapes and loans of the flat lists, carried from one step to the next. Assumes nothing.
use mathlib.Core.Path.{◌≡◌, refl, ap, ◌∙◌}
use mathlib.Core.Bool.{not}
use mathlib.Core.List.{List, [], ◌∷◌}
use Prim.Native.Nat.{ℕ, ◌/◌}
use native.Mathlib.Omega.{arith}
use lib.ListN.{length}
use lib.IntN.{ℤ}
use Rattle.model.specs.Lists.{is_empty}
use Rattle.rows.specs.Flat.{Flat, flat, row_count, has_residuals, Shaped, SameSize}
use Rattle.rows.specs.Lent.{flat_with, SameRowsLent, SameTokensLent}
use Rattle.rows.specs.declared.Rows.{Rows}
use Rattle.rows.specs.declared.RowTokens.{RowTokens}

pub lent-then : {x y z : Rows} → SameRowsLent x y → SameRowsLent y z → SameRowsLent x z
lent-then a b = record { props = b.props ∙ a.props; tok = b.tok ∙ a.tok; res = b.res ∙ a.res }

pub tokens-then : {x y z : RowTokens} → SameTokensLent x y → SameTokensLent y z → SameTokensLent x z
tokens-then a b = record { props = b.props ∙ a.props; tok = b.tok ∙ a.tok; res = b.res ∙ a.res }

-- what the caller's lists hold then
pub given-back : {x y : RowTokens} {toks : List ℕ} → SameTokensLent x y → toks ≡ y.tok.now → flat_with y ≡ flat x.props.now toks x.res.now
given-back {x} {y} s e = rw (e, s.props, s.res)

pub size_same : (x : Flat) → SameSize x x
size_same x = record { props = refl; toks = refl; res = refl }

pub size-then : {x y z : Flat} → SameSize x y → SameSize y z → SameSize x z
size-then a b = record { props = b.props ∙ a.props; toks = b.toks ∙ a.toks; res = b.res ∙ a.res }

pub count_still : {x y : Flat} → SameSize x y → row_count y ≡ row_count x
count_still c = ap (λ (k : ℕ). k / 24) c.props

-- residuals are given as before
pub residuals_still : {x y : Flat} → SameSize x y → has_residuals y ≡ has_residuals x
residuals_still {x} {y} c = go y.res x.res c.res
  where
    go : (l k : List ℤ) → length l ≡ length k → not (is_empty l) ≡ not (is_empty k)
    go [] [] e = refl
    go [] (b ∷ k) e = absurd (omega arith)
    go (a ∷ l) [] e = absurd (omega arith)
    go (a ∷ l) (b ∷ k) e = refl

pub shaped_still : {x y : Flat} → SameSize x y → Shaped x → Shaped y
shaped_still {x} {y} c s =
    let n : row_count y ≡ row_count x = count_still c in
    record { props = omega arith; toks = omega arith; res = λ some. omega (arith, s.res (omega arith)) }
