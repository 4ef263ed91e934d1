-- The leaf that each row reaches, row by row. Assumes nothing.
use mathlib.Core.Path.{◌≡◌, refl, ap}
use Prim.Native.Nat.{ℕ, zero, suc, ◌+◌, ◌*◌}
use native.Mathlib.Omega.{arith}
use mathlib.Core.List.{List, ◌∷◌, map}
use lib.ListN.{take, drop}
use lib.Seq.{drop-drop}
use lib.IntN.{ℤ}
use Rattle.model.specs.Lists.{range}
use Rattle.model.specs.Settings.{props_per_row, toks_per_row}
use Rattle.model.specs.Rows.{Row, rows_of}
use Rattle.model.specs.Tree.{nodes_of, leaf_reached}
use Rattle.layout.specs.declared.MaNode.{MaNode}
use Rattle.tree.specs.Trees.{records_in}

-- the leaf that row k of the flat list reaches
abbrev pub row_leaf : List MaNode → List ℤ → ℕ → ℕ
row_leaf tree props k = leaf_reached (nodes_of (records_in tree)) (take props_per_row (drop (k * props_per_row) props))

-- what is made of the properties of n rows, from row `first` on
rows-from : {A : Type 0} (g : List ℤ → A) (n first : ℕ) (ps : List ℤ) (ts : List ℕ) (rs : List ℤ)
    → map (λ (k : ℕ). g (take props_per_row (drop (k * props_per_row) ps))) (range first n) ≡ map (λ (r : Row). g r.props) (rows_of n (drop (first * props_per_row) ps) ts rs)
rows-from g zero first ps ts rs = refl
rows-from {A} g (suc n) first ps ts rs =
    let e : suc first * props_per_row ≡ first * props_per_row + props_per_row = omega arith in
    ap (λ (l : List A). g (take props_per_row (drop (first * props_per_row) ps)) ∷ l)
    (rw (e, ← drop-drop props_per_row (first * props_per_row) ps) at (rows-from g n (suc first) ps (drop toks_per_row ts) (drop 1 rs)))

pub rows_each : {A : Type 0} (g : List ℤ → A) (n : ℕ) (ps : List ℤ) (ts : List ℕ) (rs : List ℤ)
    → map (λ (k : ℕ). g (take props_per_row (drop (k * props_per_row) ps))) (range 0 n) ≡ map (λ (r : Row). g r.props) (rows_of n ps ts rs)
rows_each g n ps ts rs = rows-from g n 0 ps ts rs
