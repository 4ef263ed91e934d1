-- What a list of symbols begins with: a leaf, its first five symbols, or a split, its first two; or no node. Assumes nothing.
use mathlib.Core.Path.{◌≡◌, refl}
use Prim.Native.Nat.{ℕ, zero, suc, ◌≤◌}
use native.Mathlib.Omega.{arith}
use mathlib.Core.Bool.{Bool, true, false, cond, ◌&&◌}
use mathlib.Core.List.{List, [], ◌∷◌}
use lib.ListN.{length, drop}
use lib.IntN.{ℤ}
use lib.Dec.{ltb}
use Rattle.model.specs.Symbols.{FirstNode, no_node, first_split, first_leaf, first_node, node_from, leaf_from, split_from, is_in, is_leaf_rest}
use Rattle.model.specs.Standard.{unpack_signed, property_context, split_val_context}
use Rattle.model.specs.Settings.{props_per_row}
use Rattle.model.specs.declared.Symbol.{Symbol}
use Rattle.symbol_reader.specs.Nodes.{is_leaf, is_split}

-- what a list begins with, and how many symbols that is
pub data Begins (xs : List Symbol) : FirstNode → Type 0 where
  nothing : Begins xs no_node
  a_leaf : (pred : ℕ) (offset : ℤ) → 5 ≤ length xs → Begins xs (first_leaf pred offset (drop 5 xs))
  a_split : (prop : ℕ) (val : ℤ) → 2 ≤ length xs → Begins xs (first_split prop val (drop 2 xs))

-- behind the 0 of a leaf, and behind a split's property
begins_leaf : (s : Symbol) (rest : List Symbol) → Begins (s ∷ rest) (leaf_from rest)
begins_leaf s [] = nothing
begins_leaf s (p ∷ []) = nothing
begins_leaf s (p ∷ o ∷ []) = nothing
begins_leaf s (p ∷ o ∷ l ∷ []) = nothing
begins_leaf s (p ∷ o ∷ l ∷ b ∷ rest) = on (is_leaf_rest p o l b)
  where
    on : (t : Bool) → Begins (s ∷ p ∷ o ∷ l ∷ b ∷ rest) (cond t (first_leaf p.value (unpack_signed o.value) rest) no_node)
    on false = nothing
    on true = a_leaf p.value (unpack_signed o.value) (omega arith)

begins_split : (s : Symbol) (prop : ℕ) (rest : List Symbol) → Begins (s ∷ rest) (split_from prop rest)
begins_split s prop [] = nothing
begins_split s prop (v ∷ rest) = on (ltb prop props_per_row && is_in split_val_context v)
  where
    on : (t : Bool) → Begins (s ∷ v ∷ rest) (cond t (first_split prop (unpack_signed v.value) rest) no_node)
    on false = nothing
    on true = a_split prop (unpack_signed v.value) (omega arith)

-- each list begins so
pub begins : (xs : List Symbol) → Begins xs (first_node xs)
begins [] = nothing
begins (s ∷ rest) = on (is_in property_context s)
  where
    at : (v : ℕ) → Begins (s ∷ rest) (node_from v rest)
    at zero = begins_leaf s rest
    at (suc prop) = begins_split s prop rest

    on : (b : Bool) → Begins (s ∷ rest) (cond b (node_from s.value rest) no_node)
    on false = nothing
    on true = at s.value

-- no split is a leaf
pub split_leafless : (f : FirstNode) → is_split f ≡ true → is_leaf f ≡ false
split_leafless no_node t = refl
split_leafless (first_leaf pred offset tail) t = absurd (cc)
split_leafless (first_split prop val tail) t = refl

-- a leaf is five symbols
pub leaf_long : (xs : List Symbol) → is_leaf (first_node xs) ≡ true → 5 ≤ length xs
leaf_long xs t = go (first_node xs) (begins xs) t
  where
    go : (f : FirstNode) → Begins xs f → is_leaf f ≡ true → 5 ≤ length xs
    go f nothing t = absurd (cc)
    go f (a_leaf pred offset long) t = long
    go f (a_split prop val long) t = absurd (cc)
