-- A tree as JPEG XL symbols (document 02, c and d; the Rust's `emit_learned_tree`): its nodes breadth first, each with its symbols as the standard has them, and the tree that a list of symbols gives.
-- Assumes nothing.
use Rattle.std.specs.Prelude.{ℕ, zero, suc, ◌+◌, Bool, cond, ◌&&◌, List, [], ◌∷◌, ◌++◌, map, length, get_or, ℤ, eqb, ltb}
use Rattle.std.proofs.Math.Option.{Option, none, some}
use Rattle.model.specs.Meter.{Meter}
use Rattle.model.specs.Settings.{props_per_row, toks_per_row, max_nodes}
use Rattle.model.specs.Standard.{unpack_signed, split_val_context, property_context, predictor_context, offset_context, multiplier_log_context, multiplier_bits_context}
use Rattle.model.specs.Standard.{decision_symbols, leaf_symbols}
use Rattle.model.specs.Pack.{packed}
use Rattle.model.specs.Tree.{Node, split, leaf, Info, Record, no_info, blank_record, nodes_of}
use Rattle.model.specs.Grow.{record_of}
use Rattle.model.specs.Prune.{renumbered}
use Rattle.model.specs.Deepen.{rowless}
use Rattle.model.specs.Contexts.{breadth_order}
use Rattle.model.specs.declared.Symbol.{Symbol}

module _ {M : Meter} where
  -- ---- the writer
  abbrev pub symbols_for : Node → Info M → List Symbol
  symbols_for (split prop val gt le) i = decision_symbols prop (packed val)
  symbols_for leaf i = leaf_symbols i.pred (packed i.offset) 0 0

  abbrev pub record_symbols : Record M → List Symbol
  record_symbols r = symbols_for r.node r.info

  -- those of the nodes in an order, end to end
  unfoldable pub symbols_along : List (Record M) → List ℕ → List Symbol
  symbols_along rs [] = []
  symbols_along rs (i ∷ order) = record_symbols (get_or rs i blank_record) ++ symbols_along rs order

  unfoldable pub symbols_of : List (Record M) → List Symbol
  symbols_of rs = symbols_along rs (breadth_order (nodes_of rs))

  -- ---- the tree renumbered: a node's new number is its place in the order, its record a rowless seed's; its depth stays
  abbrev pub rowless_record : Node → Info M → ℕ → Record M
  rowless_record n i depth = record_of (rowless n i depth)

  abbrev pub renumbered_record : List ℕ → Record M → Record M
  renumbered_record order r = rowless_record (renumbered order r.node) r.info r.depth

  unfoldable pub renumbered_tree : List ℕ → List (Record M) → List (Record M)
  renumbered_tree order rs = map (λ (i : ℕ). renumbered_record order (get_or rs i blank_record)) order

  -- breadth first
  unfoldable pub breadth_tree : List (Record M) → List (Record M)
  breadth_tree rs = renumbered_tree (breadth_order (nodes_of rs)) rs

-- ---- the reader
-- the node with which a list begins, and the symbols behind it: a split's property and value, a leaf's predictor and offset. Anything outside the rules is no node
pub data FirstNode : Type 0 where
  no_node : FirstNode
  first_split : ℕ → ℤ → List Symbol → FirstNode
  first_leaf : ℕ → ℤ → List Symbol → FirstNode

abbrev pub is_in : ℕ → Symbol → Bool
is_in context s = eqb s.context context

-- a multiplier of 1 has 0 for both
abbrev pub is_zero_in : ℕ → Symbol → Bool
is_zero_in context s = is_in context s && eqb s.value 0

-- behind a property's symbol: a value
abbrev pub split_from : ℕ → List Symbol → FirstNode
split_from prop [] = no_node
split_from prop (v ∷ rest) = cond (ltb prop props_per_row && is_in split_val_context v) (first_split prop (unpack_signed v.value) rest) no_node

abbrev pub is_leaf_rest : Symbol → Symbol → Symbol → Symbol → Bool
is_leaf_rest p o l b =
    (is_in predictor_context p && ltb p.value toks_per_row)
    && (is_in offset_context o && (is_zero_in multiplier_log_context l && is_zero_in multiplier_bits_context b))

-- behind the 0 of a leaf: predictor, offset, and the multiplier's two symbols
abbrev pub leaf_from : List Symbol → FirstNode
leaf_from [] = no_node
leaf_from (p ∷ []) = no_node
leaf_from (p ∷ o ∷ []) = no_node
leaf_from (p ∷ o ∷ l ∷ []) = no_node
leaf_from (p ∷ o ∷ l ∷ b ∷ rest) = cond (is_leaf_rest p o l b) (first_leaf p.value (unpack_signed o.value) rest) no_node

-- property + 1, or 0 for a leaf
abbrev pub node_from : ℕ → List Symbol → FirstNode
node_from zero rest = leaf_from rest
node_from (suc prop) rest = split_from prop rest

abbrev pub first_node : List Symbol → FirstNode
first_node [] = no_node
first_node (s ∷ rest) = cond (is_in property_context s) (node_from s.value rest) no_node

-- a split's children come behind all nodes that are due, one deeper than it
abbrev pub with_children : ℕ → List ℕ → List ℕ
with_children depth due = due ++ (suc depth ∷ suc depth ∷ [])

module _ {M : Meter} where
  abbrev pub with_first : Record M → Option (List (Record M)) → Option (List (Record M))
  with_first r none = none
  with_first r (some rs) = some (r ∷ rs)

  -- the end: no node is due, and no symbol is left over
  abbrev pub at_end : List ℕ → List Symbol → Option (List (Record M))
  at_end [] [] = some []
  at_end [] (s ∷ rest) = none
  at_end (depth ∷ due) xs = none

  -- `size` nodes were read, this one lies at `depth`, and those due after it at the depths of `due`
  -- (the reference decoder numbers a split's children size + to_decode + 1 and + 2)
  abbrev pub read_on : (List ℕ → List Symbol → Option (List (Record M))) → ℕ → ℕ → List ℕ → FirstNode → Option (List (Record M))
  read_on go size depth due no_node = none
  read_on go size depth due (first_split prop val rest) =
      with_first (rowless_record (split prop val (size + length due + 1) (size + length due + 2)) no_info depth) (go (with_children depth due) rest)
  read_on go size depth due (first_leaf pred offset rest) =
      with_first (rowless_record leaf (record { cost = M.nought; pred = pred; offset = offset }) depth) (go due rest)

  -- the nodes due, if there are any
  abbrev pub read_due : (List ℕ → List Symbol → Option (List (Record M))) → ℕ → List ℕ → List Symbol → Option (List (Record M))
  read_due go size [] xs = at_end [] xs
  read_due go size (depth ∷ due) xs = read_on go size depth due (first_node xs)

  -- `size` nodes were read, nodes at these depths are due, and at most `most` nodes may come
  unfoldable pub nodes_read : ℕ → ℕ → List ℕ → List Symbol → Option (List (Record M))
  nodes_read zero size due xs = at_end due xs
  nodes_read (suc most) size due xs = read_due (λ (d : List ℕ) (rest : List Symbol). nodes_read most (suc size) d rest) size due xs

  -- the tree that a list of symbols is, if it is one of at most 8,191 nodes, with nothing left over; its root lies at depth 0
  unfoldable pub tree_read : List Symbol → Option (List (Record M))
  tree_read xs = nodes_read max_nodes 0 (0 ∷ []) xs
