-- Trees: nodes with what stands beside them, lookup, and which node lists are sound (document 01, "Which number comes back", Deepen and Lookup; document 02, d).
-- Assumes nothing.
use Rattle.std.specs.Prelude.{ℕ, zero, suc, Bool, true, false, cond, not, ◌&&◌, ◌||◌, List, [], ◌∷◌, ◌++◌, map, length, get_or, ℤ, pos, eqb, ltb}
use Rattle.std.proofs.Math.Option.{Option, none, some}
use Rattle.std.specs.Int.Signed.{lt_z}
use Rattle.model.specs.Lists.{count_if, all}
use Rattle.model.specs.Meter.{Meter}
use Rattle.model.specs.Settings.{props_per_row, toks_per_row, max_nodes}

-- a split on a property at a value, with its children gt and le; or a leaf
pub data Node : Type 0 where
  split : ℕ → ℤ → ℕ → ℕ → Node
  leaf : Node

abbrev pub is_leaf : Node → Bool
is_leaf (split prop val gt le) = false
is_leaf leaf = true

-- what `from` gives at the children of a split, gt before le
abbrev pub below : (ℕ → List ℕ) → Node → List ℕ
below from (split prop val gt le) = from gt ++ from le
below from leaf = []

-- what stands beside a node: its cost in bits, its predictor and its offset. A leaf's predictor and offset are those
pub record Info (M : Meter) : Type 0 where
  pub cost : M.Cost
  pub pred : ℕ
  pub offset : ℤ

-- an entry of the lent node list: a node, what stands beside it, and its depth
pub record Record (M : Meter) : Type 0 where
  pub node : Node
  pub info : Info M
  pub depth : ℕ

module _ {M : Meter} where
  -- predictor 0, offset 0, cost 0
  abbrev pub no_info : Info M
  no_info = record { cost = M.nought; pred = 0; offset = pos 0 }

  -- what a vacated entry holds
  abbrev pub blank_record : Record M
  blank_record = record { node = leaf; info = no_info; depth = 0 }

  abbrev pub nodes_of : List (Record M) → List Node
  nodes_of = map (λ (r : Record M). r.node)

-- ---- lookup
-- one step down from a split: a property above the value leads to gt, else to le
abbrev pub towards : List ℤ → ℕ → ℤ → ℕ → ℕ → ℕ
towards ps prop val gt le = cond (lt_z val (get_or ps prop (pos 0))) gt le

-- what `go` gives at the child that a split leads to, and `here` at a leaf
abbrev pub follow {ℓ} : {A : Type ℓ} → List ℤ → A → (ℕ → A) → Node → A
follow ps here go (split prop val gt le) = go (towards ps prop val gt le)
follow ps here go leaf = here

-- the number of the leaf reached from node i, in at most `fuel` steps
unfoldable pub reach : ℕ → List Node → List ℤ → ℕ → ℕ
reach zero nodes ps i = i
reach (suc fuel) nodes ps i = follow ps i (λ (c : ℕ). reach fuel nodes ps c) (get_or nodes i leaf)

-- from node 0
unfoldable pub leaf_reached : List Node → List ℤ → ℕ
leaf_reached nodes ps = reach (length nodes) nodes ps 0

-- ---- soundness
-- a node whose own fields are in range; `count` is the number of nodes, `pred` the predictor beside it
abbrev pub is_orderly : ℕ → ℕ → ℕ → Node → Bool
is_orderly count i pred (split prop val gt le) = ltb prop props_per_row && (ltb i gt && ltb i le && (ltb gt count && ltb le count))
is_orderly count i pred leaf = ltb pred toks_per_row

abbrev pub has_child : ℕ → Node → Bool
has_child i (split prop val gt le) = eqb gt i || eqb le i
has_child i leaf = false

abbrev pub has_two_children : Node → Bool
has_two_children (split prop val gt le) = not (eqb gt le)
has_two_children leaf = true

-- node 0, or the child of exactly one split
abbrev pub has_one_parent : List Node → ℕ → Bool
has_one_parent nodes i = eqb i 0 || eqb (count_if (has_child i) nodes) 1

module _ {M : Meter} where
  -- the depth stored at node i: 0 at node 0, else one more than that stored at each split that it is a child of, wherever this stands; a node that is not at fault has one such split
  abbrev pub has_depth : List (Record M) → ℕ → ℕ → Bool
  has_depth tree i depth = cond (eqb i 0) (eqb depth 0) (all (λ (r : Record M). not (has_child i r.node) || eqb depth (suc r.depth)) tree)

  abbrev pub is_fine : List (Record M) → ℕ → Record M → Bool
  is_fine tree i r =
      is_orderly (length tree) i r.info.pred r.node && (has_two_children r.node && (has_one_parent (nodes_of tree) i && has_depth tree i r.depth))

  -- the lowest node of `tree` from node i on that is at fault
  unfoldable pub fault_from : List (Record M) → ℕ → List (Record M) → Option ℕ
  fault_from tree i [] = none
  fault_from tree i (r ∷ rs) = let further = fault_from tree (suc i) rs in cond (is_fine tree i r) further (some i)

  -- none for a sound tree, or the node to name: 0 for a wrong count
  unfoldable pub fault_of : List (Record M) → Option ℕ
  fault_of rs = cond (eqb (length rs) 0 || ltb max_nodes (length rs)) (some 0) (fault_from rs 0 rs)

  -- The node to name of those met on the way from node i; none if a leaf is reached and all are in order. Stored depths are not looked at
  unfoldable pub fault_on_way : ℕ → List (Record M) → List ℤ → ℕ → Option ℕ
  fault_on_way zero rs ps i = some i
  fault_on_way (suc fuel) rs ps i =
      let r = get_or rs i blank_record in
      let onward = follow ps none (λ (c : ℕ). fault_on_way fuel rs ps c) r.node in
      cond (is_orderly (length rs) i r.info.pred r.node) onward (some i)
