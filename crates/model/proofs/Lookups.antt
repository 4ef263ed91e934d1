-- Lookup of 24 properties in a sound tree refuses nothing, and what an accepted lookup answers is a leaf of the list. Assumes nothing.
use mathlib.Core.Path.{◌≡◌, refl, sym}
use Prim.Native.Nat.{ℕ, zero, suc, ◌+◌, ◌≤◌, ◌<◌}
use native.Mathlib.Nat.{lt_irrefl}
use native.Mathlib.Omega.{arith}
use mathlib.Core.Bool.{true, cond}
use mathlib.Core.List.{List}
use mathlib.Core.Option.{none, some}
use lib.ListN.{length, get_or}
use lib.IntN.{ℤ}
use lib.Dec.{T, ltb, ltb→lt}
use Rattle.model.specs.Meter.{Meter}
use Rattle.model.specs.Settings.{props_per_row, toks_per_row}
use Rattle.model.specs.Tree.{Node, split, leaf, is_leaf, Record, blank_record, nodes_of, towards, follow, reach, leaf_reached, is_orderly, fault_of, fault_on_way}
use Rattle.model.specs.Lent.{Stored, tree_in}
use Rattle.model.specs.Refuse.{lookup_refusal}
use Rattle.model.specs.Operations.{accepted, Found, lookup}
use Rattle.model.specs.Family.{Forward}
use Rattle.model.proofs.Paths.{T→true, towards_in}
use Rattle.model.proofs.Invariant.{none_is_no_some}
use Rattle.model.proofs.Tests.{and_both, unnamed}
use Rattle.model.proofs.NodeEntries.{length-tree}
use Rattle.model.proofs.Sound.{same_length, node_at, sound, sound-count, orderly}

module _ {M : Meter} (rs : List (Record M)) (faultless : fault_of rs ≡ none) (ps : List ℤ) where
  abbrev nodes : List Node
  nodes = nodes_of rs

  -- no node on the way is at fault, and the way ends at a leaf before the fuel does
  way-clear : (fuel i : ℕ) → i < length rs → length rs ≤ i + fuel → fault_on_way fuel rs ps i ≡ none
  unfolding fault_on_way
  way-clear zero i h b = absurd (lt_irrefl i (omega arith))
  way-clear (suc fuel) i h b = rw in_order (go (get_or rs i blank_record).node children (way-clear fuel))
    where
      inside : i < length nodes
      inside = rw (same_length rs) h

      in_order : is_orderly (length rs) i (get_or rs i blank_record).info.pred (get_or rs i blank_record).node ≡ true
      in_order = T→true _ (rw (same_length rs, node_at rs i) at (orderly rs faultless i inside))

      children : Forward (length rs) i (get_or rs i blank_record).node
      children = rw (same_length rs, node_at rs i) at ((sound rs faultless).rooted.family.forward i inside)

      go : (m : Node) → Forward (length rs) i m → ((c : ℕ) → c < length rs → length rs ≤ c + fuel → fault_on_way fuel rs ps c ≡ none) → follow ps none (λ (c : ℕ). fault_on_way fuel rs ps c) m ≡ none
      go leaf f ih = refl
      go (split p v g l) f ih = let t = towards_in ps (length rs) i p v g l f in ih (towards ps p v g l) t.1 (omega arith)

-- ---- a way without fault ends at a leaf
module _ {M : Meter} (rs : List (Record M)) (ps : List ℤ) where
  -- a leaf of the list, with a predictor in range
  abbrev IsEnd : ℕ → Type 0
  IsEnd k = (k < length rs) × T (is_leaf (get_or rs k blank_record).node) × ((get_or rs k blank_record).info.pred < toks_per_row)

  orderly-way : (fuel i : ℕ) → i < length rs → fault_on_way fuel rs ps i ≡ none → IsEnd (reach fuel (nodes_of rs) ps i)
  unfolding fault_on_way reach
  orderly-way zero i h e = absurd (none_is_no_some i (sym e))
  orderly-way (suc fuel) i h e = rw (node_at rs i) (go (get_or rs i blank_record).node refl e (orderly-way fuel))
    where
      go : (m : Node) → (get_or rs i blank_record).node ≡ m → cond (is_orderly (length rs) i (get_or rs i blank_record).info.pred m) (follow ps none (λ (c : ℕ). fault_on_way fuel rs ps c) m) (some i) ≡ none
          → ((c : ℕ) → c < length rs → fault_on_way fuel rs ps c ≡ none → IsEnd (reach fuel (nodes_of rs) ps c))
          → IsEnd (follow ps i (λ (c : ℕ). reach fuel (nodes_of rs) ps c) m)
      go leaf q e ih = let u = unnamed (ltb (get_or rs i blank_record).info.pred toks_per_row) none i e in (h, rw q tt, ltb→lt _ _ u.0)
      go (split p v g l) q e ih =
          let u = unnamed (is_orderly (length rs) i 0 (split p v g l)) (fault_on_way fuel rs ps (towards ps p v g l)) i e in
          let o = simp and_both at u.0 in
          ih (towards ps p v g l) (towards_in ps (length rs) i p v g l (omega (arith, ltb→lt))).1 u.1

-- ---- the operation
-- what an accepted lookup answers: the leaf reached, which is one of the first `count` nodes, and its predictor
pub record FoundIn {M : Meter} (nodes : List (Stored M)) (count : ℕ) (ps : List ℤ) (f : Found) : Type 0 where
  pub reached : f.leaf ≡ leaf_reached (nodes_of (tree_in count nodes)) ps
  pub inside : f.leaf < count
  pub is_leaf : T (is_leaf (get_or (tree_in count nodes) f.leaf blank_record).node)
  pub pred : f.pred ≡ (get_or (tree_in count nodes) f.leaf blank_record).info.pred
  pub in_range : f.pred < toks_per_row

module _ {M : Meter} (nodes : List (Stored M)) (count : ℕ) (ps : List ℤ) where
  abbrev tree : List (Record M)
  tree = tree_in count nodes

  abbrev answer : Found
  answer = record { leaf = leaf_reached (nodes_of tree) ps; pred = (get_or tree (leaf_reached (nodes_of tree) ps) blank_record).info.pred }

  pub lookup-accepted : (f : Found) → lookup nodes count ps ≡ accepted f → FoundIn nodes count ps f
  unfolding lookup lookup_refusal leaf_reached
  lookup-accepted f e = search (arith, length-tree, same_length, orderly-way)

  -- in a sound tree at the front of the list no lookup of 24 properties is refused
  pub looked_up : count ≤ length nodes → fault_of tree ≡ none → length ps ≡ props_per_row → lookup nodes count ps ≡ accepted answer
  unfolding lookup lookup_refusal
  looked_up inside faultless w = search (arith, length-tree, sound-count, way-clear)
