-- A sound node list is an MA tree of the standard, and lookup finds the leaf that the standard finds. Assumes nothing.
use mathlib.Core.Path.{◌≡◌, refl, ◌∙◌, subst}
use Prim.Native.Nat.{ℕ, zero, suc, ◌+◌, ◌≤◌, ◌<◌}
use native.Mathlib.Nat.{lt_irrefl}
use native.Mathlib.Omega.{arith}
use mathlib.Core.Bool.{Bool, true, false, cond}
use mathlib.Core.List.{List}
use mathlib.Core.Option.{none}
use lib.ListN.{length, get_or}
use lib.IntN.{ℤ, pos}
use lib.Signed.{lt_z}
use Rattle.model.specs.Meter.{Meter}
use Rattle.model.specs.Settings.{props_per_row}
use Rattle.model.specs.Standard.{MaLeaf, MaTree, decision, leaf_node, leaf_for}
use Rattle.model.specs.Tree.{Node, split, leaf, Record, nodes_of, reach, leaf_reached, fault_of}
use Rattle.model.specs.Lent.{Stored, tree_in}
use Rattle.model.specs.Decoder.{Shows, shows-leaf, shows-decision, leaf_in, IsTree, FindsLeaf}
use Rattle.model.specs.Family.{Forward, AllForward}
use Rattle.model.proofs.Sound.{has_root, sound}
use Rattle.model.proofs.Lookups.{looked_up}

module _ (nodes : List Node) (forward : AllForward nodes) (leaf_at : ℕ → MaLeaf) where
  -- the tree at node i
  shown : (fuel i : ℕ) → i < length nodes → length nodes ≤ i + fuel → (t : MaTree) × Shows nodes leaf_at i t
  shown zero i h b = absurd (lt_irrefl i (omega arith))
  shown (suc fuel) i h b = go (get_or nodes i leaf) refl (forward i h) (shown fuel)
    where
      go : (m : Node) → get_or nodes i leaf ≡ m → Forward (length nodes) i m
          → ((c : ℕ) → c < length nodes → length nodes ≤ c + fuel → (t : MaTree) × Shows nodes leaf_at c t)
          → (t : MaTree) × Shows nodes leaf_at i t
      go leaf e f ih = (leaf_node (leaf_at i), shows-leaf e)
      go (split k v g l) e f ih =
          let (left, a) = ih g f.2 (omega (arith, f.0)) in
          let (right, z) = ih l f.3 (omega (arith, f.1)) in
          (decision k v left right, shows-decision e a z)

  -- the way of a lookup from there ends at the leaf that the standard finds
  way : (ps : List ℤ) (fuel : ℕ) {i : ℕ} {t : MaTree} → Shows nodes leaf_at i t → i < length nodes → length nodes ≤ i + fuel
      → leaf_at (reach fuel nodes ps i) ≡ leaf_for ps t
  unfolding reach leaf_for
  way ps zero {i} s h b = absurd (lt_irrefl i (omega arith))
  way ps (suc fuel) (shows-leaf e) h b = rw e
  way ps (suc fuel) {i} (shows-decision {k = k} {gt = g} {le = l} {value = v} {left = left} {right = right} e a z) h b =
      let f : Forward (length nodes) i (split k v g l) = subst (Forward (length nodes) i) e (forward i h) in
      rw e (go (lt_z v (get_or ps k (pos 0))) (way ps fuel a f.2 (omega (arith, f.0))) (way ps fuel z f.3 (omega (arith, f.1))))
    where
      go : (above : Bool) → leaf_at (reach fuel nodes ps g) ≡ leaf_for ps left → leaf_at (reach fuel nodes ps l) ≡ leaf_for ps right
          → leaf_at (reach fuel nodes ps (cond above g l)) ≡ cond above (leaf_for ps left) (leaf_for ps right)
      go true x y = x
      go false x y = y

-- ---- the operation, on a sound tree at the front of the list; the contexts may be any numbers, so that the entry found is no other leaf's
module _ {M : Meter} (nodes : List (Stored M)) (count : ℕ) (faultless : fault_of (tree_in count nodes) ≡ none) (contexts : List ℕ) where
  abbrev rs : List (Record M)
  rs = tree_in count nodes

  ahead : AllForward (nodes_of rs)
  ahead = (sound rs faultless).rooted.family.forward

  pub sound_is_standard : (t : MaTree) × IsTree nodes count contexts t
  sound_is_standard = shown (nodes_of rs) ahead (leaf_in rs contexts) (length (nodes_of rs)) 0 (has_root rs faultless) (omega arith)

  pub lookup_is_standard : {t : MaTree} → IsTree nodes count contexts t → count ≤ length nodes
      → (ps : List ℤ) → length ps ≡ props_per_row → FindsLeaf nodes count contexts t ps
  unfolding leaf_reached
  lookup_is_standard s inside ps w =
      let e = way (nodes_of rs) ahead (leaf_in rs contexts) ps (length (nodes_of rs)) s (has_root rs faultless) (omega arith) in
      (leaf_reached (nodes_of rs) ps, looked_up nodes count ps inside faultless w ∙ rw (← e), e)
