-- What the records of a sound tree say, and when the first nodes of a list are one. Assumes nothing.
use mathlib.Core.Path.{◌≡◌, refl}
use Prim.Native.Nat.{ℕ, ◌≤◌, ◌<◌}
use mathlib.Core.Bool.{Bool, true, false, cond}
use mathlib.Core.List.{List, map}
use mathlib.Core.Option.{none, some}
use lib.ListN.{length, get_or, take}
use lib.Dec.{eqb, ltb, ltb→lt}
use borrow.Author.Tests.{ltb-false}
use Rattle.std.proofs.Math.Option.{some-ne-none}
use Rattle.std.proofs.lemmas.List.{length-map}
use Rattle.model.specs.Settings.{props_per_row, max_nodes}
use Rattle.model.specs.Tree.{split, blank_record, nodes_of, fault_of}
use Rattle.model.specs.Lent.{tree_in}
use Rattle.model.specs.Refuse.{fault_in}
use Rattle.model.specs.Family.{Forward}
use Rattle.model.proofs.Sound as model
use Rattle.layout.specs.Records.{stored_of, no_record}
use Rattle.layout.specs.declared.MaNode.{MaNode}
use Rattle.tree.specs.Trees.{records_in, IsSound}
use Rattle.tree.proofs.Entries.{records-length, record_at_lem, nodes-length, node_at_lem, tree-is}

module _ (t : List MaNode) (is : IsSound t) where
  pub all_sound : model.Sound (records_in t)
  all_sound = model.sound (records_in t) is

  pub some_nodes : (0 < length t) × (length t ≤ max_nodes)
  some_nodes = let c = model.sound-count (records_in t) is in (rw (records-length t) at c.0, rw (records-length t) at c.1)

  -- a split's property is one of 24, and its children stand behind it, below the count
  pub node_fits : (i : ℕ) → i < length t → let m = get_or t i no_record in eqb m.kind 1 ≡ true → (m.prop < props_per_row) × Forward (length t) i (split m.prop m.val m.gt m.le)
  node_fits i h k =
      let inside : i < length (records_in t) = rw (records-length t) h in
      let among : i < length (nodes_of (records_in t)) = rw (nodes-length t) h in
      let prop = rw (record_at_lem t i blank_record h, k) at (all_sound.fits i inside) in
      (ltb→lt (get_or t i no_record).prop props_per_row prop, rw (nodes-length t, node_at_lem t i h, k) at (all_sound.rooted.family.forward i among))

-- ---- the tree of the first nodes: no fault is named, so the list has them, and they are sound
pub no_fault_named : (nodes : List MaNode) (count : ℕ) → fault_in count (map stored_of nodes) ≡ none → (count ≤ length nodes) × IsSound (take count nodes)
no_fault_named nodes count e = go (ltb (length (map stored_of nodes)) count) refl e
  where
    go : (b : Bool) → ltb (length (map stored_of nodes)) count ≡ b → cond b (some 0) (fault_of (tree_in count (map stored_of nodes))) ≡ none
        → (count ≤ length nodes) × IsSound (take count nodes)
    go true beyond h = absurd (some-ne-none 0 h)
    go false held h = (rw (length-map nodes stored_of) at (ltb-false _ _ held), rw (tree-is nodes count) at h)
