-- What a sound seed at the front of the node list says. Assumes nothing.
use mathlib.Core.Path.{◌≡◌, sym, ap, ◌∙◌}
use mathlib.Core.List.{List}
use Prim.Native.Nat.{ℕ, ◌≤◌, ◌<◌}
use lib.ListN.{length, take}
use lib.Seq.{length-take-le}
use Rattle.std.proofs.Math.Option.{none}
use Rattle.model.specs.Settings.{max_nodes}
use Rattle.model.specs.Tree.{fault_of}
use Rattle.layout.specs.declared.MaNode.{MaNode}
use Rattle.tree.specs.Trees.{IsSound}
use Rattle.tree.proofs.Entries.{tree-is}
use Rattle.tree.proofs.Soundness.{some_nodes}
use Rattle.seed_rows.specs.Ordered.{seed_of}

module _ (nodes : List MaNode) (count : ℕ) where
  pub front-sound : fault_of (seed_of count nodes) ≡ none → IsSound (take count nodes)
  front-sound sound = ap fault_of (sym (tree-is nodes count)) ∙ sound

  pub few : count ≤ length nodes → fault_of (seed_of count nodes) ≡ none → (0 < count) × (count ≤ max_nodes)
  few held sound = rw (length-take-le count nodes held) at (some_nodes (take count nodes) (front-sound sound))
