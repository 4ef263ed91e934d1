-- The seed in the lists: its nodes by their number, and entries that are not yet written over. Assumes nothing.
use mathlib.Core.Path.{◌≡◌, ap, ◌∙◌}
use mathlib.Core.List.{List, map}
use mathlib.Core.Option.{none}
use Prim.Native.Nat.{ℕ, ◌≤◌, ◌<◌}
use native.Mathlib.Omega.{arith}
use lib.ListN.{length, get_or, take, length-map, get_or-map}
use lib.Seq.{get_or-take, length-take-le}
use Rattle.model.specs.Settings.{max_nodes}
use Rattle.model.specs.Single.{singles}
use Rattle.model.specs.Tree.{leaf, Record, blank_record, nodes_of, fault_of}
use Rattle.model.specs.Lent.{Stored, record_in}
use Rattle.model.specs.Grow.{Entry}
use Rattle.model.proofs.Places.{get_d_any}
use Rattle.model.proofs.Sound.{sound-count}
use Rattle.model.proofs.Written.{get_d_unwritten}
use Rattle.layout.specs.Records.{stored_of, no_record, no_span_record, node_at}
use Rattle.layout.specs.Tree.{NodeLists, HasRoom, holding, entry_record, entry_span}
use Rattle.seed_rows.specs.Ordered.{seed_in}

module _ (count : ℕ) (n : NodeLists) (room : HasRoom count n) where
  abbrev stored : List (Stored singles)
  stored = map stored_of n.nodes

  abbrev record_at : ℕ → Record singles
  record_at i = record_in (stored_of (get_or n.nodes i no_record))

  pub seed-length : length (seed_in count n) ≡ count
  seed-length = length-map (take count stored) record_in ∙ length-take-le count stored (omega (arith, length-map n.nodes stored_of, room.nodes))

  pub record_in_lem : (i : ℕ) (d : Record singles) → i < count → get_or (seed_in count n) i d ≡ record_at i
  record_in_lem i d h =
      get_d_any (seed_in count n) i d (record_in (stored_of no_record)) (omega (arith, seed-length))
      ∙ get_or-map record_in (take count stored) i (stored_of no_record)
      ∙ ap record_in (get_or-take count stored i (stored_of no_record) h ∙ get_or-map stored_of n.nodes i no_record)

  pub nodes-length : length (nodes_of (seed_in count n)) ≡ count
  nodes-length = length-map (seed_in count n) (λ (r : Record singles). r.node) ∙ seed-length

  pub node_in : (i : ℕ) → i < count → get_or (nodes_of (seed_in count n)) i leaf ≡ node_at n.nodes i
  node_in i h = get_or-map (λ (r : Record singles). r.node) (seed_in count n) i blank_record
      ∙ ap (λ (r : Record singles). r.node) (record_in_lem i blank_record h)

  pub seed-few : fault_of (seed_in count n) ≡ none → (0 < count) × (count ≤ max_nodes)
  seed-few sound = let c = sound-count (seed_in count n) sound in let long = seed-length in (omega (arith, c.0), omega (arith, c.1))

-- ---- entries that are not yet written over
module _ (tree : List (Entry singles)) (n : NodeLists) (i : ℕ) (here : length tree ≡ i) where
  pub record_still : get_or (holding tree n).nodes i no_record ≡ get_or n.nodes i no_record
  unfolding holding
  record_still = get_d_unwritten (map entry_record tree) n.nodes no_record i (omega (arith, length-map tree entry_record))

  pub span_still : get_or (holding tree n).spans i no_span_record ≡ get_or n.spans i no_span_record
  unfolding holding
  span_still = get_d_unwritten (map entry_span tree) n.spans no_span_record i (omega (arith, length-map tree entry_span))
