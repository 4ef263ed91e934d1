-- In a sound tree the stored depth is the distance from the root, and no other number is; and a lookup does not look at stored depths. Assumes nothing.
use mathlib.Core.Path.{◌≡◌, refl, sym, ap, ◌∙◌}
use Prim.Native.Nat.{ℕ, zero, suc, ◌≤◌, ◌<◌}
use native.Mathlib.Omega.{arith}
use mathlib.Core.Bool.{cond}
use mathlib.Core.List.{List, map, map-map}
use mathlib.Core.Option.{Option, none, some}
use lib.ListN.{length, get_or, take, length-map, get_or-map}
use lib.IntN.{ℤ}
use Rattle.std.proofs.lemmas.List.{take-map}
use Rattle.model.specs.Meter.{Meter}
use Rattle.model.specs.Settings.{max_nodes}
use Rattle.model.specs.Tree.{Node, split, leaf, Record, blank_record, nodes_of, towards, follow, leaf_reached, is_orderly, fault_on_way, fault_of}
use Rattle.model.specs.Lent.{Stored, record_in, tree_in}
use Rattle.model.specs.Refuse.{lookup_refusal}
use Rattle.model.specs.Operations.{lookup}
use Rattle.model.specs.Family.{Deep}
use Rattle.model.specs.Kept.{FieldsFit}
use Rattle.model.specs.Depths.{LiesAt, at_root, one_down, depth_in, DepthsStored, depthless, AlikeButDepths}
use Rattle.model.proofs.Family.{child-forward}
use Rattle.model.proofs.Sound.{Rooted, Sound, sound, same_length, from-root, sound-faultless}

-- ---- distances
module _ {M : Meter} (rs : List (Record M)) (good : Sound rs) where
  -- by way of its parent
  lies : (k : ℕ) → k < length rs → LiesAt (nodes_of rs) k (depth_in rs k)
  lies k h = from-root (nodes_of rs) good.rooted (λ (k : ℕ). LiesAt (nodes_of rs) k (depth_in rs k)) (rw good.deep.root at_root)
      (λ a c child up. rw (good.deep.child a c child) (one_down up child)) k (rw (same_length rs) h)

  lies-once : (k d : ℕ) → LiesAt (nodes_of rs) k d → d ≡ depth_in rs k
  lies-once k d at_root = sym good.deep.root
  lies-once k d (one_down {a} {c} {depth} up child) = ap suc (lies-once a depth up) ∙ sym (good.deep.child a c child)

pub depths-stored : {M : Meter} (rs : List (Record M)) → fault_of rs ≡ none → DepthsStored rs
depths-stored rs faultless k h = (lies rs (sound rs faultless) k h, lies-once rs (sound rs faultless) k)

-- and a tree that is sound but for its depths, which are distances from the root, is sound
module _ {M : Meter} (rs : List (Record M)) (tree : Rooted (nodes_of rs)) (stored : DepthsStored rs) where
  deep : 0 < length rs → Deep (nodes_of rs) (depth_in rs)
  deep first = record {
    root = sym ((stored 0 first).1 0 at_root);
    child = λ a c child.
        let f = child-forward (nodes_of rs) tree.family.forward a c child in
        let inside : a < length rs = omega (arith, same_length rs) in
        sym ((stored c (omega (arith, same_length rs))).1 (suc (depth_in rs a)) (one_down (stored a inside).0 child));
  }

  pub stored-faultless : ((k : ℕ) → k < length rs → FieldsFit (get_or rs k blank_record).node (get_or rs k blank_record).info.pred)
      → 0 < length rs → length rs ≤ max_nodes → fault_of rs ≡ none
  stored-faultless fits first few = sound-faultless rs (record { rooted = tree; deep = deep first; fits = fits }) first few

-- ---- lookups
module _ {M : Meter} where
  -- a record but for its depth
  abbrev shallow : Record M → Record M
  shallow r = record { node = r.node; info = r.info; depth = 0 }

  way-shallow : (fuel : ℕ) (rs : List (Record M)) (ps : List ℤ) (i : ℕ) → fault_on_way fuel (map shallow rs) ps i ≡ fault_on_way fuel rs ps i
  unfolding fault_on_way
  way-shallow zero rs ps i = refl
  way-shallow (suc fuel) rs ps i =
      let r = get_or rs i blank_record in
      rw (get_or-map shallow rs i blank_record, length-map rs shallow)
      (ap (λ (o : Option ℕ). cond (is_orderly (length rs) i r.info.pred r.node) o (some i)) (onward r.node (λ c. way-shallow fuel rs ps c)))
    where
      onward : (n : Node) → ((c : ℕ) → fault_on_way fuel (map shallow rs) ps c ≡ fault_on_way fuel rs ps c)
          → follow ps none (λ (c : ℕ). fault_on_way fuel (map shallow rs) ps c) n ≡ follow ps none (λ (c : ℕ). fault_on_way fuel rs ps c) n
      onward leaf same = refl
      onward (split prop val gt le) same = same (towards ps prop val gt le)

  tree-shallow : (count : ℕ) (nodes : List (Stored M)) → tree_in count (map depthless nodes) ≡ map shallow (tree_in count nodes)
  tree-shallow count nodes = ap (map record_in) (take-map depthless count nodes) ∙ map-map record_in depthless (take count nodes) ∙ sym (map-map shallow record_in (take count nodes))

  lookup-depthless : (nodes : List (Stored M)) (count : ℕ) (ps : List ℤ) → lookup (map depthless nodes) count ps ≡ lookup nodes count ps
  unfolding lookup lookup_refusal
  lookup-depthless nodes count ps =
      let tree = tree_in count nodes in
      let same : nodes_of (map shallow tree) ≡ nodes_of tree = map-map (λ (r : Record M). r.node) shallow tree in
      rw (tree-shallow count nodes, same, length-map nodes depthless, way-shallow count tree ps 0, get_or-map shallow tree (leaf_reached (nodes_of tree) ps) blank_record) refl

  pub lookup-blind : (nodes others : List (Stored M)) (count : ℕ) (ps : List ℤ) → AlikeButDepths nodes others → lookup nodes count ps ≡ lookup others count ps
  lookup-blind nodes others count ps e = sym (lookup-depthless nodes count ps) ∙ ap (λ (l : List (Stored M)). lookup l count ps) e ∙ lookup-depthless others count ps
