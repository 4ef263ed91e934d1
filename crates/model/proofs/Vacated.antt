-- What stands in a result's lists: the tree, whose leaves are counted, then entries vacated by pruning; in an unpruned result there are none. Assumes nothing.
use mathlib.Core.Path.{◌≡◌, refl, sym, ap, ◌∙◌}
use Prim.Native.Nat.{ℕ, zero, suc, ◌+◌, ◌-◌, ◌≤◌}
use native.Mathlib.Omega.{arith}
use mathlib.Core.Bool.{false}
use mathlib.Core.List.{List, ◌++◌, map, map-map, map-append}
use lib.ListN.{length, get_or, take, replicate, length-map, length-append, length-replicate, get_or-map}
use lib.Seq.{take_at, get_or-append-add}
use Rattle.model.specs.Meter.{Meter}
use Rattle.model.specs.Rows.{Row, no_span}
use Rattle.model.specs.Tree.{Record, blank_record, nodes_of}
use Rattle.model.specs.Job.{Job, prunes}
use Rattle.model.specs.Grow.{Entry, State, no_entry, tree_nodes, record_of, steps}
use Rattle.model.specs.Learn.{Result, result_of, pruned, settled_state, leaf_count, finished, root_state, learned}
use Rattle.model.specs.Deepen.{seed_state, deepened}
use Rattle.model.proofs.Results.{record_of_result, span_of_result, tree_of_result}

-- a blank list
pub get_d_blank : {A : Type 0} (n k : ℕ) (z : A) → get_or (replicate n z) k z ≡ z
get_d_blank zero k z = refl
get_d_blank (suc n) zero z = refl
get_d_blank (suc n) (suc k) z = get_d_blank n k z

module _ {M : Meter} where
  pub record EntriesOf (j : Job M) (r : Result M) : Type 0 where
    pub leaves : r.leaves ≡ leaf_count (tree_of_result r)
    pub blank : (k : ℕ) → r.count ≤ k → (record_of_result r k ≡ blank_record) × (span_of_result r k ≡ no_span)
    pub unpruned : prunes j ≡ false → length r.records ≡ r.count

  -- settling leaves the tree
  pub settled-tree : (j : Job M) (s : State M) → (settled_state j s).tree ≡ s.tree
  unfolding settled_state
  settled-tree j s = grind arith

  -- and so does an unpruned job
  uncut : (j : Job M) (s : State M) → prunes j ≡ false → (settled_state j (pruned j s)).tree ≡ s.tree
  unfolding pruned
  uncut j s e = settled-tree j (pruned j s) ∙ rw e

  finished-entries : (j : Job M) (s : State M) (flat : M.Total) → EntriesOf j (finished j s flat)
  unfolding finished result_of
  finished-entries j s flat = record {
    leaves = ap leaf_count (sym shown);
    blank = λ k h. (get_or-map record_of written k no_entry ∙ ap record_of (none-there k h), get_or-map (λ (e : Entry M). e.span) written k no_entry ∙ ap (λ (e : Entry M). e.span) (none-there k h));
    unpruned = λ e. omega (arith, length-map written record_of, length-append tree (replicate (length s.tree - length tree) no_entry), length-replicate (length s.tree - length tree) (no_entry {M = M}), ap length (uncut j s e));
  }
    where
      tree : List (Entry M)
      tree = (settled_state j (pruned j s)).tree

      written : List (Entry M)
      written = tree ++ replicate (length s.tree - length tree) no_entry

      shown : nodes_of (take (length tree) (map record_of written)) ≡ tree_nodes tree
      shown =
          ap (λ (l : List (Record M)). nodes_of (take (length tree) l)) (map-append record_of tree (replicate (length s.tree - length tree) no_entry))
          ∙ ap nodes_of (take_at (map record_of tree) (map record_of (replicate (length s.tree - length tree) no_entry)) (length tree) (length-map tree record_of))
          ∙ map-map (λ (r : Record M). r.node) record_of tree

      none-there : (k : ℕ) → length tree ≤ k → get_or written k no_entry ≡ no_entry
      none-there k h =
          let there : k ≡ length tree + (k - length tree) = omega arith in
          ap (λ (i : ℕ). get_or written i no_entry) there
          ∙ get_or-append-add tree (replicate (length s.tree - length tree) no_entry) (k - length tree) no_entry
          ∙ get_d_blank (length s.tree - length tree) (k - length tree) no_entry

  pub learned-entries : (j : Job M) (limit : ℕ) (rows : List Row) → EntriesOf j (learned j limit rows)
  unfolding learned
  learned-entries j limit rows = finished-entries j (steps j (limit - 1) (root_state j rows)) (j.flat rows)

  pub deepened-entries : (j : Job M) (limit : ℕ) (seed : List (Record M)) (rows : List Row) → EntriesOf j (deepened j limit seed rows)
  unfolding deepened
  deepened-entries j limit seed rows = finished-entries j (steps j (limit - leaf_count (nodes_of seed)) (seed_state j seed rows)) (j.flat rows)
