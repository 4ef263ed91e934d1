-- Growth evaluates no more rows than were handed in: the rows of a state stay as many, and what a node is evaluated over is a part of them.
-- Whatever holds of the cost of each evaluation of so many rows holds of the cost beside each node, and likewise of what waiting leaves offer. Assumes nothing.
use mathlib.Core.Path.{◌≡◌, refl, sym, ap, ◌∙◌, subst}
use Prim.Native.Nat.{ℕ, zero, suc, ◌+◌, ◌-◌, ◌≤◌, min}
use native.Mathlib.Nat.{le_refl}
use native.Mathlib.Omega.{arith}
use mathlib.Core.Bool.{Bool, true, false, cond}
use mathlib.Core.List.{List, [], ◌∷◌, ◌++◌, map}
use mathlib.Core.Option.{none, some}
use lib.ListN.{length, get_or, take, set, replicate, length-append, length-take, length-drop, get_or-map}
use lib.IntN.{ℤ}
use lib.Dec.{eqb}
use Rattle.model.specs.Lists.{range, count_if, Each}
use Rattle.model.specs.Meter.{Meter}
use Rattle.model.specs.Rows.{Row, Span, within}
use Rattle.model.specs.Mode.{span_mode, fresh}
use Rattle.model.specs.Tree.{Node, split, leaf, Info, Record, blank_record, nodes_of, leaf_reached}
use Rattle.model.specs.Job.{Offer, Job, prunes}
use Rattle.model.specs.Grow.{Entry, State, Choice, no_choice, chosen, no_entry, record_of, leaf_over, choice, gt_rows, le_rows, gt_span, le_span, gt_leaf, le_leaf, split_rows, become_split, split_at, step_to, step, steps}
use Rattle.model.specs.Prune.{preorder, moved, pruned_nodes, pruned_tree, pruned_bits}
use Rattle.model.specs.Learn.{leaf_count, pruned, settled_state, result_of, finished, root_state, learned}
use Rattle.model.specs.Deepen.{rows_at, seed_split, empty_leaf, seed_leaf, with_seed_node, seed_from, seed_state, deepened}
use Rattle.model.specs.Kept.{Fine, Sized}
use Rattle.model.proofs.Each.{each_get_d, each_set, each_append, each-replicate, each_map}
use Rattle.model.proofs.Fresh.{length-fresh}
use Rattle.model.proofs.Parts.{length-parts}
use Rattle.model.proofs.Counting.{length-keep}
use Rattle.model.proofs.Invariant.{none_is_no_some}
use Rattle.model.proofs.Histogram.{sum_of, keyed-sum}

pub length-within : (s : Span) (rows : List Row) → length (within s rows) ≡ min s.end (length rows) - s.first
length-within s rows = length-drop s.first (take s.end rows) ∙ ap (λ (k : ℕ). k - s.first) (length-take s.end rows)

module _ {M : Meter} where
  module _ (j : Job M) (rows : List Row) (e : Entry M) (o : Offer M) where
    pub length-sides : length (gt_rows j rows e o) + length (le_rows j rows e o) ≡ length (within e.span rows)
    unfolding gt_rows le_rows
    length-sides = search (arith, length-fresh, length-parts)

    length-split : e.span.first ≤ e.span.end → length (split_rows j rows e o) ≡ length rows
    unfolding split_rows
    length-split h = search (arith, length-append, length-take, length-drop, length-sides)

  -- ---- whatever holds of each entry
  -- an entry's span does not run backwards, and E holds of it
  abbrev pub Ordered : (Entry M → Type 0) → Entry M → Type 0
  Ordered E e = (e.span.first ≤ e.span.end) × E e

  -- a state of n rows at most, whose entries are so
  pub record Throughout (E : Entry M → Type 0) (n : ℕ) (s : State M) : Type 0 where
    pub rows : length s.rows ≤ n
    pub entries : Each (Ordered E) s.tree

  -- E holds of what is evaluated over so many rows, of a vacated entry, and of a node that becomes a split if it held before
  module _ (E : Entry M → Type 0) (n : ℕ) (j : Job M)
      (made : (rows : List Row) (mode : ℤ) (s : Span) (depth : ℕ) → length rows ≤ n → E (leaf_over j rows mode s depth))
      (vacated : E no_entry) (parted : (e : Entry M) (o : Offer M) (k : ℕ) → E e → E (become_split e o k)) where
    split-throughout : (s : State M) (i : ℕ) (o : Offer M) → Throughout E n s → Throughout E n (split_at j s i o)
    unfolding split_at become_split gt_leaf le_leaf gt_span le_span leaf_over
    split-throughout s i o z =
        let e = get_or s.tree i no_entry in
        let f = each_get_d (Ordered E) s.tree i no_entry (le_refl 0, vacated) z.entries in
        let gt = gt_rows j s.rows e o in
        let le = le_rows j s.rows e o in
        let sides = length-sides j s.rows e o in
        let part = length-within e.span s.rows in
        let all = z.rows in
        let gt-few : length gt ≤ n = omega arith in
        let le-few : length le ≤ n = omega arith in
        let inside : e.span.first + length gt ≤ e.span.end = omega (arith, f.0) in
        record {
          rows = omega (arith, length-split j s.rows e o f.0);
          entries = each_append (Ordered E) (set s.tree i (become_split e o (length s.tree))) (gt_leaf j s.rows e o ∷ le_leaf j s.rows e o ∷ [])
              (each_set (Ordered E) s.tree i (become_split e o (length s.tree)) (f.0, parted e o (length s.tree) f.1) z.entries) (
                (omega arith, made gt (span_mode j.uses gt) (gt_span j s.rows e o) (suc e.depth) gt-few),
                ((inside, made le (span_mode j.uses le) (le_span j s.rows e o) (suc e.depth) le-few), tt),
              );
        }

    step-throughout : (s : State M) → Throughout E n s → Throughout E n (step j s)
    unfolding step step_to
    step-throughout s z = go (choice j s.tree)
      where
        go : (c : Choice M) → Throughout E n (step_to j s c)
        go no_choice = z
        go (chosen i o) = split-throughout s i o z

    pub steps-throughout : (k : ℕ) (s : State M) → Throughout E n s → Throughout E n (steps j k s)
    unfolding steps
    steps-throughout zero s z = z
    steps-throughout (suc k) s z = step-throughout (steps j k s) (steps-throughout k s z)

    pub root-throughout : (rows : List Row) → length rows ≤ n → Throughout E n (root_state j rows)
    unfolding root_state leaf_over
    root-throughout rows h =
        let few : length (fresh j.uses rows) ≤ n = omega (arith, length-fresh j.uses rows) in
        record { rows = few; entries = ((omega arith, made (fresh j.uses rows) (span_mode j.uses rows) (record { first = 0; end = length rows }) 0 few), tt) }

    -- ---- a seed: each row reaches one node
    module _ (given : (node : Node) (depth : ℕ) → E (seed_split node depth)) (empty : (i : Info M) (depth : ℕ) → E (empty_leaf i depth)) where
      node-entries : (node : Node) (i : Info M) (depth : ℕ) (mine : List Row) (s : State M) → length s.rows + length mine ≤ n → Each (Ordered E) s.tree
          → Each (Ordered E) (with_seed_node j node i depth mine s).tree
      unfolding leaf_over
      node-entries (split prop val gt le) i depth mine s h e =
          let m = split prop val gt le in
          each_append (Ordered E) s.tree (seed_split m depth ∷ []) e ((le_refl 0, given m depth), tt)
      node-entries leaf i depth [] s h e = each_append (Ordered E) s.tree (empty_leaf i depth ∷ []) e ((le_refl 0, empty i depth), tt)
      node-entries leaf i depth (r ∷ rs) s h e =
          let l = length-fresh j.uses (r ∷ rs) in
          let span : Span = record { first = length s.rows; end = length s.rows + length (r ∷ rs) } in
          each_append (Ordered E) s.tree (seed_leaf j i depth (length s.rows) (r ∷ rs) ∷ []) e
          ((omega arith, made (fresh j.uses (r ∷ rs)) (span_mode j.uses (r ∷ rs)) span depth (omega arith)), tt)

      node-rows : (node : Node) (i : Info M) (depth : ℕ) (mine : List Row) (s : State M) → length (with_seed_node j node i depth mine s).rows ≤ length s.rows + length mine
      node-rows (split prop val gt le) i depth mine s = omega arith
      node-rows leaf i depth mine s = omega (arith, length-append s.rows (fresh j.uses mine), length-fresh j.uses mine)

      seed_from_throughout : (nodes : List Node) (rows : List Row) (i : ℕ) (rs : List (Record M)) (s : State M)
          → length s.rows + sum_of (map (λ (k : ℕ). count_if (λ (r : Row). eqb (leaf_reached nodes r.props) k) rows) (range i (length rs))) ≤ n → Each (Ordered E) s.tree
          → Throughout E n (seed_from j nodes rows i rs s)
      unfolding seed_from rows_at
      seed_from_throughout nodes rows i [] s h e = record { rows = omega arith; entries = e }
      seed_from_throughout nodes rows i (r ∷ rs) s h e =
          let mine = rows_at nodes i rows in
          let l = length-keep (λ (r : Row). eqb (leaf_reached nodes r.props) i) rows in
          let k = node-rows r.node r.info r.depth mine s in
          seed_from_throughout nodes rows (suc i) rs (with_seed_node j r.node r.info r.depth mine s) (omega arith)
          (node-entries r.node r.info r.depth mine s (omega arith) e)

      pub seed-throughout : (seed : List (Record M)) (rows : List Row) → length rows ≤ n → Throughout E n (seed_state j seed rows)
      unfolding seed_state
      seed-throughout seed rows h =
          let nodes = nodes_of seed in
          let start : State M = record { rows = []; tree = []; bits = M.no_total } in
          seed_from_throughout nodes rows 0 seed start (omega (arith, keyed-sum (λ (r : Row). leaf_reached nodes r.props) 0 (length seed) rows)) tt

  -- ---- of each entry's cost
  module _ (Q : M.Cost → Type 0) (n : ℕ) (j : Job M) (nought : Q M.nought) (evaluated : (mode : ℤ) (rows : List Row) → length rows ≤ n → Q (j.info mode rows).cost) where
    abbrev Costs : Entry M → Type 0
    Costs e = Q e.info.cost

    sized : {s : State M} → Throughout Costs n s → Sized Q n s
    sized z = record { rows = z.rows; entries = z.entries }

    made-cost : (rows : List Row) (mode : ℤ) (s : Span) (depth : ℕ) → length rows ≤ n → Costs (leaf_over j rows mode s depth)
    unfolding leaf_over
    made-cost rows mode s depth h = evaluated mode rows h

    parted-cost : (e : Entry M) (o : Offer M) (k : ℕ) → Costs e → Costs (become_split e o k)
    unfolding become_split
    parted-cost e o k q = q

    pub steps-sized : (k : ℕ) (s : State M) → Sized Q n s → Sized Q n (steps j k s)
    steps-sized k s z = sized (steps-throughout Costs n j made-cost nought parted-cost k s (record { rows = z.rows; entries = z.entries }))

    pub root-sized : (rows : List Row) → length rows ≤ n → Sized Q n (root_state j rows)
    root-sized rows h = sized (root-throughout Costs n j made-cost nought parted-cost rows h)

    pub seed-sized : Q M.endless → (seed : List (Record M)) (rows : List Row) → length rows ≤ n → Sized Q n (seed_state j seed rows)
    seed-sized endless seed rows h = sized (seed-throughout Costs n j made-cost nought parted-cost (λ node depth. endless) (λ i depth. nought) seed rows h)

    -- ---- results
    moved-fine : (tree : List (Entry M)) (nodes : List Node) (order : List ℕ) → Each (Fine Q) tree → (i : ℕ) → Fine Q (moved tree nodes order i)
    unfolding moved
    moved-fine tree nodes order e i = each_get_d (Fine Q) tree i no_entry (le_refl 0, nought) e

    pruned-fine : (s : State M) → Each (Fine Q) s.tree → Each (Fine Q) (pruned j s).tree
    unfolding pruned pruned_tree
    pruned-fine s e = go (prunes j)
      where
        go : (b : Bool) → Each (Fine Q) (cond b (record { rows = s.rows; tree = pruned_tree j.price s.tree; bits = pruned_bits j.price s.tree }) s).tree
        go true =
            let nodes = pruned_nodes j.price s.tree in
            let order = preorder (length nodes) nodes 0 in
            each_map (Fine Q) (moved s.tree nodes order) order (moved-fine s.tree nodes order e)
        go false = e

    settled-fine : (s : State M) → Each (Fine Q) s.tree → Each (Fine Q) (settled_state j s).tree
    unfolding settled_state
    settled-fine s e = grind arith

    finished-fine : (s : State M) (flat : M.Total) → Each (Fine Q) s.tree → (k : ℕ) → Q (get_or (finished j s flat).records k blank_record).info.cost
    unfolding finished result_of
    finished-fine s flat e k =
        let t = (settled_state j (pruned j s)).tree in
        let es = t ++ replicate (length s.tree - length t) no_entry in
        subst (λ (r : Record M). Q r.info.cost) (sym (get_or-map record_of es k no_entry))
        (each_get_d (Fine Q) es k no_entry (le_refl 0, nought)
        (each_append (Fine Q) t (replicate (length s.tree - length t) no_entry) (settled-fine (pruned j s) (pruned-fine s e)) (each-replicate (Fine Q) (length s.tree - length t) no_entry (le_refl 0, nought)))).1

    pub learned-costs : (limit : ℕ) (rows : List Row) → length rows ≤ n → (k : ℕ) → Q (get_or (learned j limit rows).records k blank_record).info.cost
    unfolding learned
    learned-costs limit rows h k = finished-fine (steps j (limit - 1) (root_state j rows)) (j.flat rows) (steps-sized (limit - 1) (root_state j rows) (root-sized rows h)).entries k

    pub deepened-costs : Q M.endless → (limit : ℕ) (seed : List (Record M)) (rows : List Row) → length rows ≤ n → (k : ℕ) → Q (get_or (deepened j limit seed rows).records k blank_record).info.cost
    unfolding deepened
    deepened-costs endless limit seed rows h k =
        let m = limit - leaf_count (nodes_of seed) in
        finished-fine (steps j m (seed_state j seed rows)) (j.flat rows) (steps-sized m (seed_state j seed rows) (seed-sized endless seed rows h)).entries k

  -- ---- of each offer that waits
  module _ (P : Offer M → Type 0) (n : ℕ) (j : Job M)
      (evaluated : (depth : ℕ) (mode : ℤ) (rows : List Row) (o : Offer M) → length rows ≤ n → j.offered depth (j.info mode rows).cost rows ≡ some o → P o) where
    abbrev Offers : Entry M → Type 0
    Offers e = (o : Offer M) → e.offer ≡ some o → P o

    no-offer : (e : Entry M) → e.offer ≡ none → Offers e
    no-offer e h o q = absurd (none_is_no_some o (sym h ∙ q))

    none-vacated : Offers no_entry
    none-vacated = no-offer no_entry refl

    made-offer : (rows : List Row) (mode : ℤ) (s : Span) (depth : ℕ) → length rows ≤ n → Offers (leaf_over j rows mode s depth)
    unfolding leaf_over
    made-offer rows mode s depth h o e = evaluated depth mode rows o h e

    parted-offer : (e : Entry M) (o : Offer M) (k : ℕ) → Offers e → Offers (become_split e o k)
    unfolding become_split
    parted-offer e o k q = no-offer (become_split e o k) refl

    steps-offer : (m : ℕ) (s : State M) → Throughout Offers n s → (k : ℕ) → Offers (get_or (steps j m s).tree k no_entry)
    steps-offer m s z k =
        let w = steps-throughout Offers n j made-offer none-vacated parted-offer m s z in
        (each_get_d (Ordered Offers) (steps j m s).tree k no_entry (le_refl 0, none-vacated) w.entries).1

    pub learning-offers : (rows : List Row) → length rows ≤ n → (m k : ℕ) (o : Offer M) → (get_or (steps j m (root_state j rows)).tree k no_entry).offer ≡ some o → P o
    learning-offers rows h m = steps-offer m (root_state j rows) (root-throughout Offers n j made-offer none-vacated parted-offer rows h)

    pub deepening-offers : (seed : List (Record M)) (rows : List Row) → length rows ≤ n
        → (m k : ℕ) (o : Offer M) → (get_or (steps j m (seed_state j seed rows)).tree k no_entry).offer ≡ some o → P o
    deepening-offers seed rows h m = steps-offer m (seed_state j seed rows)
        (seed-throughout Offers n j made-offer none-vacated parted-offer (λ node depth. no-offer (seed_split node depth) refl) (λ i depth. no-offer (empty_leaf i depth) refl) seed rows h)
