-- The model's state after some of a sound seed's nodes: one node more, how many entries and rows it has. Assumes nothing.
use mathlib.Core.Path.{◌≡◌, refl, sym, ap, ◌∙◌}
use mathlib.Core.Bool.{Bool, false, cond}
use mathlib.Core.List.{List, [], ◌∷◌, ◌++◌}
use mathlib.Core.Option.{none}
use Prim.Native.Nat.{ℕ, zero, suc, ◌+◌, ◌≤◌, ◌<◌}
use native.Mathlib.Nat.{zero-add, add-zero}
use native.Mathlib.Omega.{arith}
use borrow.Author.Tests.{ne_eqb}
use lib.ListN.{length, get_or, take, drop, length-append, length-map, take-append-drop, get_or-map}
use lib.Seq.{take-suc, take-length, length-take-le, drop-append-le}
use lib.Dec.{eqb}
use Rattle.model.specs.Lists.{count_if, keep}
use Rattle.model.specs.Meter.{Meter}
use Rattle.model.specs.Rows.{Row}
use Rattle.model.specs.Mode.{fresh}
use Rattle.model.specs.Tree.{Node, split, leaf, is_leaf, Info, Record, blank_record, nodes_of, leaf_reached, fault_of}
use Rattle.model.specs.Job.{Job}
use Rattle.model.specs.Grow.{State}
use Rattle.model.specs.Learn.{leaf_count}
use Rattle.model.specs.Deepen.{rows_at, seed_split, seed_leaf, with_seed_node, seed_from, seed_state}
use Rattle.model.proofs.Counting.{count_append, count_map, length-keep}
use Rattle.model.proofs.Fresh.{length-fresh}
use Rattle.model.proofs.Paths.{reached-leaf}
use Rattle.model.proofs.Sound.{sound, sound-count}
use Rattle.order.specs.Order.{ordered_by, first_of, times_of}
use Rattle.order.specs.Leaves.{leaf_numbers}
use Rattle.order.proofs.OrderLaws.{first-none, first_more}
use Rattle.order.proofs.Leaves.{leaf-span}
use Rattle.seed_leaves.specs.Sown.{seeded_to}

-- ---- one node more
seed-one : {M : Meter} (j : Job M) (nodes : List Node) (rows : List Row) (k : ℕ) (rs : List (Record M)) (r : Record M) (st : State M)
    → seed_from j nodes rows k (rs ++ (r ∷ [])) st
    ≡ with_seed_node j r.node r.info r.depth (rows_at nodes (k + length rs) rows) (seed_from j nodes rows k rs st)
unfolding seed_from
seed-one j nodes rows k [] r st = ap (λ (m : ℕ). with_seed_node j r.node r.info r.depth (rows_at nodes m rows) st) (sym (add-zero k))
seed-one {M} j nodes rows k (p ∷ rs) r st =
    let m : suc k + length rs ≡ k + suc (length rs) = omega arith in
    let on : State M = with_seed_node j p.node p.info p.depth (rows_at nodes k rows) st in
    seed-one j nodes rows (suc k) rs r on
    ∙ ap (λ (m : ℕ). with_seed_node j r.node r.info r.depth (rows_at nodes m rows) (seed_from j nodes rows (suc k) rs on)) m

-- ---- leaves among the first nodes
pub leaves-more : (nodes : List Node) (i : ℕ) → i < length nodes → leaf_count (take (suc i) nodes)
    ≡ leaf_count (take i nodes) + cond (is_leaf (get_or nodes i leaf)) 1 0
unfolding leaf_count
leaves-more nodes i h =
    ap (count_if is_leaf) (take-suc nodes i leaf h) ∙ count_append is_leaf (take i nodes) (get_or nodes i leaf ∷ [])
    ∙ ap (λ (k : ℕ). count_if is_leaf (take i nodes) + k) (add-zero _)

pub leaves-few : (nodes : List Node) (i : ℕ) → leaf_count (take i nodes) ≤ leaf_count nodes
unfolding leaf_count
leaves-few nodes i =
    let sum = count_append is_leaf (take i nodes) (drop i nodes) in
    let all = ap (count_if is_leaf) (take-append-drop i nodes) in
    omega arith

module _ {M : Meter} (j : Job M) (seed : List (Record M)) (rows : List Row) where
  abbrev nodes : List Node
  nodes = nodes_of seed

  abbrev to : ℕ → State M
  to = seeded_to j seed rows

  pub seeded-none : seeded_to j seed rows 0 ≡ record { rows = []; tree = []; bits = M.no_total }
  unfolding seeded_to seed_from
  seeded-none = refl

  pub seeded-more : (i : ℕ) → i < length seed
      → seeded_to j seed rows (suc i) ≡ with_seed_node j (get_or (nodes_of seed) i leaf) (get_or seed i blank_record).info (get_or seed i blank_record).depth
      (rows_at (nodes_of seed) i rows) (seeded_to j seed rows i)
  unfolding seeded_to
  seeded-more i h =
      let start : State M = record { rows = []; tree = []; bits = M.no_total } in
      let at : 0 + length (take i seed) ≡ i = zero-add (length (take i seed)) ∙ length-take-le i seed (omega arith) in
      let r : Record M = get_or seed i blank_record in
      ap (λ (l : List (Record M)). seed_from j nodes rows 0 l start) (take-suc seed i blank_record h)
      ∙ seed-one j nodes rows 0 (take i seed) r start
      ∙ ap (λ (k : ℕ). with_seed_node j r.node r.info r.depth (rows_at nodes k rows) (seed_from j nodes rows 0 (take i seed) start)) at
      ∙ ap (λ (m : Node). with_seed_node j m r.info r.depth (rows_at nodes i rows) (seed_from j nodes rows 0 (take i seed) start))
      (sym (get_or-map (λ (r : Record M). r.node) seed i blank_record))

  pub seeded-all : seeded_to j seed rows (length seed) ≡ seed_state j seed rows
  unfolding seeded_to seed_state
  seeded-all = rw take-length

  -- ---- its size
  more-tree : (m : Node) (info : Info M) (depth : ℕ) (mine : List Row) (st : State M) → length (with_seed_node j m info depth mine st).tree
      ≡ suc (length st.tree)
  more-tree (split prop val gt le) info depth mine st = let n = length-append st.tree
      (seed_split {M = M} (split prop val gt le) depth ∷ []) in omega arith
  more-tree leaf info depth mine st = let n = length-append st.tree (seed_leaf j info depth (length st.rows) mine ∷ []) in omega arith

  pub seeded-length : (i : ℕ) → i ≤ length seed → length (seeded_to j seed rows i).tree ≡ i
  seeded-length zero h = ap (λ (st : State M). length st.tree) seeded-none
  seeded-length (suc i) h =
      ap (λ (st : State M). length st.tree) (seeded-more i h)
      ∙ more-tree (get_or nodes i leaf) (get_or seed i blank_record).info (get_or seed i blank_record).depth (rows_at nodes i rows) (to i)
      ∙ ap suc (seeded-length i (omega arith))

  module _ (faultless : fault_of seed ≡ none) where
    some-node : 0 < length nodes
    some-node = rw (length-map seed (λ (r : Record M). r.node)) (sound-count seed faultless).0

    keep-none : (p : Row → Bool) (l : List Row) → ((r : Row) → p r ≡ false) → keep p l ≡ []
    keep-none p [] h = refl
    keep-none p (r ∷ l) h = rw (h r) (keep-none p l h)

    -- no row stops at a split
    pub split-empty : (i : ℕ) → is_leaf (get_or (nodes_of seed) i leaf) ≡ false → rows_at (nodes_of seed) i rows ≡ []
    unfolding rows_at
    split-empty i inner =
        keep-none (λ (r : Row). eqb (leaf_reached nodes r.props) i) rows (λ r. ne_eqb (leaf_reached nodes r.props) i (λ e.
        (rw (e, inner) at (reached-leaf nodes (sound seed faultless).rooted.family.forward some-node r.props).0)))

    abbrev ks : List ℕ
    ks = leaf_numbers nodes rows

    -- as many rows reach a leaf as have its number
    pub mine-length : (i : ℕ) → length (rows_at (nodes_of seed) i rows) ≡ times_of (leaf_numbers (nodes_of seed) rows) i
    unfolding rows_at times_of leaf_numbers
    mine-length i = length-keep (λ (r : Row). eqb (leaf_reached nodes r.props) i) rows
        ∙ sym (count_map (λ (k : ℕ). eqb k i) (λ (r : Row). leaf_reached nodes r.props) rows)

    more_rows : (m : Node) (info : Info M) (depth : ℕ) (mine : List Row) (st : State M) → (is_leaf m ≡ false → mine ≡ [])
        → length (with_seed_node j m info depth mine st).rows ≡ length st.rows + length mine
    more_rows (split prop val gt le) info depth mine st e = let z : length mine ≡ 0 = ap length (e refl) in omega arith
    more_rows leaf info depth mine st e = length-append st.rows (fresh j.uses mine) ∙ ap (λ (k : ℕ). length st.rows + k) (length-fresh j.uses mine)

    pub seeded-rows : (i : ℕ) → i ≤ length seed → length (seeded_to j seed rows i).rows ≡ first_of (leaf_numbers (nodes_of seed) rows) i
    seeded-rows zero h = ap (λ (st : State M). length st.rows) seeded-none ∙ sym (first-none ks)
    seeded-rows (suc i) h =
        ap (λ (st : State M). length st.rows) (seeded-more i h)
        ∙ more_rows (get_or nodes i leaf) (get_or seed i blank_record).info (get_or seed i blank_record).depth (rows_at nodes i rows) (to i) (split-empty i)
        ∙ (λ t. seeded-rows i (omega arith) t + mine-length i t) ∙ sym (first_more ks i)

    -- ---- the rows of node i stand in front of those of the later nodes
    pub rows_left : (count : ℕ) (i : ℕ) → i < count → first_of (leaf_numbers (nodes_of seed) rows) (suc i) ≤ length
        (ordered_by (leaf_numbers (nodes_of seed) rows) count rows)
        → drop (first_of (leaf_numbers (nodes_of seed) rows) i) (ordered_by (leaf_numbers (nodes_of seed) rows) count rows)
        ≡ rows_at (nodes_of seed) i rows ++ drop (first_of (leaf_numbers (nodes_of seed) rows) (suc i)) (ordered_by (leaf_numbers (nodes_of seed) rows) count rows)
    rows_left count i h inside =
        let l : List Row = ordered_by ks count rows in
        let a : ℕ = first_of ks i in
        let b : ℕ = first_of ks (suc i) in
        let up : a ≤ b = omega (arith, first_more ks i) in
        let long = length-take-le b l inside in
        ap (drop a) (sym (take-append-drop b l)) ∙ drop-append-le a (take b l) (drop b l) (omega arith)
        ∙ ap (λ (m : List Row). m ++ drop b l) (leaf-span nodes count rows i h)
