-- Growth (document 01, "Growth"; the Rust's `grow_tree`): one step splits the waiting leaf with the greatest gain, of equal gains the one with more
-- rows, and only then the one with the lower number (02, e). Assumes nothing.
-- A step that finds no waiting leaf changes nothing. Every new leaf is scored, also after the last split, where the Rust does not:
-- what a leaf offers is no part of the answer.
use Rattle.std.specs.Prelude.{ℕ, zero, suc, ◌+◌, cond, List, [], ◌∷◌, ◌++◌, map, length, get_or, take, drop, set, ℤ}
use Rattle.std.proofs.Math.Option.{Option, none, some}
use Rattle.model.specs.Meter.{Meter}
use Rattle.model.specs.Rows.{Row, is_above, Span, no_span, within, span_size}
use Rattle.model.specs.Partition.{above_rows, other_rows}
use Rattle.model.specs.Mode.{span_mode, fresh}
use Rattle.model.specs.Tree.{Node, split, leaf, Info, Record, no_info}
use Rattle.model.specs.Job.{Offer, Claim, Job}

-- a node with what stands beside it, its rows and its depth; a leaf that offers a split is waiting
pub record Entry (M : Meter) : Type 0 where
  pub node : Node
  pub info : Info M
  pub span : Span
  pub depth : ℕ
  pub offer : Option (Offer M)

-- the rows, the tree's entries and the estimated bits
pub record State (M : Meter) : Type 0 where
  pub rows : List Row
  pub tree : List (Entry M)
  pub bits : M.Total

pub data Choice (M : Meter) : Type 0 where
  no_choice : Choice M
  chosen : ℕ → Offer M → Choice M

-- estimated bits gain (gt + le - parent), formed as a cost, added to the total
unfoldable pub grown_bits : (M : Meter) → M.Total → M.Cost → M.Cost → M.Cost → M.Total
grown_bits M bits gt le parent = M.add bits (M.total (M.minus (M.plus gt le) parent))

module _ {M : Meter} where
  -- what a vacated entry holds
  abbrev pub no_entry : Entry M
  no_entry = record { node = leaf; info = no_info; span = no_span; depth = 0; offer = none }

  abbrev pub tree_nodes : List (Entry M) → List Node
  tree_nodes = map (λ (e : Entry M). e.node)

  abbrev pub record_of : Entry M → Record M
  record_of e = record { node = e.node; info = e.info; depth = e.depth }

  -- a leaf over the rows, whose zero tokens are those of `mode`
  unfoldable pub leaf_over : Job M → List Row → ℤ → Span → ℕ → Entry M
  leaf_over j rows mode s depth =
      let i = j.info mode rows in
      record { node = leaf; info = i; span = s; depth = depth; offer = j.offered depth i.cost rows }

  -- ---- the waiting leaf that is taken next
  -- what entry i of a tree claims by the offer
  abbrev pub claim : List (Entry M) → ℕ → Offer M → Claim M
  claim tree i o = record { gain = o.gain; rows = span_size (get_or tree i no_entry).span }

  -- the choice so far, of lower numbers, or entry i if that is taken before it
  abbrev pub foremost : Job M → List (Entry M) → Choice M → ℕ → Option (Offer M) → Choice M
  foremost j tree c i none = c
  foremost j tree no_choice i (some o) = chosen i o
  foremost j tree (chosen k p) i (some o) = cond (j.ahead (claim tree i o) (claim tree k p)) (chosen i o) (chosen k p)

  -- of the first n entries
  unfoldable pub choice_of : Job M → List (Entry M) → ℕ → Choice M
  choice_of j tree zero = no_choice
  choice_of j tree (suc n) = foremost j tree (choice_of j tree n) n (get_or tree n no_entry).offer

  abbrev pub choice : Job M → List (Entry M) → Choice M
  choice j tree = choice_of j tree (length tree)

  -- ---- one split
  module _ (j : Job M) (rows : List Row) (e : Entry M) (o : Offer M) where
    -- the rows of the node's span that go to gt, and the others, each with its own mode's tokens
    unfoldable pub gt_rows : List Row
    gt_rows = fresh j.uses (above_rows (is_above o.prop o.val) (within e.span rows))

    unfoldable pub le_rows : List Row
    le_rows = fresh j.uses (other_rows (is_above o.prop o.val) (within e.span rows))

    unfoldable pub gt_span : Span
    gt_span = record { first = e.span.first; end = e.span.first + length gt_rows }

    unfoldable pub le_span : Span
    le_span = record { first = e.span.first + length gt_rows; end = e.span.end }

    unfoldable pub gt_leaf : Entry M
    gt_leaf = leaf_over j gt_rows (span_mode j.uses gt_rows) gt_span (suc e.depth)

    unfoldable pub le_leaf : Entry M
    le_leaf = leaf_over j le_rows (span_mode j.uses le_rows) le_span (suc e.depth)

    -- the rows outside the span stay where they are
    unfoldable pub split_rows : List Row
    split_rows = take e.span.first rows ++ gt_rows ++ le_rows ++ drop e.span.end rows

  -- the node becomes a split that keeps its span, its depth and what stands beside it
  unfoldable pub become_split : Entry M → Offer M → ℕ → Entry M
  become_split e o n = record { node = split o.prop o.val n (suc n); info = e.info; span = e.span; depth = e.depth; offer = none }

  -- gt and then le are appended
  unfoldable pub split_at : Job M → State M → ℕ → Offer M → State M
  split_at j s i o =
      let e = get_or s.tree i no_entry in
      let gt = gt_leaf j s.rows e o in
      let le = le_leaf j s.rows e o in
      record {
        rows = split_rows j s.rows e o;
        tree = set s.tree i (become_split e o (length s.tree)) ++ (gt ∷ le ∷ []);
        bits = grown_bits M s.bits gt.info.cost le.info.cost e.info.cost;
      }

  unfoldable pub step_to : Job M → State M → Choice M → State M
  step_to j s no_choice = s
  step_to j s (chosen i o) = split_at j s i o

  unfoldable pub step : Job M → State M → State M
  step j s = step_to j s (choice j s.tree)

  -- so many splits, or as many as there are
  unfoldable pub steps : Job M → ℕ → State M → State M
  steps j zero s = s
  steps j (suc n) s = step j (steps j n s)
