-- The lists that a caller lends to learning and deepening, and what they hold afterwards (document 01, "Which number comes back").
-- Assumes nothing.
use Rattle.std.specs.Prelude.{ℕ, ◌/◌, Bool, cond, not, ◌&&◌, List, [], map, length, take, replicate, ℤ, pos, eqb}
use Rattle.model.specs.Lists.{is_empty, written_over}
use Rattle.model.specs.Meter.{Meter}
use Rattle.model.specs.Settings.{Settings, props_per_row}
use Rattle.model.specs.Rows.{Row, Span, rows_held, props_of, toks_of, res_of}
use Rattle.model.specs.Tree.{Node, split, leaf, Info, Record}
use Rattle.model.specs.Job.{Offer}
use Rattle.model.specs.Learn.{Result}

-- an entry of the lent node list: a node's kind, any number; its fields, for which a leaf has no use; what stands beside it; and its depth
pub record Stored (M : Meter) : Type 0 where
  pub kind : ℕ
  pub prop : ℕ
  pub val : ℤ
  pub gt : ℕ
  pub le : ℕ
  pub info : Info M
  pub depth : ℕ

module _ {M : Meter} where
  -- what is read of an entry: kind 1 is a split, and any other number a leaf, of which nothing is read but what stands beside it and its depth
  abbrev pub record_in : Stored M → Record M
  record_in e = record { node = cond (eqb e.kind 1) (split e.prop e.val e.gt e.le) leaf; info = e.info; depth = e.depth }

  -- what is written: kind 1 or 0; fields a leaf has no use for hold 0
  abbrev pub stored_node : Node → Info M → ℕ → Stored M
  stored_node (split prop val gt le) i depth = record { kind = 1; prop = prop; val = val; gt = gt; le = le; info = i; depth = depth }
  stored_node leaf i depth = record { kind = 0; prop = 0; val = pos 0; gt = 0; le = 0; info = i; depth = depth }

  abbrev pub stored : Record M → Stored M
  stored r = stored_node r.node r.info r.depth

-- an entry of the lent queue: a waiting leaf's number, its depth and what it offers
pub record Waiting (M : Meter) : Type 0 where
  pub node : ℕ
  pub depth : ℕ
  pub offer : Offer M

-- all its fields are 0
abbrev pub no_waiting : {M : Meter} → Waiting M
no_waiting {M} = record { node = 0; depth = 0; offer = record { prop = 0; val = pos 0; gain = M.nought; below = 0 } }

-- 24 properties and 14 tokens a row, none or one residual a row, nodes with what stands beside them, spans, queue and count space
pub record Lent (M : Meter) : Type 0 where
  pub props : List ℤ
  pub toks : List ℕ
  pub res : List ℤ
  pub nodes : List (Stored M)
  pub spans : List Span
  pub queue : List (Waiting M)
  pub counts : List ℕ

module _ {M : Meter} where
  abbrev pub row_count : Lent M → ℕ
  row_count x = length x.props / props_per_row

  -- the rows that the lists hold
  abbrev pub rows_in : Lent M → List Row
  rows_in x = rows_held x.props x.toks x.res

  abbrev pub has_residuals : Lent M → Bool
  has_residuals x = not (is_empty x.res)

  -- residuals are given and modal offsets on
  abbrev pub uses_modes : Settings M → Lent M → Bool
  uses_modes t x = t.modal && has_residuals x

  -- the first `count` entries of the node list as a tree
  abbrev pub tree_in : ℕ → List (Stored M) → List (Record M)
  tree_in count nodes = map record_in (take count nodes)

  -- After acceptance: the rows in their new order, the written entries; those past them are unchanged, count and queue space hold zeros
  unfoldable pub lent_after : Result M → Lent M → Lent M
  lent_after r x =
      record {
        props = props_of r.rows;
        toks = toks_of r.rows;
        res = cond (has_residuals x) (res_of r.rows) [];
        nodes = written_over (map stored r.records) x.nodes;
        spans = written_over r.spans x.spans;
        queue = replicate (length x.queue) no_waiting;
        counts = replicate (length x.counts) 0;
      }
