-- The lists that the learner works on: what the model reads in the queue's, and what they all hold after acceptance, entry by entry
-- (document 01, "Which number comes back"). Assumes nothing.
use Rattle.std.specs.Prelude.{ℕ, ◌+◌, ◌*◌, List, map, length, get_or, replicate, pos}
use Rattle.model.specs.Lists.{range, written_over}
use Rattle.model.specs.Meter.{Meter}
use Rattle.model.specs.Single.{singles}
use Rattle.model.specs.Rows.{Span}
use Rattle.model.specs.Tree.{Record}
use Rattle.model.specs.Learn.{Result}
use Rattle.model.specs.Lent.{stored, Waiting}
use Rattle.layout.specs.Records.{record_of, span_record}
use Rattle.layout.specs.Tree.{NodeLists, node_lists}
use Rattle.layout.specs.Lent.{lists_in}
use Rattle.layout.specs.Waiting.{QueueListsOf, QueueLists, words_per_leaf}
use Rattle.layout.specs.declared.MaNode.{MaNode}
use Rattle.layout.specs.declared.Span as layout
use Rattle.queue.specs.Lent.{queue_in}
use Rattle.queue.specs.Room.{leaves_lent, cleared}
use Rattle.queue.specs.declared.Queue.{Queue}
use Rattle.rows.specs.Flat.{Flat, flat_of, has_residuals}
use Rattle.rows.specs.Lent.{flat_in}
use Rattle.lent.specs.declared.Lists as lent

-- rows; nodes with their spans; queue; count space
pub record Lists : Type 0 where
  pub rows : Flat
  pub nodes : NodeLists
  pub queue : QueueLists
  pub counts : List ℕ

abbrev pub lists : Flat → NodeLists → QueueLists → List ℕ → Lists
lists rows nodes queue counts = record { rows = rows; nodes = nodes; queue = queue; counts = counts }

-- what lent lists hold
abbrev pub lists_now : lent.Lists → Lists
lists_now x = lists (flat_in x.rows.now) (lists_in x.at.now) (queue_in x.queue.now) x.counts.now

-- count space, rows, nodes and queue, with how many leaves wait
pub record Work : Type 0 where
  pub counts : List ℕ
  pub rows : Flat
  pub nodes : NodeLists
  pub queue : Queue

abbrev pub work : List ℕ → Flat → NodeLists → Queue → Work
work counts rows nodes queue = record { counts = counts; rows = rows; nodes = nodes; queue = queue }

-- the same of lent lists
abbrev pub work_in : lent.Lists → Work
work_in x = work x.counts.now (flat_in x.rows.now) (lists_in x.at.now) x.queue.now

-- ---- what the model reads in the queue's lists
abbrev pub waiting_at : {M : Meter} → QueueListsOf M → ℕ → Waiting M
waiting_at {M} q i =
    record {
      node = get_or q.words (i * words_per_leaf) 0;
      depth = get_or q.words (i * words_per_leaf + 2) 0;
      offer = record {
        prop = get_or q.words (i * words_per_leaf + 1) 0;
        val = get_or q.values i (pos 0);
        gain = get_or q.gains i M.spare;
        below = get_or q.words (i * words_per_leaf + 3) 0;
      };
    }

unfoldable pub stored_queue : {M : Meter} → QueueListsOf M → List (Waiting M)
stored_queue q = map (waiting_at q) (range 0 (leaves_lent q))

-- ---- after acceptance

-- a record written, and its span
abbrev pub node_written : Record singles → MaNode
node_written r = record_of (stored r)

abbrev pub span_written : Span → layout.Span
span_written s = span_record s

-- the nodes and spans written; what lies past them is unchanged
unfoldable pub nodes_after : Result singles → NodeLists → NodeLists
nodes_after r n = node_lists (written_over (map node_written r.records) n.nodes) (written_over (map span_written r.spans) n.spans)

-- and the queue holds zeros
unfoldable pub lists_after : Result singles → Lists → Lists
lists_after r x =
    record {
      rows = flat_of (has_residuals x.rows) r.rows;
      nodes = nodes_after r x.nodes;
      queue = cleared x.queue;
      counts = replicate (length x.counts) 0;
    }
