-- A seed's nodes planted one after the other: what the lists hold after some of them (document 01, "Deepening"). Assumes nothing.
use Rattle.std.specs.Prelude.{ℕ, suc, ◌+◌, ◌≤◌, ◌<◌, ◌≡◌, Bool, true, false, cond, List, [], ◌++◌, length, get_or, take, drop, eqb}
use Rattle.std.proofs.Math.Option.{none}
use Rattle.std.specs.Float.Ieee.{add}
use Rattle.std.specs.Float.{binary64}
use Rattle.model.specs.Settings.{max_nodes}
use Rattle.model.specs.Meter.{Meter}
use Rattle.model.specs.Single.{singles}
use Rattle.model.specs.Rows.{Row, Span}
use Rattle.model.specs.Tree.{Record, nodes_of, fault_of}
use Rattle.model.specs.Learn.{leaf_count}
use Rattle.model.specs.Profile.{single, job_of}
use Rattle.model.specs.Job as model
use Rattle.model.specs.Grow.{State}
use Rattle.model.specs.Lent.{Waiting}
use Rattle.model.specs.Deepen.{with_seed_node, seed_from}
use Rattle.model.specs.Accepting.{LogsWithin}
use Rattle.refuse.specs.Given.{settings_of}
use Rattle.refuse.specs.declared.Job.{Job}
use Rattle.layout.specs.declared.Leaf.{Leaf}
use Rattle.layout.specs.Values.{offer_is}
use Rattle.layout.specs.Records.{no_record, node_at, span_is, no_span_record}
use Rattle.layout.specs.declared.Span as layout
use Rattle.layout.specs.declared.Tree.{Tree}
use Rattle.layout.specs.Tree.{NodeLists, holding, HasRoom, put, leaf_with, info_at, depth_at}
use Rattle.layout.specs.Waiting.{Queued, QueueRoom, SameQueue, queue_of, waits}
use Rattle.queue.specs.Lent.{queue_in}
use Rattle.order.specs.Order.{ordered_by, first_of}
use Rattle.order.specs.Leaves.{leaf_numbers}
use Rattle.rows.specs.Cells.{span}
use Rattle.rows.specs.Flat.{held_in, row_count, Spanned, SameSize}
use Rattle.lent.specs.Fitting.{uses_of, Fitting}
use Rattle.lent.specs.Lists.{Lists, Work}
use Rattle.leaf.specs.Made.{MadeLeaf}
use Rattle.seed_rows.specs.Ordered.{seed_in}

-- span i of a list
abbrev pub span_at : List layout.Span → ℕ → Span
span_at spans i = span_is (get_or spans i no_span_record)

-- the model's state after the first i nodes of the seed
unfoldable pub seeded_to : {M : Meter} → model.Job M → List (Record M) → List Row → ℕ → State M
seeded_to {M} j seed rows i = seed_from j (nodes_of seed) rows 0 (take i seed) (record { rows = []; tree = []; bits = M.no_total })

-- The lists hold the state `st`, over what was lent; behind its rows stand those of the leaves still to come. What waits is kept only if leaves are scored
pub record Sown (job : Job) (w : Work) (tree : Tree) (scored uses : Bool)
    (lent : NodeLists) (st : State singles) (left : List Row) : Type 0 where
  pub fitting : Fitting job w.counts w.rows
  pub modes : uses_of job.settings w.rows ≡ uses
  pub rows : held_in w.rows ≡ st.rows ++ left
  pub nodes : w.nodes ≡ holding st.tree lent
  pub queued : scored ≡ true → Queued w.queue.waiting (queue_in w.queue) (queue_of st.tree)
  pub idle : scored ≡ false → w.queue.waiting ≡ 0
  pub counted : tree.nodes ≡ length st.tree
  pub summed : tree.bits ≡ st.bits

-- ---- one node

-- a leaf over the rows from first to end can be evaluated as the next node, and there is room for it, and in the queue if it is scored
pub record LeafReady (job : Job) (w : Work) (tree : Tree) (sp : Span) (scored : Bool) : Type 0 where
  pub fitting : Fitting job w.counts w.rows
  pub logs_small : LogsWithin (row_count w.rows) job.logs.now
  pub spanned : Spanned sp w.rows
  pub room : HasRoom (tree.nodes + 1) w.nodes
  pub few : tree.nodes < max_nodes
  pub queue_room : scored ≡ true → QueueRoom (w.queue.waiting + 1) (queue_in w.queue)

-- it was: what it came to is written, waits if it offers a split, and its cost is added
pub record LeafPlanted (job : Job) (w w' : Work) (tree tree' : Tree) (sp : Span) (depth : ℕ) (scored : Bool) : Type 0 where
  pub leaf : Leaf
  pub made : MadeLeaf scored job depth sp w.rows w'.rows leaf
  pub nodes : w'.nodes ≡ put tree.nodes (leaf_with leaf.info sp.first sp.end depth) w.nodes
  pub queued : (leaves : List (Waiting singles)) → Queued w.queue.waiting (queue_in w.queue) leaves
      → Queued w'.queue.waiting (queue_in w'.queue) (leaves ++ waits tree.nodes depth (offer_is leaf.offer))
  pub counted : tree'.nodes ≡ tree.nodes + 1
  pub many : w'.queue.waiting ≡ w.queue.waiting + length (waits tree.nodes depth (offer_is leaf.offer))
  pub queue : SameQueue (queue_in w.queue) (queue_in w'.queue)
  pub summed : tree'.bits ≡ add binary64 tree.bits leaf.info.cost
  pub zeros : w'.counts ≡ w.counts

-- the next node can be planted: its span is one of the lists, and there is room for it, and in the queue if it is a leaf that is scored
pub record NodeFits (job : Job) (w : Work) (tree : Tree) (scored : Bool) : Type 0 where
  pub fitting : Fitting job w.counts w.rows
  pub logs_small : LogsWithin (row_count w.rows) job.logs.now
  pub spanned : Spanned (span_at w.nodes.spans tree.nodes) w.rows
  pub room : HasRoom (tree.nodes + 1) w.nodes
  pub few : tree.nodes < max_nodes
  pub queue_room : scored ≡ true → eqb (get_or w.nodes.nodes tree.nodes no_record).kind 1 ≡ false
      → QueueRoom (w.queue.waiting + 1) (queue_in w.queue)

-- node i is the next of the state, and its span holds the rows `mine`; a split has none
pub record NextIs (n : NodeLists) (i : ℕ) (lent : NodeLists) (st : State singles) (mine : List Row) : Type 0 where
  pub first : (span_at n.spans i).first ≡ length st.rows
  pub end : (span_at n.spans i).end ≡ length st.rows + length mine
  pub bare : eqb (get_or n.nodes i no_record).kind 1 ≡ true → mine ≡ []
  pub room : HasRoom (i + 1) lent

-- every state that the lists held has gained the next node at the depth that it stores, as the model gains it
pub record NodePlanted (job : Job) (w w' : Work) (tree tree' : Tree) (scored : Bool) : Type 0 where
  pub size : SameSize w.rows w'.rows
  pub queue : SameQueue (queue_in w.queue) (queue_in w'.queue)
  pub zeros : w'.counts ≡ w.counts
  pub counted : tree'.nodes ≡ tree.nodes + 1
  pub risen : w'.queue.waiting ≤ w.queue.waiting + cond (eqb (get_or w.nodes.nodes tree.nodes no_record).kind 1) 0 1
  pub sown : (uses : Bool) (lent : NodeLists) (st : State singles) (mine left : List Row) → Sown job w tree scored uses lent st (mine ++ left)
      → NextIs w.nodes tree.nodes lent st mine
      → Sown job w' tree' scored uses lent
      (with_seed_node (job_of single (settings_of job.settings) job.logs.now uses) (node_at w.nodes.nodes tree.nodes) (info_at w.nodes tree.nodes)
      (depth_at w.nodes tree.nodes) mine st) left

-- ---- all nodes

-- the rows stand in the order of the seed's leaves, whose spans stand beside them; they were given in another order
pub record Plants (job : Job) (x : Lists) (count : ℕ) (scored : Bool) (given : List Row) : Type 0 where
  pub fitting : Fitting job x.counts x.rows
  pub logs_small : LogsWithin (row_count x.rows) job.logs.now
  pub room : HasRoom count x.nodes
  pub sound : fault_of (seed_in count x.nodes) ≡ none
  pub rows : held_in x.rows ≡ ordered_by (leaf_numbers (nodes_of (seed_in count x.nodes)) given) count given
  pub many : length given ≡ row_count x.rows
  pub spans : (i : ℕ) → i < count → span_at x.nodes.spans i ≡ span (first_of (leaf_numbers (nodes_of (seed_in count x.nodes)) given) i)
      (first_of (leaf_numbers (nodes_of (seed_in count x.nodes)) given) (suc i))
  pub queue_room : scored ≡ true → QueueRoom (leaf_count (nodes_of (seed_in count x.nodes))) x.queue

-- there are such rows
pub record Sowable (job : Job) (x : Lists) (count : ℕ) (scored : Bool) : Type 0 where
  pub given : List Row
  pub plants : Plants job x count scored given

-- the first i nodes of the seed are planted
pub record PlantedTo (job : Job) (x : Lists) (w : Work) (tree : Tree) (count i : ℕ) (scored : Bool) (given : List Row) : Type 0 where
  pub size : SameSize x.rows w.rows
  pub queue : SameQueue x.queue (queue_in w.queue)
  pub zeros : w.counts ≡ x.counts
  pub few : w.queue.waiting ≤ leaf_count (take i (nodes_of (seed_in count x.nodes)))
  pub sown : Sown job w tree scored (uses_of job.settings x.rows) x.nodes
      (seeded_to (job_of single (settings_of job.settings) job.logs.now (uses_of job.settings x.rows)) (seed_in count x.nodes) given i)
      (drop (first_of (leaf_numbers (nodes_of (seed_in count x.nodes)) given) i) (held_in x.rows))
