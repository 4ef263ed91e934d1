-- The lent lists of learning and deepening with their node and span lists of records: what the model's `Lent` reads in them, and what they hold afterwards,
-- record by record (document 01, "Which number comes back"). Assumes nothing.
use Rattle.std.specs.Prelude.{◌≡◌, ℕ, Bool, cond, List, map, length, replicate, ℤ, Float}
use Rattle.std.specs.Borrow.{MutBor}
use Rattle.model.specs.Lists.{written_over}
use Rattle.model.specs.Settings.{Settings}
use Rattle.model.specs.Single.{singles}
use Rattle.model.specs.Profile.{single, job_of}
use Rattle.model.specs.Learn.{Result, learned}
use Rattle.model.specs.Deepen.{deepened}
use Rattle.model.specs.Lent.{Lent, stored, rows_in, uses_modes, tree_in}
use Rattle.model.specs.Refuse.{learn_refusal, deepen_refusal}
use Rattle.model.specs.Operations.{After, Tree, ContextLists, tree_of, unless, learn, deepen}
use Rattle.model.specs.Tree.{Record}
use Rattle.layout.specs.Waiting.{QueueLists, queue_lists}
use Rattle.queue.specs.Lent.{queue_in}
use Rattle.queue.specs.Room.{leaves_lent, cleared}
use Rattle.refuse.specs.declared.Rooms.{Rooms}
use Rattle.rows.specs.Flat.{Flat, flat, flat_of, has_residuals}
use Rattle.rows.specs.Lent.{flat_in}
use Rattle.lent.specs.declared.Lists.{Lists}
use Rattle.lent.specs.Lists.{stored_queue}
use Rattle.layout.specs.Records.{stored_of, record_of, span_is, span_record}
use Rattle.layout.specs.declared.MaNode.{MaNode}
use Rattle.layout.specs.declared.Span.{Span}
use Rattle.answers.specs.declared.LearnedTree.{LearnedTree}
use Rattle.answers.specs.Answers.{learned_in}

-- rows; node records; span records; queue; count space
pub record Records : Type 0 where
  pub rows : Flat
  pub nodes : List MaNode
  pub spans : List Span
  pub queue : QueueLists
  pub counts : List ℕ

abbrev pub records : Flat → List MaNode → List Span → QueueLists → List ℕ → Records
records rows nodes spans queue counts = record { rows = rows; nodes = nodes; spans = spans; queue = queue; counts = counts }

-- what lent lists hold, with these records
abbrev pub records_with : List MaNode → List Span → MutBor (List ℤ) → MutBor (List ℕ) → MutBor (List ℤ) → MutBor (List ℕ) → MutBor (List ℤ)
    → MutBor (List Float) → MutBor (List ℕ) → Records
records_with nodes spans props tok res queue_words queue_values queue_gains counts =
    records (flat props.now tok.now res.now) nodes spans (queue_lists queue_words.now queue_values.now queue_gains.now) counts.now

-- what the learner's struct holds
abbrev pub records_in : Lists → Records
records_in x = records (flat_in x.rows.now) x.at.now.nodes.now x.at.now.spans.now (queue_in x.queue.now) x.counts.now

-- how many entries there are
abbrev pub rooms_in : Records → Rooms
rooms_in x = record { nodes = length x.nodes; spans = length x.spans; queue = leaves_lent x.queue; counts = length x.counts }

-- and those lent to contexts
abbrev pub contexts_now : MutBor (List ℕ) → MutBor (List ℕ) → ContextLists
contexts_now contexts queue = record { contexts = contexts.now; queue = queue.now }

-- what the model reads in them
abbrev pub lent_in : Records → Lent singles
lent_in x =
    record {
      props = x.rows.props;
      toks = x.rows.toks;
      res = x.rows.res;
      nodes = map stored_of x.nodes;
      spans = map span_is x.spans;
      queue = stored_queue x.queue;
      counts = x.counts;
    }

-- a node of the tree as a record
abbrev pub node_record : Record singles → MaNode
node_record r = record_of (stored r)

-- after acceptance: the rows in their new order, the nodes and spans written, and what lies past them unchanged; queue and count space hold zeros
unfoldable pub records_after : Result singles → Records → Records
records_after r x =
    record {
      rows = flat_of (has_residuals x.rows) r.rows;
      nodes = written_over (map node_record r.records) x.nodes;
      spans = written_over (map span_record r.spans) x.spans;
      queue = cleared x.queue;
      counts = replicate (length x.counts) 0;
    }

-- what the model reads in the lists at exit
abbrev pub read_after : {A : Type 0} → After A Records → After A (Lent singles)
read_after a = record { outcome = a.outcome; lent = lent_in a.lent }

-- ---- the operations, record by record: a refusal leaves every list as it was
module _ (t : Settings singles) (logs : List Float) where
  unfoldable pub learn_records : Records → After (Tree singles) Records
  learn_records x =
      let r = learned (job_of single t logs (uses_modes t (lent_in x))) t.limit (rows_in (lent_in x)) in
      let answer = tree_of r in
      let exit = records_after r x in
      unless (learn_refusal single t logs (lent_in x)) x answer exit

  unfoldable pub deepen_records : ℕ → Records → After (Tree singles) Records
  deepen_records count x =
      let r = deepened (job_of single t logs (uses_modes t (lent_in x))) t.limit (tree_in count (lent_in x).nodes) (rows_in (lent_in x)) in
      let answer = tree_of r in
      let exit = records_after r x in
      unless (deepen_refusal single t logs count (lent_in x)) x answer exit

  -- deepening of the first `count` nodes if there is a seed, else learning; the model's operation, and the same record by record
  abbrev pub work_of : Bool → ℕ → Lent singles → After (Tree singles) (Lent singles)
  work_of seeded count x = cond seeded (deepen single t logs count x) (learn single t logs x)

  abbrev pub work_records : Bool → ℕ → Records → After (Tree singles) Records
  work_records seeded count x = cond seeded (deepen_records count x) (learn_records x)

  -- the answer and the lists at exit are the operation's, record by record and in the model's words
  pub record Worked (seeded : Bool) (count : ℕ) (entry exit : Records) (r : LearnedTree) : Type 0 where
    pub answer : r ≡ learned_in (work_records seeded count entry).outcome
    pub lent : exit ≡ (work_records seeded count entry).lent
    pub answer_read : r ≡ learned_in (work_of seeded count (lent_in entry)).outcome
    pub lent_read : lent_in exit ≡ (work_of seeded count (lent_in entry)).lent
