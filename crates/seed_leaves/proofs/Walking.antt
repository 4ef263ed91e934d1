-- A seed planted node by node: what planting a node asks for holds at each, and after it one node more is planted. Assumes nothing.
use mathlib.Core.Path.{◌≡◌, refl, sym, ap, ◌∙◌, subst}
use mathlib.Core.Bool.{Bool, true, false, cond}
use mathlib.Core.List.{List, [], ◌++◌}
use Prim.Native.Nat.{ℕ, suc, ◌+◌, ◌≤◌, ◌<◌}
use native.Mathlib.Nat.{le_trans, mul-le-mul_right}
use native.Mathlib.Numerals.{add-one}
use native.Mathlib.Omega.{arith}
use lib.ListN.{length, get_or, take, drop, length-map}
use lib.Ieee.{Float}
use lib.Dec.{eqb}
use Rattle.model.specs.Settings.{max_nodes}
use Rattle.model.specs.Meter.{Meter}
use Rattle.model.specs.Single.{singles}
use Rattle.model.specs.Rows.{Row, Span}
use Rattle.model.specs.Profile.{single, job_of}
use Rattle.model.specs.Tree.{Node, split, leaf, is_leaf, Record, blank_record, nodes_of}
use Rattle.model.specs.Job as model
use Rattle.model.specs.Grow.{State}
use Rattle.model.specs.Learn.{leaf_count}
use Rattle.model.specs.Deepen.{rows_at, with_seed_node}
use Rattle.model.specs.Accepting.{LogsWithin}
use Rattle.refuse.specs.Given.{settings_of}
use Rattle.refuse.specs.declared.Job.{Job}
use Rattle.layout.proofs.Queue.{same_queue}
use Rattle.layout.specs.Records.{node_is, no_record, node_at, span_is, no_span_record}
use Rattle.layout.specs.Values.{info_is}
use Rattle.layout.specs.declared.MaNode.{MaNode}
use Rattle.layout.specs.declared.Tree.{Tree}
use Rattle.layout.specs.Tree.{NodeLists, HasRoom, holding, info_at, depth_at}
use Rattle.layout.specs.Waiting.{QueueListsOf, QueueLists, Queued, QueueRoom, SameQueue, waiting_from, words_per_leaf}
use Rattle.queue.specs.declared.Queue.{Queue}
use Rattle.queue.specs.Lent.{queue_in}
use Rattle.layout.proofs.Held.{room-fewer, holding-room, holding-none}
use Rattle.order.specs.Order.{first_of}
use Rattle.order.specs.Leaves.{leaf_numbers}
use Rattle.order.proofs.OrderLaws.{first-none, first_more, first-few}
use Rattle.rows.specs.Cells.{span}
use Rattle.rows.specs.Flat.{Flat, held_in, row_count}
use Rattle.rows.proofs.Cells.{length-held}
use Rattle.rows.proofs.Shapes.{size_same, size-then, count_still}
use Rattle.lent.specs.Lists.{Lists, Work, lists, work}
use Rattle.lent.specs.Fitting.{uses_of}
use Rattle.seed_rows.specs.Ordered.{seed_in}
use Rattle.seed_leaves.specs.Sown.{span_at, seeded_to, Sown, NodeFits, NextIs, NodePlanted, Plants, PlantedTo}
use Rattle.seed_leaves.proofs.SeedLists.{seed-length, nodes-length, record_in_lem, node_in, seed-few}
use Rattle.seed_leaves.proofs.SeedLists.{record_still, span_still}
use Rattle.seed_leaves.proofs.Seeding.{leaves-more, leaves-few, seeded-none, seeded-more, seeded-length, split-empty, mine-length, seeded-rows, rows_left}

-- a node's kind says whether it is a leaf
leaf-kind : (m : MaNode) → is_leaf (node_is m) ≡ cond (eqb m.kind 1) false true
leaf-kind m = go (eqb m.kind 1)
  where
    go : (b : Bool) → is_leaf (cond b (split m.prop m.val m.gt m.le) leaf) ≡ cond b false true
    go true = refl
    go false = refl

one_if : (b : Bool) → cond b 0 1 ≡ cond {A = ℕ} (cond b false true) 1 0
one_if true = refl
one_if false = refl

pub room-queue : {M : Meter} {k m : ℕ} {q p : QueueListsOf M} → k ≤ m → SameQueue q p → QueueRoom m q → QueueRoom k p
room-queue h same room = record {
  words = rw same.words (le_trans (mul-le-mul_right words_per_leaf h) room.words);
  values = rw same.values (le_trans h room.values);
  gains = rw same.gains (le_trans h room.gains);
}

module _ {job : Job} {counts : List ℕ} {x : Flat} {n : NodeLists} {q : QueueLists} {count : ℕ} {scored : Bool} {given : List Row}
    (given_to : Plants job (lists x n q counts) count scored given) where
  abbrev seed : List (Record singles)
  seed = seed_in count n

  abbrev nodes : List Node
  nodes = nodes_of seed

  abbrev ks : List ℕ
  ks = leaf_numbers nodes given

  abbrev j : model.Job singles
  j = job_of single (settings_of job.settings) job.logs.now (uses_of job.settings x)

  abbrev to : ℕ → State singles
  to = seeded_to j seed given

  abbrev mine : ℕ → List Row
  mine i = rows_at nodes i given

  walk-few : (0 < count) × (count ≤ max_nodes)
  walk-few = seed-few count n given_to.room given_to.sound

  long : length seed ≡ count
  long = seed-length count n given_to.room

  numbers-long : length ks ≡ row_count x
  unfolding leaf_numbers
  numbers-long = length-map given _ ∙ given_to.many

  rows_long : length (held_in x) ≡ row_count x
  rows_long = length-held x.props x.toks x.res

  -- ---- before the first node
  pub planted-none : (p : Queue) → p.waiting ≡ 0 → SameQueue q (queue_in p) → (bits : Float) → bits ≡ singles.no_total
      → PlantedTo job (lists x n q counts) (work counts x n p) (record { nodes = 0; bits = bits }) count 0 scored given
  unfolding waiting_from
  planted-none p none same bits nothing = record {
    size = size_same x;
    queue = same;
    zeros = refl;
    few = omega (arith, none);
    sown = subst (λ (st : State singles). Sown job (work counts x n p) (record { nodes = 0; bits = bits }) scored (uses_of job.settings x) n st (drop (first_of ks 0) (held_in x)))
        (sym (seeded-none j seed given))
        (record {
          fitting = given_to.fitting;
          modes = refl;
          rows = rw (first-none ks);
          nodes = sym (holding-none n);
          queued = λ t. subst (λ (k : ℕ). Queued k (queue_in p) []) (sym none) (record { many = refl; words = refl; values = refl; gains = refl });
          idle = λ t. none;
          counted = refl;
          summed = nothing;
        });
  }

  -- ---- node i, the next
  module _ {counts' : List ℕ} {y : Flat} {n' : NodeLists} {q' : Queue} {tree : Tree} (inside : tree.nodes < count)
      (done : PlantedTo job (lists x n q counts) (work counts' y n' q') tree count tree.nodes scored given) where
    abbrev i : ℕ
    i = tree.nodes

    here : length (to i).tree ≡ i
    here = seeded-length j seed given i (omega (arith, long))

    gone : length (to i).rows ≡ first_of ks i
    gone = seeded-rows j seed given given_to.sound i (omega (arith, long))

    held : n' ≡ holding (to i).tree n
    held = done.sown.nodes

    span-is : span_at n'.spans i ≡ span (first_of ks i) (first_of ks (suc i))
    span-is = ap span_is (ap (λ (m : NodeLists). get_or m.spans i no_span_record) held ∙ span_still (to i).tree n i here) ∙ given_to.spans i inside

    record-is : get_or n'.nodes i no_record ≡ get_or n.nodes i no_record
    record-is = ap (λ (m : NodeLists). get_or m.nodes i no_record) held ∙ record_still (to i).tree n i here

    node-is : node_at n'.nodes i ≡ get_or nodes i leaf
    node-is = ap node_is record-is ∙ sym (node_in count n given_to.room i inside)

    info-is : info_at n' i ≡ (get_or seed i blank_record).info
    info-is = ap (λ (m : MaNode). info_is m.info) record-is ∙ ap (λ (r : Record singles). r.info) (sym (record_in_lem count n given_to.room i blank_record inside))

    depth-is : depth_at n' i ≡ (get_or seed i blank_record).depth
    depth-is = ap (λ (m : MaNode). m.depth) record-is ∙ ap (λ (r : Record singles). r.depth) (sym (record_in_lem count n given_to.room i blank_record inside))

    is_leaf_lem : is_leaf (get_or nodes i leaf) ≡ cond (eqb (get_or n'.nodes i no_record).kind 1) false true
    is_leaf_lem = ap is_leaf (sym node-is) ∙ leaf-kind (get_or n'.nodes i no_record)

    one_more : leaf_count (take (suc i) nodes) ≡ leaf_count (take i nodes) + cond (eqb (get_or n'.nodes i no_record).kind 1) 0 1
    one_more =
        leaves-more nodes i (rw (nodes-length count n given_to.room) inside)
        ∙ ap (λ (k : ℕ). leaf_count (take i nodes) + k) (ap (λ (b : Bool). cond b 1 0) is_leaf_lem ∙ sym (one_if (eqb (get_or n'.nodes i no_record).kind 1)))

    end-inside : first_of ks (suc i) ≤ row_count x
    end-inside = omega (arith, first-few ks (suc i), numbers-long)

    size : row_count y ≡ row_count x
    size = count_still done.size

    pub node_fits : NodeFits job (work counts' y n' q') tree scored
    node_fits = record {
      fitting = done.sown.fitting;
      logs_small = subst (λ (k : ℕ). LogsWithin k job.logs.now) (sym size) given_to.logs_small;
      spanned = rw span-is (record {
        shaped = done.sown.fitting.shaped;
        ordered = omega (arith, first_more ks i);
        inside = omega
            (arith, end-inside, size);
      });
      room = subst (HasRoom (i + 1)) (sym held) (holding-room (to i).tree n (room-fewer given_to.room (omega arith)));
      few = omega (arith, walk-few.1);
      queue_room = λ t k.
          let more : leaf_count (take (suc i) nodes) ≡ leaf_count (take i nodes) + 1 = rw k at one_more in
          let waits = done.few in
          let all = leaves-few nodes (suc i) in
          room-queue (omega arith) done.queue (given_to.queue_room t);
    }

    next-is : NextIs n' i n (to i) (mine i)
    next-is = record {
      first = ap (λ (s : Span). s.first) span-is ∙ sym gone;
      end = ap (λ (s : Span). s.end) span-is ∙ first_more ks i ∙ (λ t. sym gone t + sym (mine-length j seed given given_to.sound i) t);
      bare = λ e. split-empty j seed given given_to.sound i (is_leaf_lem ∙ rw e);
      room = room-fewer given_to.room (omega arith);
    }

    left_is : drop (first_of ks i) (held_in x) ≡ mine i ++ drop (first_of ks (suc i)) (held_in x)
    left_is =
        ap (drop (first_of ks i)) given_to.rows ∙ rows_left j seed given given_to.sound count i inside (omega (arith, ap length given_to.rows, rows_long, end-inside))
        ∙ ap (λ (l : List Row). mine i ++ drop (first_of ks (suc i)) l) (sym given_to.rows)

    module _ {counts'' : List ℕ} {z : Flat} {n'' : NodeLists} {q'' : Queue} {tree' : Tree}
        (planted : NodePlanted job (work counts' y n' q') (work counts'' z n'' q'') tree tree' scored) where
      state-is : with_seed_node j (node_at n'.nodes i) (info_at n' i) (depth_at n' i) (mine i) (to i) ≡ to (suc i)
      state-is = (λ t. with_seed_node j (node-is t) (info-is t) (depth-is t) (mine i) (to i)) ∙ sym (seeded-more j seed given i (omega (arith, long)))

      gained : Sown job (work counts'' z n'' q'') tree' scored (uses_of job.settings x) n (to (suc i)) (drop (first_of ks (suc i)) (held_in x))
      gained =
          subst (λ (st : State singles). Sown job (work counts'' z n'' q'') tree' scored (uses_of job.settings x) n st (drop (first_of ks (suc i)) (held_in x))) state-is
          (planted.sown (uses_of job.settings x) n (to i) (mine i) (drop (first_of ks (suc i)) (held_in x))
          (subst (λ (l : List Row). Sown job (work counts' y n' q') tree scored (uses_of job.settings x) n (to i) l) left_is done.sown) next-is)

      next : PlantedTo job (lists x n q counts) (work counts'' z n'' q'') tree' count (suc i) scored given
      next = record {
        size = size-then done.size planted.size;
        queue = same_queue done.queue planted.queue;
        zeros = planted.zeros ∙ done.zeros;
        few = omega (arith, planted.risen, done.few, one_more);
        sown = gained;
      }

      pub planted-more : PlantedTo job (lists x n q counts) (work counts'' z n'' q'') tree' count tree'.nodes scored given
      planted-more = subst (λ (k : ℕ). PlantedTo job (lists x n q counts) (work counts'' z n'' q'') tree' count k scored given) (sym (planted.counted ∙ add-one i)) next

-- ---- what the walk keeps
pub record Walked (job : Job) (x : Lists) (w : Work) (tree : Tree) (count : ℕ) (scored : Bool) (i : ℕ) : Type 0 where
  pub passed : tree.nodes ≡ i
  pub planted : (given : List Row) → Plants job x count scored given → PlantedTo job x w tree count tree.nodes scored given

pub walked-none : {job : Job} {counts : List ℕ} {x : Flat} {n : NodeLists} {q : QueueLists} {count : ℕ} {scored : Bool} {bits : Float} (p : Queue) → p.waiting ≡ 0
    → SameQueue q (queue_in p) → bits ≡ singles.no_total → Walked job (lists x n q counts) (work counts x n p) (record { nodes = 0; bits = bits }) count scored 0
walked-none p none same nothing = record { passed = refl; planted = λ given plants. planted-none plants p none same _ nothing }

module _ {job : Job} {counts counts' : List ℕ} {x y : Flat} {n n' : NodeLists} {q : QueueLists} {q' : Queue} {tree : Tree} {count i : ℕ} {scored : Bool}
    (w : Walked job (lists x n q counts) (work counts' y n' q') tree count scored i) where
  pub walked-more : {counts'' : List ℕ} {z : Flat} {n'' : NodeLists} {q'' : Queue} {tree' : Tree} → i < count → NodePlanted job (work counts' y n' q') (work counts'' z n'' q'') tree tree' scored
      → Walked job (lists x n q counts) (work counts'' z n'' q'') tree' count scored (i + 1)
  walked-more inside more = record {
    passed = omega (arith, w.passed, more.counted);
    planted = λ given p. planted-more p (omega (arith, w.passed)) (w.planted given p) more;
  }

  pub walked-all : i ≡ count → (given : List Row) → Plants job (lists x n q counts) count scored given → PlantedTo job (lists x n q counts) (work counts' y n' q') tree count count scored given
  walked-all all given p = subst (λ (k : ℕ). PlantedTo job (lists x n q counts) (work counts' y n' q') tree count k scored given) (w.passed ∙ all) (w.planted given p)
