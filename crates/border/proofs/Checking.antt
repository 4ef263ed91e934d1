-- What the checks say of the caller's lists, and what they ensure of the core's work on them. Assumes nothing.
use mathlib.Core.Path.{◌≡◌, refl, ap, ◌∙◌}
use mathlib.Core.Bool.{true, false}
use mathlib.Core.Option.{Option, none, some}
use Prim.Native.Nat.{ℕ, ◌≤◌, ◌*◌, ◌-◌, max}
use native.Mathlib.Omega.{arith}
use lib.ListN.{length, length-map}
use Rattle.model.specs.Single.{singles}
use Rattle.model.specs.Tree.{fault_of}
use Rattle.model.specs.Profile.{single}
use Rattle.model.specs.Lent.{row_count, tree_in}
use Rattle.model.specs.Learn.{Result}
use Rattle.model.specs.Refuse.{Refusal, refuse_at, learn_refusal, deepen_refusal}
use Rattle.model.specs.Operations.{tree_of, accepted, refused, outcome_of}
use Rattle.model.specs.Accepting.{SeedRooms}
use Rattle.model.proofs.Places.{length-each}
use Rattle.refuse.specs.Given.{settings_of, Lends}
use Rattle.refuse.specs.declared.Job.{Job}
use Rattle.refuse.specs.Accepted.{Accepted}
use Rattle.refuse.proofs.Passed.{deepening, learn-passed, learn-refused, deepen-passed, deepen-refused}
use Rattle.layout.specs.Records.{stored_of, span_is}
use Rattle.layout.specs.Tree.{node_lists, HasRoom}
use Rattle.queue.specs.Room.{leaves_lent}
use Rattle.lent.specs.Lists.{waiting_at, stored_queue}
use Rattle.lent.specs.Lists as core
use Rattle.lent.specs.Answer.{LearnedAs, answer_of}
use Rattle.lent.specs.declared.Finished.{Finished}
use Rattle.from_root.specs.Result.{result_in}
use Rattle.from_seed.specs.Result.{deepened_in}
use Rattle.lent.proofs.Accepting.{accepted-plantable}
use Rattle.learn.specs.Learns.{Learnable}
use Rattle.deepen.specs.Deepens.{Deepenable}
use Rattle.deepen.proofs.Seeding.{accepted-seedable}
use Rattle.answers.specs.Answers.{learned_in}
use Rattle.answers.specs.declared.LearnedTree.{LearnedTree}
use Rattle.border.specs.Lists.{Records, records_after, rooms_in, lent_in, Worked}
use Rattle.border.proofs.Agreeing.{refused-worked, accepted-worked}

-- the rooms that the code counts are those that the model reads
pub lends-records : (x : Records) → Lends x.rows (rooms_in x) (lent_in x)
unfolding stored_queue
lends-records x =
    record {
      props = refl;
      toks = refl;
      res = refl;
      rooms = record {
        nodes = length-map x.nodes stored_of;
        spans = length-map x.spans span_is;
        queue = length-each (waiting_at x.queue) 0 (leaves_lent x.queue);
        counts = refl;
      };
    }

-- the core's lists, and what they hold after acceptance
abbrev pub core_lists : Records → core.Lists
core_lists x = core.lists x.rows (node_lists x.nodes x.spans) x.queue x.counts

left_after : (r : Result singles) (x y : Records) → core_lists y ≡ core.lists_after r (core_lists x) → y ≡ records_after r x
unfolding core.lists_after core.nodes_after records_after
left_after r x y e = ap (λ (l : core.Lists). record { rows = l.rows; nodes = l.nodes.nodes; spans = l.nodes.spans; queue = l.queue; counts = l.counts }) e

-- a finished tree that is the model's result is its answer
same_answer : {r : Finished} (made : Result singles) → LearnedAs made r → learned_in (accepted (answer_of r)) ≡ learned_in (accepted (tree_of made))
same_answer made l = λ i. learned_in (accepted (record { nodes = l.counted i; leaves = l.leaves i; bits = l.summed i; flat = l.flat i }))

-- there is room for so many nodes
roomy : (x : Records) {n : ℕ} → n ≤ length (lent_in x).nodes → n ≤ length (lent_in x).spans → HasRoom n (node_lists x.nodes x.spans)
roomy x a b = let nodes = length-map x.nodes stored_of in
    let spans = length-map x.spans span_is in
    record { nodes = omega arith; spans = omega arith }

-- what the checks say, and what they then ensure
module _ (job : Job) (x : Records) where
  abbrev pub learning : Option Refusal
  learning = learn_refusal single (settings_of job.settings) job.logs.now (lent_in x)

  abbrev pub row_total : ℕ
  row_total = row_count (lent_in x)

  module _ {rows : ℕ} (e : accepted rows ≡ outcome_of learning row_total) where
    abbrev learn-pass : (learning ≡ none) × Accepted job.settings job.logs.now (lent_in x) rows
    learn-pass = learn-passed job.settings job.logs.now (lent_in x) rows e

    pub learnable : Learnable job (core_lists x)
    learnable =
        let a = learn-pass.1 in
        record { plantable = accepted-plantable (lent_in x) a (node_lists x.nodes x.spans) x.queue refl (roomy x a.model.rooms.nodes a.model.rooms.spans) }

  -- a seed of `count` nodes
  module _ (count : ℕ) where
    abbrev pub before_seed : Option Refusal
    before_seed = deepening job.settings job.logs.now (lent_in x) count

    abbrev pub seed_fault : Option ℕ
    seed_fault = fault_of (tree_in count (lent_in x).nodes)

    module _ {rows : ℕ} (e : accepted rows ≡ outcome_of before_seed row_total) where
      abbrev deepen-pass : (deepen_refusal single (settings_of job.settings) job.logs.now count (lent_in x) ≡ refuse_at seed_fault 8 none)
          × Accepted job.settings job.logs.now (lent_in x) rows × SeedRooms count (lent_in x)
      deepen-pass = deepen-passed job.settings job.logs.now (lent_in x) count rows e

      after-seed : (o : Option ℕ) → seed_fault ≡ o → deepen_refusal single (settings_of job.settings) job.logs.now count (lent_in x) ≡ refuse_at o 8 none
      after-seed o is = (deepen-pass).0 ∙ ap (λ (p : Option ℕ). refuse_at p 8 none) is

      pub seed_there : count ≤ length x.nodes
      seed_there = let nodes = length-map x.nodes stored_of in omega (arith, deepen-pass.2.nodes)

      pub deepenable : seed_fault ≡ none → Deepenable job (core_lists x) count
      deepenable sound =
          let a = deepen-pass.1 in
          let rooms = a.model.rooms in
          let more = deepen-pass.2 in
          let room : HasRoom (max (2 * job.settings.max_leaves - 1) count) (node_lists x.nodes x.spans) = roomy x (omega (arith, rooms.nodes, more.nodes)) (omega (arith, rooms.spans, more.spans)) in
          record { seedable = accepted-seedable (lent_in x) a more (node_lists x.nodes x.spans) x.queue refl room sound }

-- what the answer and the lists at exit then are
module _ (job : Job) (x y : Records) {r : LearnedTree} where
  pub learn-told : (f : Refusal) → refused f ≡ outcome_of (learning job x) (row_total job x) → r ≡ learned_in (refused f) → y ≡ x → Worked (settings_of job.settings) job.logs.now false 0 x y r
  learn-told f e is same =
      refused-worked (settings_of job.settings) job.logs.now x false 0 f (learn-refused job.settings job.logs.now (lent_in x) f e) is same

  pub learn-done : {rows : ℕ} → accepted rows ≡ outcome_of (learning job x) (row_total job x) → {tree : Finished} → LearnedAs (result_in job x.rows) tree
      → core_lists y ≡ core.lists_after (result_in job x.rows) (core_lists x) → r ≡ learned_in (accepted (answer_of tree)) → Worked (settings_of job.settings) job.logs.now false 0 x y r
  learn-done e made left is =
      accepted-worked (settings_of job.settings) job.logs.now x false 0 (learn-pass job x e).0 (is ∙ same_answer (result_in job x.rows) made)
      (left_after (result_in job x.rows) x y left)

  module _ (count : ℕ) where
    pub deepen-told : (f : Refusal) → refused f ≡ outcome_of (before_seed job x count) (row_total job x) → r ≡ learned_in (refused f) → y ≡ x → Worked (settings_of job.settings) job.logs.now true count x y r
    deepen-told f e is same =
        refused-worked (settings_of job.settings) job.logs.now x true count f (deepen-refused job.settings job.logs.now (lent_in x) count f e) is same

    module _ {rows : ℕ} (e : accepted rows ≡ outcome_of (before_seed job x count) (row_total job x)) where
      -- a node is at fault
      pub fault-told : (p : ℕ) → seed_fault job x count ≡ some p → r ≡ learned_in (refused (record { number = 8; place = p })) → y ≡ x → Worked (settings_of job.settings) job.logs.now true count x y r
      fault-told p at is same =
          refused-worked (settings_of job.settings) job.logs.now x true count (record { number = 8; place = p }) (after-seed job x count e (some p) at) is same

      pub deepen-done : seed_fault job x count ≡ none → {tree : Finished} → LearnedAs (deepened_in job count x.rows (node_lists x.nodes x.spans)) tree
          → core_lists y ≡ core.lists_after (deepened_in job count x.rows (node_lists x.nodes x.spans)) (core_lists x)
          → r ≡ learned_in (accepted (answer_of tree)) → Worked (settings_of job.settings) job.logs.now true count x y r
      deepen-done sound made left is =
          let result = deepened_in job count x.rows (node_lists x.nodes x.spans) in
          accepted-worked (settings_of job.settings) job.logs.now x true count (after-seed job x count e none sound) (is ∙ same_answer result made) (left_after result x y left)
