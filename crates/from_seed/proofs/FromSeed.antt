-- Growth from a planted seed ends in what deepening makes of it. Assumes nothing.
use mathlib.Core.Path.{◌≡◌, sym, ap, ◌∙◌, subst}
use mathlib.Core.Bool.{Bool}
use mathlib.Core.List.{List}
use Prim.Native.Nat.{ℕ, ◌+◌, ◌-◌, ◌/◌}
use lib.Ieee.{Float}
use Rattle.refuse.specs.declared.Job.{Job}
use Rattle.rows.specs.Flat.{Flat, held_in}
use Rattle.model.specs.Profile.{single, job_of}
use Rattle.model.specs.Tree.{nodes_of}
use Rattle.model.specs.Grow.{steps}
use Rattle.model.specs.Learn.{leaf_count, finished}
use Rattle.model.specs.Deepen.{seed_state, deepened}
use Rattle.refuse.specs.Given.{settings_of}
use Rattle.layout.specs.declared.Tree.{Tree}
use Rattle.layout.specs.Tree.{NodeLists}
use Rattle.layout.specs.Waiting.{QueueLists}
use Rattle.queue.specs.declared.Queue.{Queue}
use Rattle.leaf.proofs.Making.{uses_still}
use Rattle.finish.specs.Finished.{FinishedTo}
use Rattle.finish.proofs.Finishing.{finished_from, flat-is}
use Rattle.lent.specs.declared.Finished.{Finished}
use Rattle.lent.specs.Lists.{work, lists}
use Rattle.lent.specs.Grows.{job_in, Grows}
use Rattle.seed_rows.specs.Ordered.{seed_in}
use Rattle.seed_leaves.specs.Seeded.{Seeded, splits_of}
use Rattle.from_seed.specs.Result.{deepened_in}

module _ {job : Job} {counts₀ counts : List ℕ} {x y : Flat} {n n' : NodeLists} {q : QueueLists} {q' : Queue} {count : ℕ} {r : Tree} (sown : Seeded job (lists x n q counts₀) (work counts y n' q') count r)
    {more : ℕ} (left : more ≡ job.settings.max_leaves - (r.nodes + 1) / 2) where
  pub seed-grows : Grows job (work counts y n' q') r more n (seed_state (job_in job x) (seed_in count n) (held_in x)) (splits_of (seed_in count n)) (held_in x)
  seed-grows = subst (λ (m : ℕ). Grows job (work counts y n' q') r m n (seed_state (job_in job x) (seed_in count n) (held_in x)) (splits_of (seed_in count n)) (held_in x)) (sym left) sown.grows

  pub seed-finished : {z : Flat} {l : NodeLists} {f : Finished} {flatly : Float} → flatly ≡ (job_in job x).flat (held_in x)
      → FinishedTo y z l f n (finished (job_in job y) (steps (job_in job y) more (seed_state (job_in job x) (seed_in count n) (held_in x))) flatly)
      → FinishedTo x z l f n (deepened_in job count x n)
  unfolding deepened
  seed-finished {z} {l} {f} {flatly} same e =
      let st = seed_state (job_in job x) (seed_in count n) (held_in x) in
      let left_over = job.settings.max_leaves - leaf_count (nodes_of (seed_in count n)) in
      let uses = subst (λ (u : Bool). FinishedTo y z l f n (finished (job_of single (settings_of job.settings) job.logs.now u) (steps (job_of single (settings_of job.settings) job.logs.now u) more st) flatly)) (sym (uses_still job.settings sown.size)) e in
      let steps-are : more ≡ left_over = left ∙ ap (λ (k : ℕ). job.settings.max_leaves - k) sown.leaves in
      flat-is (job_in job x) (steps (job_in job x) left_over st) same
      (finished_from sown.size (subst (λ (k : ℕ). FinishedTo y z l f n (finished (job_in job x) (steps (job_in job x) k st) flatly)) steps-are uses))
