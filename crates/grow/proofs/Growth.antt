-- The loop: the lists hold the state after the splits made so far, and from it the steps that are left lead to the state after all. Assumes nothing.
use mathlib.Core.Path.{◌≡◌, refl, sym, ap, ◌∙◌, subst}
use mathlib.Core.Bool.{Bool}
use mathlib.Core.List.{List}
use Prim.Native.Nat.{ℕ, zero, suc, ◌+◌, ◌-◌, ◌<◌}
use native.Mathlib.Omega.{arith}
use lib.ListN.{length}
use Rattle.model.specs.Rows.{Row}
use Rattle.model.specs.Meter.{Meter}
use Rattle.model.specs.Single.{singles}
use Rattle.model.specs.Job as model
use Rattle.model.specs.Profile.{job_of, single}
use Rattle.model.specs.Grow.{State, step_to, step, steps}
use Rattle.refuse.specs.Given.{settings_of}
use Rattle.refuse.specs.declared.Job.{Job}
use Rattle.layout.specs.declared.Tree.{Tree}
use Rattle.layout.specs.Tree.{NodeLists}
use Rattle.layout.specs.Waiting.{SameQueue, QueueRoom, HaveSpans, queue_of, foremost}
use Rattle.queue.specs.declared.Queue.{Queue}
use Rattle.queue.specs.Lent.{queue_in}
use Rattle.layout.proofs.Queue.{choice_none, fewer-room, same-itself, same_queue}
use Rattle.rows.specs.Flat.{Flat, SameSize}
use Rattle.rows.proofs.Shapes.{size_same, size-then}
use Rattle.lent.specs.Fitting.{Fitting}
use Rattle.leaf.proofs.Making.{uses_still}
use Rattle.lent.specs.Lists.{work}
use Rattle.lent.specs.Grows.{job_in, Grows, Growable}
use Rattle.grow.specs.Grown.{Splits, GrownTo}
use Rattle.grow.proofs.Choosing.{have_spans}

-- ---- the model's steps, the first of them taken first
steps_front : {M : Meter} (j : model.Job M) (n : ℕ) (st : State M) → steps j (suc n) st ≡ steps j n (step j st)
unfolding steps
steps_front j zero st = refl
steps_front j (suc n) st = ap (step j) (steps_front j n st)

steps-zero : {M : Meter} (j : model.Job M) (st : State M) → steps j 0 st ≡ st
unfolding steps
steps-zero j st = refl

-- where no leaf waits
module _ {M : Meter} (j : model.Job M) (st : State M) (none_wait : length (queue_of st.tree) ≡ 0) where
  no_step : step j st ≡ st
  unfolding step step_to
  no_step = ap (step_to j st) (choice_none j st.tree none_wait)

  no_steps : (n : ℕ) → steps j n st ≡ st
  unfolding steps
  no_steps zero = refl
  no_steps (suc n) = ap (step j) (no_steps n) ∙ no_step

-- ---- the invariant
-- the state that the lists hold, from which `left` steps lead where `more` steps from st lead
pub record Reached (job : Job) (counts : List ℕ) (x₀ x : Flat) (lists : NodeLists) (q : Queue) (tree : Tree) (more left : ℕ)
    (lent : NodeLists) (st : State singles) (seeds : ℕ → Bool) (given : List Row) : Type 0 where
  pub state : State singles
  pub grows : Grows job (work counts x lists q) tree left lent state seeds given
  pub onward : steps (job_in job x₀) left state ≡ steps (job_in job x₀) more st

pub record Going (job : Job) (counts₀ counts : List ℕ) (x₀ x : Flat) (lists₀ lists : NodeLists) (q₀ q : Queue)
    (tree₀ tree : Tree) (more left : ℕ) : Type 0 where
  pub reached : (lent : NodeLists) (st : State singles) (seeds : ℕ → Bool) (given : List Row)
      → Grows job (work counts₀ x₀ lists₀ q₀) tree₀ more lent st seeds given
      → Reached job counts x₀ x lists q tree more left lent st seeds given
  pub size : SameSize x₀ x
  pub queue : SameQueue (queue_in q₀) (queue_in q)
  pub space : counts ≡ counts₀

pub begins : {job : Job} {counts : List ℕ} {x : Flat} {lists : NodeLists} {q : Queue} {tree : Tree} {more : ℕ}
    → Going job counts counts x x lists lists q q tree tree more more
begins {x = x} {q = q} = record {
  reached = λ lent st seeds given g. record { state = st; grows = g; onward = refl };
  size = size_same x;
  queue = same-itself (queue_in q);
  space = refl;
}

module _ {job : Job} {counts₀ counts : List ℕ} {x₀ x : Flat} {lists₀ lists : NodeLists} {q₀ q : Queue}
    {tree₀ tree : Tree} {more left : ℕ} (first : Growable job (work counts₀ x₀ lists₀ q₀) tree₀ more)
    (h : Going job counts₀ counts x₀ x lists₀ lists q₀ q tree₀ tree more left) where
  pub going_on : Growable job (work counts x lists q) tree left
  going_on =
      let r = h.reached first.lent first.state first.seeds first.given first.grows in
      record { lent = first.lent; state = r.state; seeds = first.seeds; given = first.given; grows = r.grows }

  pub queue-room : QueueRoom q.waiting (queue_in q)
  queue-room = fewer-room going_on.grows.queue_room (omega arith)

  -- ---- one split more
  module _ (some_left : 0 < left) where
    one-less : left - 1 + 1 ≡ left
    one-less = omega arith

    pub spans_there : HaveSpans q.waiting (queue_in q) lists.spans
    spans_there = have_spans going_on.grows some_left

    pub splits : (k : ℕ) → 0 < q.waiting → k ≡ foremost (queue_in q) lists.spans q.waiting → Splits job (work counts x lists q) tree (left - 1) k
    splits k wait best = record {
      growable = subst (λ (m : ℕ). Growable job (work counts x lists q) tree m) (sym one-less) going_on;
      some_wait = wait;
      best = best;
    }

    pub turn : {counts' : List ℕ} {x' : Flat} {lists' : NodeLists} {q' : Queue} {tree' : Tree}
        → ((lent : NodeLists) (st : State singles) (seeds : ℕ → Bool) (given : List Row) → Grows job (work counts x lists q) tree (left - 1 + 1) lent st seeds given
        → Grows job (work counts' x' lists' q') tree' (left - 1) lent (step (job_in job x) st) seeds given)
        → counts' ≡ counts → SameSize x x' → SameQueue (queue_in q) (queue_in q')
        → Going job counts₀ counts' x₀ x' lists₀ lists' q₀ q' tree₀ tree' more (left - 1)
    turn {counts'} {x'} {lists'} {q'} {tree'} split space size queue = record {
      reached = λ lent st seeds given g.
          let r = h.reached lent st seeds given g in
          record {
            state = step (job_in job x) r.state;
            grows = split lent r.state seeds given (subst (λ (m : ℕ). Grows job (work counts x lists q) tree m lent r.state seeds given) (sym one-less) r.grows);
            onward = next r.state ∙ r.onward;
          };
      size = size-then h.size size;
      queue = same_queue h.queue queue;
      space = space ∙ h.space;
    }
      where
        next : (st : State singles) → steps (job_in job x₀) (left - 1) (step (job_in job x) st) ≡ steps (job_in job x₀) left st
        next st =
            let less : suc (left - 1) ≡ left = omega arith in
            ap (λ (u : Bool). steps (job_in job x₀) (left - 1) (step (job_of single (settings_of job.settings) job.logs.now u) st)) (sym (uses_still job.settings h.size))
            ∙ sym (steps_front (job_in job x₀) (left - 1) st)
            ∙ ap (λ (m : ℕ). steps (job_in job x₀) m st) less

  -- ---- no split is left, or no leaf waits
  module _ (lent : NodeLists) (st : State singles) (seeds : ℕ → Bool) (given : List Row) (g : Grows job (work counts₀ x₀ lists₀ q₀) tree₀ more lent st seeds given) where
    abbrev r : Reached job counts x₀ x lists q tree more left lent st seeds given
    r = h.reached lent st seeds given g

    ends : steps (job_in job x₀) left r.state ≡ r.state → GrownTo job counts₀ x₀ x lists tree lent (steps (job_in job x₀) more st)
    ends last =
        subst (λ (t : State singles). GrownTo job counts₀ x₀ x lists tree lent t) (sym last ∙ r.onward) record {
          rows = r.grows.rows;
          size = h.size;
          nodes = r.grows.nodes;
          counted = r.grows.counted;
          summed = r.grows.summed;
          fitting = subst (λ (l : List ℕ). Fitting job l x) h.space r.grows.fitting;
        }

    pub all_made : left ≡ 0 → GrownTo job counts₀ x₀ x lists tree lent (steps (job_in job x₀) more st)
    all_made e = ends (ap (λ (m : ℕ). steps (job_in job x₀) m r.state) e ∙ steps-zero (job_in job x₀) r.state)

    pub none_waits : 0 < left → q.waiting ≡ 0 → GrownTo job counts₀ x₀ x lists tree lent (steps (job_in job x₀) more st)
    none_waits some none = ends (no_steps (job_in job x₀) r.state (sym (r.grows.queued some).many ∙ none) left)
