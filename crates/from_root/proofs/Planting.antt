-- The root that is planted is the model's: lists that hold the tree of one leaf. Assumes nothing.
use mathlib.Core.Path.{◌≡◌, refl, sym, ap, ◌∙◌, subst}
use mathlib.Core.Bool.{Bool, true}
use mathlib.Core.List.{List, [], ◌∷◌, ◌++◌, append-nil}
use mathlib.Core.Option.{Option}
use Prim.Native.Nat.{ℕ, zero, suc, ◌+◌, ◌-◌, ◌<◌}
use native.Mathlib.Omega.{arith}
use borrow.Author.Tests.{lt-ltb}
use lib.Dec.{ltb}
use lib.ListN.{length, get_or, drop_of_length-le}
use lib.Seq.{take_all}
use lib.Ieee.{Float}
use Rattle.model.specs.Settings.{max_depth}
use Rattle.model.specs.Meter.{Meter}
use Rattle.model.specs.Single.{singles}
use Rattle.model.specs.Rows.{Row, within}
use Rattle.model.specs.Mode.{span_mode, fresh}
use Rattle.model.specs.Tree.{Info}
use Rattle.model.specs.Job as model
use Rattle.model.specs.Job.{Offer}
use Rattle.model.specs.Evaluate.{info_of}
use Rattle.model.specs.Profile.{job_of, single}
use Rattle.model.specs.Grow.{Entry, State, no_entry, leaf_over, steps}
use Rattle.model.specs.Learn.{root_state, finished}
use Rattle.model.specs.Accepting.{SingleSmall, JobFits}
use Rattle.model.specs.Kept.{no_seeds, Invariant}
use Rattle.model.proofs.Root.{root_keeps}
use Rattle.model.proofs.Below.{root-weighed}
use Rattle.model.proofs.Health.{root-healthy}
use Rattle.model.proofs.Growing.{root-sized}
use Rattle.model.proofs.SingleLawful.{single-lawful}
use Rattle.refuse.specs.Given.{settings_of}
use Rattle.refuse.specs.declared.Job.{Job}
use Rattle.layout.specs.declared.Leaf.{Leaf}
use Rattle.layout.specs.Values.{info_is, offer_is}
use Rattle.layout.specs.Tree.{NodeLists, holding, HasRoom, put, leaf_with}
use Rattle.layout.specs.Waiting.{QueueListsOf, QueueLists, Queued, SameQueue, waits, waiting_from}
use Rattle.queue.specs.declared.Queue.{Queue}
use Rattle.queue.specs.Lent.{queue_in}
use Rattle.layout.proofs.Held.{SameCells, put-more, holding-none, holding-same, same-cells, room-fewer}
use Rattle.layout.proofs.Queue.{fewer-room, same-room, few-waits}
use Rattle.rows.specs.Cells.{span}
use Rattle.rows.specs.Flat.{Flat, held_in, row_count, SameSize}
use Rattle.rows.proofs.Cells.{length-held}
use Rattle.rows.proofs.Shapes.{count_still}
use Rattle.lent.specs.Fitting.{uses_of, Fitting}
use Rattle.leaf.specs.Made.{MadeLeaf}
use Rattle.lent.proofs.Numbers.{nought-number, evaluated_number}
use Rattle.lent.specs.Lists.{work, lists}
use Rattle.lent.specs.Grows.{job_in, Number, Grows}
use Rattle.lent.specs.Starts.{Plantable}
use Rattle.lent.specs.declared.Finished.{Finished}
use Rattle.finish.specs.Finished.{FinishedTo}
use Rattle.finish.proofs.Finishing.{finished_from}
use Rattle.leaf.proofs.Making.{uses_still, made-fitting}

-- nothing waits yet
pub none-queued : {M : Meter} (q : QueueListsOf M) → Queued 0 q []
none-queued q = record { many = refl; words = refl; values = refl; gains = refl }

module _ {job : Job} {counts : List ℕ} {x : Flat} {n : NodeLists} {q : QueueLists} {rows : ℕ} (p : Plantable job (lists x n q counts)) (whole : rows ≡ row_count x) where
  abbrev j : model.Job singles
  j = job_in job x

  abbrev given : List Row
  given = held_in x

  abbrev root : State singles
  root = root_state j given

  abbrev scored : Bool
  scored = ltb 1 job.settings.max_leaves

  counted : rows ≡ length given
  counted = whole ∙ sym (length-held x.props x.toks x.res)

  mine : within (span 0 rows) given ≡ given
  mine = take_all rows given (omega (arith, counted))

  module _ {y : Flat} {r : Leaf} (m : MadeLeaf scored job 0 (span 0 rows) x y r) where
    info-is : info_is r.info ≡ info_of (settings_of job.settings) job.logs.now (span_mode (uses_of job.settings x) given) (fresh (uses_of job.settings x) given)
    info-is = rw mine at m.leaf.info

    rows_are : held_in y ≡ fresh (uses_of job.settings x) given
    rows_are = m.changed.rows ∙ rw (mine, drop_of_length-le given {i = rows} (omega (arith, counted))) (append-nil (fresh (uses_of job.settings x) given))

    -- ---- the lists afterwards
    nodes_are : put 0 (leaf_with r.info 0 rows 0) n ≡ holding root.tree n
    unfolding root_state leaf_over
    nodes_are =
        let e : Entry singles = leaf_with r.info 0 rows 0 in
        let room : HasRoom (0 + 1) n = room-fewer p.room (omega (arith, p.fitting.settings.limit.0)) in
        ap (put 0 e) (sym (holding-none n)) ∙ put-more [] n e room
        ∙ holding-same (e ∷ []) root.tree n refl
        (λ i h. elim i as (λ k. SameCells (get_or (e ∷ []) k no_entry) (get_or root.tree k no_entry)) [ zero ↦ same-cells e (get_or root.tree 0 no_entry) refl info-is (ap (span 0) counted) refl | suc k ↦ same-cells no_entry no_entry refl refl refl refl ])

    offer-is : scored ≡ true → offer_is r.offer ≡ j.offered 0 (j.info (span_mode (uses_of job.settings x) given) (fresh (uses_of job.settings x) given)).cost (fresh (uses_of job.settings x) given)
    offer-is e = rw (mine, e) at m.leaf.offer

    pub planted : (q' : Queue) (bits : Float) → SameQueue q (queue_in q') → Queued q'.waiting (queue_in q') ([] ++ waits 0 0 (offer_is r.offer))
        → q'.waiting ≡ 0 + length (waits 0 0 (offer_is r.offer))
        → bits ≡ r.info.cost → (counts' : List ℕ) → counts' ≡ counts
        → Grows job (work counts' y (put 0 (leaf_with r.info 0 rows 0) n) q') (record { nodes = 1; bits = bits }) (job.settings.max_leaves - 1) n root no_seeds given
    unfolding root_state leaf_over waiting_from
    planted q' bits same queued many cost counts' counts-are =
        let limit = p.fitting.settings.limit in
        let small = few-waits 0 0 (offer_is r.offer) in
        let n' = count_still m.changed.size in
        record {
          fitting = subst (λ (c : List ℕ). Fitting job c y) (sym counts-are) (made-fitting p.fitting m);
          rows = rows_are;
          nodes = nodes_are;
          room = room-fewer p.room (omega arith);
          few = omega arith;
          queued = λ more. subst (λ (o : Option (Offer singles)). Queued q'.waiting (queue_in q') (waits 0 0 o ++ [])) (offer-is (lt-ltb 1 job.settings.max_leaves (omega arith))) (subst (Queued q'.waiting (queue_in q')) (sym (append-nil (waits 0 0 (offer_is r.offer)))) queued);
          queue_room = fewer-room (same-room same p.queue_room) (omega arith);
          counted = refl;
          summed = cost ∙ ap (λ (i : Info singles). i.cost) info-is;
          inv = subst (λ (u : Bool). Invariant u no_seeds given root) (uses_still job.settings m.changed.size) (root_keeps j given);
          weighed = root-weighed j p.lawful.offer_fits given;
          healthy = root-healthy single-lawful.bounds j given (subst (JobFits SingleSmall j) (sym (length-held x.props x.toks x.res)) p.lawful) no_seeds;
          sized = root-sized Number (row_count y) j nought-number (λ mode l h. evaluated_number p.fitting mode l (omega arith)) given (omega (arith, length-held x.props x.toks x.res));
          shallow = λ k h o e. elim k as (λ i. (get_or root.tree i no_entry).depth < max_depth) [ zero ↦ omega arith | suc i ↦ omega arith ];
        }

-- what is finished from rows of as many entries
pub finished_there : (job : Job) {x x' y : Flat} {n lent : NodeLists} {r : Finished} (more : ℕ) (st : State singles) (flatly : Float) → SameSize x x'
    → FinishedTo x' y n r lent (finished (job_in job x') (steps (job_in job x') more st) flatly)
    → FinishedTo x y n r lent (finished (job_in job x) (steps (job_in job x) more st) flatly)
finished_there job {x} {x'} {y} {n} {lent} {r} more st flatly size e =
    let of : Bool → model.Job singles = job_of single (settings_of job.settings) job.logs.now in
    finished_from size
    (subst (λ (u : Bool). FinishedTo x' y n r lent (finished (of u) (steps (of u) more st) flatly)) (sym (uses_still job.settings size)) e)
