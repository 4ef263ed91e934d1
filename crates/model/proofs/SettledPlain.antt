-- Settling an unpruned tree changes nothing, in learning and in deepening: refusals and growth do not look at it, and a grown tree's tokens are fresh.
-- Assumes nothing.
use native.Mathlib.Omega.{arith}
use mathlib.Core.Path.{◌≡◌, refl, sym, ap, ◌∙◌}
use Prim.Native.Nat.{ℕ, ◌-◌}
use native.Mathlib.Nat.{le_refl}
use mathlib.Core.Bool.{Bool, false}
use mathlib.Core.List.{List}
use mathlib.Core.Option.{Option, none}
use lib.ListN.{length}
use Rattle.model.specs.Meter.{Meter}
use Rattle.model.specs.Settings.{Settings, with_settling}
use Rattle.model.specs.Rows.{Row}
use Rattle.model.specs.Cost.{usable}
use Rattle.model.specs.Tree.{Record, nodes_of, fault_of}
use Rattle.model.specs.Job.{Job, prunes}
use Rattle.model.specs.Grow.{State, steps}
use Rattle.model.specs.Learn.{Result, leaf_count, finished, root_state, learned}
use Rattle.model.specs.Deepen.{seed_state, deepened}
use Rattle.model.specs.Profile.{Profile, job_of}
use Rattle.model.specs.Lent.{Lent, rows_in, uses_modes, tree_in, lent_after}
use Rattle.model.specs.Refuse.{Refusal, is_outside, has_no_predictor, is_short_alphabet, is_short_of_room, refused_before, learn_refusal, deepen_refusal}
use Rattle.model.specs.Operations.{unless, tree_of, learn, deepen}
use Rattle.model.specs.Promise.{Unpruned}
use Rattle.model.specs.SettledPlain.{SettledPlain}
use Rattle.model.specs.Accepting.{JobFits}
use Rattle.model.specs.Kept.{no_seeds, Invariant}
use Rattle.model.proofs.Lawful.{Bounds, Lawful}
use Rattle.model.proofs.Steps.{steps-keep}
use Rattle.model.proofs.Root.{root_keeps}
use Rattle.model.proofs.Seeds.{seed_splits, seed_keeps}
use Rattle.model.proofs.More.{finished-plain}
use Rattle.model.proofs.Learned.{result-laws}
use Rattle.model.proofs.SameJob.{settling_as, same-job}
use Rattle.model.proofs.SameAnswer.{grown-same, deeper-same}
use Rattle.model.proofs.Accepted.{learned_from, deepened_from, deepen-accepted}
use Rattle.model.proofs.Demand3.{job-fits}

-- ---- results
module _ {M : Meter} (j : Job M) (unpruned : prunes j ≡ false) (b : Bool) where
  abbrev other : Job M
  other = settling_as b j

  finished-settling : (seeds : ℕ → Bool) (given : List Row) (s : State M) (flat : M.Total) → Invariant j.uses seeds given s
      → finished other s flat ≡ finished j s flat
  finished-settling seeds given s flat inv = finished-plain other unpruned seeds given s flat inv ∙ sym (finished-plain j unpruned seeds given s flat inv)

  learned-settling : (limit : ℕ) (rows : List Row) → learned other limit rows ≡ learned j limit rows
  unfolding learned
  learned-settling limit rows =
      let s = root_state j rows in
      let grown = grown-same (length rows) j j.info j.offered j.flat b (λ mode rs h. refl) (λ depth cost rs h. refl) (limit - 1) rows (le_refl (length rows)) in
      ap (λ (s : State M). finished other s (j.flat rows)) (sym grown)
      ∙ finished-settling no_seeds rows (steps j (limit - 1) s) (j.flat rows) (steps-keep j no_seeds rows (limit - 1) s (root_keeps j rows))

  deepened-settling : (B : Bounds M) (limit : ℕ) (seed : List (Record M)) (rows : List Row) → JobFits B.Small j (length rows) → fault_of seed ≡ none
      → deepened other limit seed rows ≡ deepened j limit seed rows
  unfolding deepened
  deepened-settling B limit seed rows fit faultless =
      let n = limit - leaf_count (nodes_of seed) in
      let s = seed_state j seed rows in
      let seeds = seed_splits B j seed rows fit faultless in
      let grown = deeper-same (length rows) j j.info j.offered j.flat b (λ mode rs h. refl) (λ depth cost rs h. refl) n seed rows (le_refl (length rows)) in
      ap (λ (s : State M). finished other s (j.flat rows)) (sym grown)
      ∙ finished-settling seeds rows (steps j n s) (j.flat rows) (steps-keep j seeds rows n s (seed_keeps B j seed rows fit faultless))

-- ---- what the operations are made of
module _ (P : Profile) (t : Settings P.meter) (logs : List P.meter.Cost) (x : Lent P.meter) (b : Bool) where
  abbrev job : Job P.meter
  job = job_of P t logs (uses_modes t x)

  job-settling : job_of P (with_settling b t) logs (uses_modes t x) ≡ settling_as b job
  job-settling = same-job P t logs (uses_modes t x) t.limit b

  pub learn_refusal_plain : learn_refusal P (with_settling b t) logs x ≡ learn_refusal P t logs x
  unfolding learn_refusal refused_before is_outside has_no_predictor usable is_short_alphabet is_short_of_room
  learn_refusal_plain = refl

  pub deepen_refusal_plain : (count : ℕ) → deepen_refusal P (with_settling b t) logs count x ≡ deepen_refusal P t logs count x
  unfolding deepen_refusal refused_before is_outside has_no_predictor usable is_short_alphabet is_short_of_room
  deepen_refusal_plain count = refl

  module _ (unpruned : Unpruned P t) where
    pub learned-plain : learned_from P (with_settling b t) logs x ≡ learned_from P t logs x
    learned-plain = ap (λ (j : Job P.meter). learned j t.limit (rows_in x)) job-settling ∙ learned-settling job unpruned b t.limit (rows_in x)

    -- the seed is sound, or refused
    pub deepened-plain : Lawful P → (count : ℕ) → deepen_refusal P t logs count x ≡ none → deepened_from P (with_settling b t) logs count x ≡ deepened_from P t logs count x
    unfolding deepen
    deepened-plain law count e =
        let seed = tree_in count x.nodes in
        let r = deepened_from P t logs count x in
        let accepted = ap (λ (o : Option Refusal). unless o x (tree_of r) (lent_after r x)) e in
        let (p, _, faultless, _, _) = deepen-accepted P t logs x (lent_after r x) count (tree_of r) accepted in
        ap (λ (j : Job P.meter). deepened j t.limit seed (rows_in x)) job-settling
        ∙ deepened-settling job unpruned b law.bounds t.limit seed (rows_in x) (job-fits P law (result-laws law.bounds) t logs x p) faultless

-- ---- the operations
-- the same refusal, and results that are the same where nothing is refused: then the same outcome and the same lists, whatever a result leaves in them
pub unless-same : {M : Meter} {L : Type 0} (exit : Result M → L) (x : L) {o u : Option Refusal} {r q : Result M} → u ≡ o → (o ≡ none → q ≡ r)
    → unless u x (tree_of q) (exit q) ≡ unless o x (tree_of r) (exit r)
unless-same {M} {L} exit x {o} {u} {r} {q} e h = grind arith

module _ (P : Profile) (law : Lawful P) where
  learn_plain : (t : Settings P.meter) (logs : List P.meter.Cost) (x : Lent P.meter) (b : Bool) → Unpruned P t → learn P (with_settling b t) logs x ≡ learn P t logs x
  unfolding learn
  learn_plain t logs x b unpruned =
      unless-same (λ (r : Result P.meter). lent_after r x) x (learn_refusal_plain P t logs x b) (λ e. learned-plain P t logs x b unpruned)

  deepen_plain : (t : Settings P.meter) (logs : List P.meter.Cost) (count : ℕ) (x : Lent P.meter) (b : Bool) → Unpruned P t
      → deepen P (with_settling b t) logs count x ≡ deepen P t logs count x
  unfolding deepen
  deepen_plain t logs count x b unpruned =
      unless-same (λ (r : Result P.meter). lent_after r x) x (deepen_refusal_plain P t logs x b count) (deepened-plain P t logs x b unpruned law count)

  pub settled_plain_of : SettledPlain P
  settled_plain_of = record { learn_plain = learn_plain; deepen_plain = deepen_plain }
