-- Demand 3 of the operations, from the laws of results. Assumes nothing.
use mathlib.Core.Path.{◌≡◌, sym, ap, ◌∙◌, subst}
use mathlib.Core.Logic.{◌⊎◌}
use Prim.Native.Nat.{ℕ, suc, ◌-◌, ◌*◌, max}
use native.Mathlib.Omega.{arith}
use mathlib.Core.Bool.{Bool}
use mathlib.Core.List.{List}
use mathlib.Core.Option.{none}
use lib.ListN.{length}
use lib.Dec.{T}
use Rattle.model.specs.Settings.{Settings, with_limit}
use Rattle.model.specs.Tree.{Record, fault_of}
use Rattle.model.specs.Job.{Job}
use Rattle.model.specs.Learn.{Result}
use Rattle.model.specs.Deepen.{deepened}
use Rattle.model.specs.Profile.{Profile, job_of}
use Rattle.model.specs.Lent.{Lent, row_count, rows_in, uses_modes, tree_in, lent_after}
use Rattle.model.specs.Operations.{tree_of}
use Rattle.model.specs.Promise.{Unpruned, Kept, Demand3}
use Rattle.model.specs.Accepting.{SeedRooms, Passed, JobFits}
use Rattle.model.proofs.Lawful.{Lawful}
use Rattle.model.proofs.Results.{ResultFresh, ResultLaws}
use Rattle.model.proofs.Accepted.{learned_from, deepened_from, learn-accepted, deepen-accepted}
use Rattle.model.proofs.Listed.{length-rows_in, rows_in-tokens}
use Rattle.model.proofs.NodeEntries.{length-tree}
use Rattle.model.proofs.AtExit.{Fits, sound_at, rows_at, spans_hold, tokens_fresh}
use Rattle.model.proofs.OneMoreAtExit.{EqualOrOneMore, one_more_or_alike}
use Rattle.model.proofs.SameJob.{same-job}

-- ---- a job that passed the checks
module _ (P : Profile) (law : Lawful P) (laws : ResultLaws law.bounds) (t : Settings P.meter) (logs : List P.meter.Cost) (x : Lent P.meter) (p : Passed P t logs x) where
  abbrev uses : Bool
  uses = uses_modes t x

  abbrev job : Job P.meter
  job = job_of P t logs uses

  pub job-fits : JobFits law.bounds.Small job (length (rows_in x))
  job-fits = rw (length-rows_in x) (law.fits t logs uses (row_count x) p.settings.price p.settings.alphabet.1 p.lists.rows p.logs_enough p.logs_fit_lem)

  pub learned-fits : Fits uses x (2 * t.limit - 1) (learned_from P t logs x)
  learned-fits = search (arith, job-fits)

  learned_fresh : T uses → T t.settling ⊎ Unpruned P t → ResultFresh (learned_from P t logs x)
  learned_fresh = laws.learned_fresh job t.limit (rows_in x) job-fits p.settings.limit.0 p.settings.limit.1 (rows_in-tokens x p.lists)

  -- the limit one higher
  learned-next : Unpruned P t → EqualOrOneMore uses (learned_from P t logs x) (learned_from P (with_limit (suc t.limit) t) logs x)
  learned-next un = search (arith, same-job)

  module _ (count : ℕ) (s : SeedRooms count x) (sound : fault_of (tree_in count x.nodes) ≡ none) where
    abbrev seed : List (Record P.meter)
    seed = tree_in count x.nodes

    pub deepened-fits : Fits uses x (max (2 * t.limit - 1) count) (deepened_from P t logs count x)
    deepened-fits = search (arith, length-tree, job-fits)

    deepened_fresh : T uses → T t.settling ⊎ Unpruned P t → ResultFresh (deepened_from P t logs count x)
    deepened_fresh = laws.deepened_fresh job t.limit seed (rows_in x) job-fits sound p.settings.limit.1 (rows_in-tokens x p.lists)

    deepened-next : Unpruned P t → EqualOrOneMore uses (deepened_from P t logs count x) (deepened_from P (with_limit (suc t.limit) t) logs count x)
    deepened-next un = subst (λ (j : Job P.meter). EqualOrOneMore uses (deepened job t.limit seed (rows_in x)) (deepened j (suc t.limit) seed (rows_in x)))
        (sym (same-job P t logs uses (suc t.limit) t.settling)) (laws.deepened_more job t.limit seed (rows_in x) job-fits un sound)

-- what is kept, of a result that fits
kept_of : (P : Profile) (t : Settings P.meter) (x : Lent P.meter) {most : ℕ} {r : Result P.meter} → Fits (uses_modes t x) x most r → (T (uses_modes t x) → T t.settling ⊎ Unpruned P t → ResultFresh r)
    → Kept P t x (tree_of r) (lent_after r x)
kept_of P t x f fresh = record {
  sound = sound_at f;
  rows = ap length (rows_at f) ∙ f.kept.counted;
  spans = spans_hold f;
  tokens = λ u s. tokens_fresh f (fresh u s);
}

pub demand3-of : (P : Profile) (law : Lawful P) → ResultLaws law.bounds → Demand3 P
demand3-of P law laws = record {
  learn_more = λ t logs x y z k a b un e f.
      let (p, ea, ey) = learn-accepted P (with_limit k t) logs x y a e in
      let (q, eb, ez) = learn-accepted P (with_limit (suc k) t) logs x z b f in
      rw (ea, ey, eb, ez) (one_more_or_alike (learned-fits P law laws (with_limit k t) logs x p) (learned-fits P law laws (with_limit (suc k) t) logs x q) (learned-next P law laws (with_limit k t) logs x p un));
  learn_kept = λ t logs x y a e.
      let (p, ea, ey) = learn-accepted P t logs x y a e in
      rw (ea, ey) (kept_of P t x (learned-fits P law laws t logs x p) (learned_fresh P law laws t logs x p));
  deepen_more = λ t logs count x y z k a b un e f.
      let (p, s, sound, ea, ey) = deepen-accepted P (with_limit k t) logs x y count a e in
      let (q, _, _, eb, ez) = deepen-accepted P (with_limit (suc k) t) logs x z count b f in
      rw (ea, ey, eb, ez) (one_more_or_alike (deepened-fits P law laws (with_limit k t) logs x p count s sound) (deepened-fits P law laws (with_limit (suc k) t) logs x q count s sound)
      (deepened-next P law laws (with_limit k t) logs x p count s sound un));
  deepen_kept = λ t logs count x y a e.
      let (p, s, sound, ea, ey) = deepen-accepted P t logs x y count a e in
      rw (ea, ey) (kept_of P t x (deepened-fits P law laws t logs x p count s sound) (deepened_fresh P law laws t logs x p count s sound));
}
