-- The three laws of runs, from the model's and the contracts. Assumes nothing.
use mathlib.Core.Path.{◌≡◌, sym, ap, ◌∙◌}
use mathlib.Core.Bool.{Bool}
use mathlib.Core.List.{List}
use Prim.Native.Nat.{ℕ}
use lib.Ieee.{Float}
use Rattle.model.specs.Settings as model
use Rattle.model.specs.Single.{singles}
use Rattle.model.specs.Profile.{single}
use Rattle.model.specs.Learn.{Result}
use Rattle.model.specs.Lent.{Lent}
use Rattle.model.specs.Operations.{After, Tree, learn, deepen}
use Rattle.model.specs.Promise.{Unpruned}
use Rattle.model.proofs.SingleLawful.{single-lawful}
use Rattle.model.proofs.SettledPlain.{learn_refusal_plain, deepen_refusal_plain, learned-plain, deepened-plain, unless-same}
use Rattle.model.proofs.Promises.{seeds_kept, settled_plain, split_map}
use Rattle.refuse.specs.Given.{settings_of}
use Rattle.refuse.specs.declared.Settings.{Settings}
use Rattle.answers.specs.Answers.{learned_in}
use Rattle.border.specs.Lists.{Records, lent_in, records_after, learn_records, deepen_records}
use Rattle.promises.specs.Laws.{Laws}
use Rattle.promises.proofs.Ran.{learnt, deepened}

-- record by record and number by number as well
module _ (t : model.Settings singles) (logs : List Float) (x : Records) (b : Bool) (unpruned : Unpruned single t) where
  learn_records_plain : learn_records (model.with_settling b t) logs x ≡ learn_records t logs x
  unfolding learn_records
  learn_records_plain =
      unless-same (λ (r : Result singles). records_after r x) x (learn_refusal_plain single t logs (lent_in x) b) (λ e. learned-plain single t logs (lent_in x) b unpruned)

  deepen_records_plain : (count : ℕ) → deepen_records (model.with_settling b t) logs count x ≡ deepen_records t logs count x
  unfolding deepen_records
  deepen_records_plain count =
      unless-same (λ (r : Result singles). records_after r x) x (deepen_refusal_plain single t logs (lent_in x) b count) (deepened-plain single t logs (lent_in x) b unpruned single-lawful count)

-- what settings say of an operation, they say of all that differ from them in settling alone
module _ {A : Type 0} (of : model.Settings singles → A) (s t : Settings) (one : settings_of t ≡ model.with_settling t.settle (settings_of s)) where
  same : of (model.with_settling t.settle (settings_of s)) ≡ of (settings_of s) → of (settings_of t) ≡ of (settings_of s)
  same e = ap of one ∙ e

pub laws : Laws
laws = record {
  seeds_kept = λ s logs count x y a run. seeds_kept (settings_of s) logs count (lent_in x) (lent_in y) a (deepened s logs count x y a run);
  learn_parts = λ s logs x y a run. split_map.learn_parts (settings_of s) logs (lent_in x) (lent_in y) a (learnt s logs x y a run);
  deepen_parts = λ s logs count x y a run. split_map.deepen_parts (settings_of s) logs count (lent_in x) (lent_in y) a (deepened s logs count x y a run);
  learn_plain = λ s t logs x y z r q unpruned one run next.
      let e = same (λ (u : model.Settings singles). learn single u logs (lent_in x)) s t one (settled_plain.learn_plain (settings_of s) logs (lent_in x) t.settle unpruned) in
      let w = same (λ (u : model.Settings singles). learn_records u logs x) s t one (learn_records_plain (settings_of s) logs x t.settle unpruned) in (
        next.answers ∙ ap (λ (v : After (Tree singles) (Lent singles)). learned_in v.outcome) e ∙ sym run.answers,
        next.leaves_whole ∙ ap (λ (v : After (Tree singles) Records). v.lent) w ∙ sym run.leaves_whole,
      );
  deepen_plain = λ s t logs count x y z r q unpruned one run next.
      let e = same (λ (u : model.Settings singles). deepen single u logs count (lent_in x)) s t one (settled_plain.deepen_plain (settings_of s) logs count (lent_in x) t.settle unpruned) in
      let w = same (λ (u : model.Settings singles). deepen_records u logs count x) s t one (deepen_records_plain (settings_of s) logs x t.settle unpruned count) in (
        next.answers ∙ ap (λ (v : After (Tree singles) (Lent singles)). learned_in v.outcome) e ∙ sym run.answers,
        next.leaves_whole ∙ ap (λ (v : After (Tree singles) Records). v.lent) w ∙ sym run.leaves_whole,
      );
}
