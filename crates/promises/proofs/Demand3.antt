-- Demand 3 of runs of the public operations, from the model's and the operations' contracts. Assumes nothing.
use mathlib.Core.Path.{◌≡◌, sym, ap, subst, ◌∙◌}
use mathlib.Core.List.{List}
use mathlib.Core.Option.{Option, none, some}
use Prim.Native.Nat.{ℕ}
use native.Mathlib.Omega.{arith}
use lib.Ieee.{Float}
use Rattle.model.specs.Settings as model
use Rattle.model.specs.Single.{singles}
use Rattle.model.specs.Profile.{single}
use Rattle.model.specs.Lent.{Lent}
use Rattle.model.specs.Refuse.{Refusal, learn_refusal, deepen_refusal}
use Rattle.model.specs.Operations.{accepted, After, unless, Tree, learn, deepen}
use Rattle.model.proofs.Accepted.{learned_from, deepened_from}
use Rattle.model.proofs.Promises.{demand3 as model3}
use Rattle.queue.specs.Room.{cleared}
use Rattle.refuse.specs.Given.{settings_of}
use Rattle.refuse.specs.declared.Settings.{Settings}
use Rattle.border.specs.Lists.{Records, lent_in, records_after, learn_records, deepen_records}
use Rattle.ma_tree.specs.Runs.{Learning, Deepening}
use Rattle.promises.specs.Demand3.{answered, Demand3}
use Rattle.promises.proofs.Ran.{Ran, learnt, deepened, looked_up}

-- ---- the queue, number by number

-- nothing was refused, so the lists are those after acceptance
left_as : (o : Option Refusal) (b : Tree singles) (k : Lent singles) (x z : Records) {a : Tree singles} {y : Records} → (unless o (lent_in x) b k).outcome ≡ accepted a → y ≡ (unless o x b z).lent → y ≡ z
left_as none b k x z e l = l
left_as (some f) b k x z e l = let no : ◌≡◌ {A = ℕ} 0 1 = cc in absurd (omega arith)

-- an accepted run leaves zeros in it
learn_clears : (s : Settings) (logs : List Float) (x y : Records) (a : Tree singles) → Learning s logs x (answered a) y → y.queue ≡ cleared x.queue
unfolding learn learn_records records_after
learn_clears s logs x y a run =
    let told = ap (λ (w : After (Tree singles) (Lent singles)). w.outcome) (learnt s logs x y a run) in
    let r = learned_from single (settings_of s) logs (lent_in x) in
    ap (λ (l : Records). l.queue) (left_as (learn_refusal single (settings_of s) logs (lent_in x)) _ _ x (records_after r x) told run.leaves_whole)

deepen_clears : (s : Settings) (logs : List Float) (count : ℕ) (x y : Records) (a : Tree singles) → Deepening s logs count x (answered a) y → y.queue ≡ cleared x.queue
unfolding deepen deepen_records records_after
deepen_clears s logs count x y a run =
    let told = ap (λ (w : After (Tree singles) (Lent singles)). w.outcome) (deepened s logs count x y a run) in
    let r = deepened_from single (settings_of s) logs count (lent_in x) in
    ap (λ (l : Records). l.queue) (left_as (deepen_refusal single (settings_of s) logs count (lent_in x)) _ _ x (records_after r x) told run.leaves_whole)

pub demand3 : Demand3
demand3 = record {
  learn_more = λ s t logs x y z a b unpruned one run next. record {
    entries = model3.learn_more (settings_of s) logs (lent_in x) (lent_in y) (lent_in z) s.max_leaves a b unpruned (learnt s logs x y a run)
        (subst (λ (u : model.Settings singles). learn single u logs (lent_in x) ≡ Ran b z) one (learnt t logs x z b next));
    queue = learn_clears t logs x z b next ∙ sym (learn_clears s logs x y a run);
  };
  deepen_more = λ s t logs count x y z a b unpruned one run next. record {
    entries = model3.deepen_more (settings_of s) logs count (lent_in x) (lent_in y) (lent_in z) s.max_leaves a b unpruned (deepened s logs count x y a run)
        (subst (λ (u : model.Settings singles). deepen single u logs count (lent_in x) ≡ Ran b z) one (deepened t logs count x z b next));
    queue = deepen_clears t logs count x z b next ∙ sym (deepen_clears s logs count x y a run);
  };
  learn_kept = λ s logs x y a run. model3.learn_kept (settings_of s) logs (lent_in x) (lent_in y) a (learnt s logs x y a run);
  deepen_kept = λ s logs count x y a run. model3.deepen_kept (settings_of s) logs count (lent_in x) (lent_in y) a (deepened s logs count x y a run);
  looked_up = λ x count ps f run. looked_up x.nodes count ps f run;
}
