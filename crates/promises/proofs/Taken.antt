-- Which leaf is split next, of runs of the public operations, from the model's law and the contracts. Assumes nothing.
use mathlib.Core.Path.{◌≡◌, subst}
use Rattle.model.specs.Settings as model
use Rattle.model.specs.Single.{singles}
use Rattle.model.specs.Profile.{single}
use Rattle.model.specs.Operations.{learn, deepen}
use Rattle.model.proofs.Promises.{takes_foremost}
use Rattle.refuse.specs.Given.{settings_of}
use Rattle.border.specs.Lists.{lent_in}
use Rattle.promises.specs.Taken.{Taken}
use Rattle.promises.proofs.Ran.{Ran, learnt, deepened}

pub taken : Taken
taken = record {
  learn_takes = λ s t logs x y z a b unpruned one run next.
      takes_foremost.learn_takes (settings_of s) logs (lent_in x) (lent_in y) (lent_in z) s.max_leaves a b unpruned (learnt s logs x y a run)
      (subst (λ (u : model.Settings singles). learn single u logs (lent_in x) ≡ Ran b z) one (learnt t logs x z b next));
  deepen_takes = λ s t logs count x y z a b unpruned one run next.
      takes_foremost.deepen_takes (settings_of s) logs count (lent_in x) (lent_in y) (lent_in z) s.max_leaves a b unpruned (deepened s logs count x y a run)
      (subst (λ (u : model.Settings singles). deepen single u logs count (lent_in x) ≡ Ran b z) one (deepened t logs count x z b next));
}
