-- What document 02, d, says of runs, from the model's laws and the contracts. Assumes nothing.
use mathlib.Core.Path.{sym, ap, ◌∙◌}
use mathlib.Core.List.{map}
use Rattle.model.specs.Single.{singles}
use Rattle.model.specs.Profile.{single}
use Rattle.model.specs.Lent.{tree_in}
use Rattle.model.proofs.Accepted.{deepen-accepted, contexts-passed, write-passed}
use Rattle.model.proofs.Depths.{depths-stored, lookup-blind}
use Rattle.model.proofs.SymbolRuns.{symbols-kept}
use Rattle.refuse.specs.Given.{settings_of}
use Rattle.layout.specs.Records.{stored_of}
use Rattle.answers.specs.Answers.{found_in}
use Rattle.border.specs.Lists.{lent_in}
use Rattle.promises.specs.Depths.{Depths}
use Rattle.promises.proofs.Ran as ran
use Rattle.promises.proofs.Demand3.{demand3}

pub depths : Depths
depths = record {
  learnt = λ s logs x y a run. depths-stored (tree_in a.nodes (lent_in y).nodes) (demand3.learn_kept s logs x y a run).sound;
  deepened = λ s logs count x y a run. depths-stored (tree_in a.nodes (lent_in y).nodes) (demand3.deepen_kept s logs count x y a run).sound;
  read = λ symbols count room z run.
      let kept = (symbols-kept singles).reads symbols (map stored_of room) (map stored_of z) count (ran.read symbols count room z run) in
      depths-stored (tree_in count (map stored_of z)) kept.sound;
  seed = λ s logs count x y a run.
      let (_, _, sound, _, _) = deepen-accepted single (settings_of s) logs (lent_in x) (lent_in y) count a (ran.deepened s logs count x y a run) in
      depths-stored (tree_in count (lent_in x).nodes) sound;
  numbered = λ nodes count leaves x y run.
      depths-stored (tree_in count (map stored_of nodes)) (contexts-passed (map stored_of nodes) count x y leaves (ran.numbered nodes count leaves x y run)).1;
  written = λ nodes count n x y run.
      depths-stored (tree_in count (map stored_of nodes)) (write-passed (map stored_of nodes) count x y n (ran.written nodes count n x y run)).1;
  looked_up = λ nodes others count ps r q alike first second.
      second ∙ ap found_in (sym (lookup-blind (map stored_of nodes) (map stored_of others) count ps alike)) ∙ sym first;
}
