-- Three laws more about runs of learning and deepening (document 01, "Deepening" and "Pruning"; 02, a): a seed's splits stay, each other split parts its span between its children, and settling
-- an unpruned tree changes nothing. Assumes nothing.
use Rattle.std.specs.Prelude.{ℕ, ◌≡◌, List, Float}
use Rattle.model.specs.Settings as model
use Rattle.model.specs.Single.{singles}
use Rattle.model.specs.Profile.{single}
use Rattle.model.specs.Operations.{Tree}
use Rattle.model.specs.Promise.{Unpruned}
use Rattle.model.specs.SeedKept.{SeedKept}
use Rattle.model.specs.SplitMap.{SplitsPart, NoSeed, SeedSplit}
use Rattle.refuse.specs.Given.{settings_of}
use Rattle.refuse.specs.declared.Settings.{Settings}
use Rattle.answers.specs.declared.LearnedTree.{LearnedTree}
use Rattle.border.specs.Lists.{Records, lent_in}
use Rattle.ma_tree.specs.Runs.{Learning, Deepening}
use Rattle.promises.specs.Demand3.{answered}

-- settings that differ only in settling
abbrev pub OnlySettling : Settings → Settings → Type 0
OnlySettling s t = settings_of t ≡ model.with_settling t.settle (settings_of s)

pub record Laws : Type 0 where
  -- after an accepted deepening the seed's splits stand in the answer, each once: on the same property and value, with infinite cost, predictor 0, offset 0 and span (0, 0)
  pub seeds_kept : (s : Settings) (logs : List Float) (count : ℕ) (x y : Records) (a : Tree singles) → Deepening s logs count x (answered a) y
      → SeedKept single (settings_of s) count (lent_in x) a (lent_in y)
  -- of an accepted answer each split but a seed's has children whose spans part its own: le's has as many rows as the split's has at or under its value, neither none nor all
  pub learn_parts : (s : Settings) (logs : List Float) (x y : Records) (a : Tree singles) → Learning s logs x (answered a) y → SplitsPart NoSeed a (lent_in y)
  pub deepen_parts : (s : Settings) (logs : List Float) (count : ℕ) (x y : Records) (a : Tree singles) → Deepening s logs count x (answered a) y
      → (kept : SeedKept single (settings_of s) count (lent_in x) a (lent_in y)) × SplitsPart (SeedSplit single kept) a (lent_in y)
  -- of unpruned runs over the same lists, one with settling and one without, answers and lists are the same, a refusal's too
  pub learn_plain : (s t : Settings) (logs : List Float) (x y z : Records) (r q : LearnedTree) → Unpruned single (settings_of s) → OnlySettling s t
      → Learning s logs x r y → Learning t logs x q z → (q ≡ r) × (z ≡ y)
  pub deepen_plain : (s t : Settings) (logs : List Float) (count : ℕ) (x y z : Records) (r q : LearnedTree) → Unpruned single (settings_of s) → OnlySettling s t
      → Deepening s logs count x r y → Deepening t logs count x q z → (q ≡ r) × (z ≡ y)
