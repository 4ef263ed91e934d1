-- Demand 3, whole, about runs of the public operations (00-demands; document 01, "Demand 3's words"). `Kept`, `OneMore`, `SpansHold` and `TokensFresh` are the model's
-- (Promise), field by field; they speak of what the operations answer and of what they leave in the lent lists. Assumes nothing.
use Rattle.std.specs.Prelude.{ℕ, suc, ◌≡◌, List, ℤ, Float}
use Rattle.model.specs.Settings as model
use Rattle.model.specs.Single.{singles}
use Rattle.model.specs.Profile.{single}
use Rattle.model.specs.Operations.{Tree, Found, accepted, lookup}
use Rattle.model.specs.Promise.{Unpruned, Kept, OneMoreOrAlike}
use Rattle.refuse.specs.Given.{settings_of}
use Rattle.refuse.specs.declared.Settings.{Settings}
use Rattle.answers.specs.Answers.{learned_in, found_in}
use Rattle.border.specs.Lists.{Records, lent_in}
use Rattle.answers.specs.declared.LearnedTree.{LearnedTree}
use Rattle.ma_tree.specs.Runs.{Learning, Deepening, LookingUp}

-- an accepted answer: number 0, then node count, leaf count, estimated bits, flat bits
abbrev pub answered : Tree singles → LearnedTree
answered a = learned_in (accepted a)

-- settings that differ only in the limit, k and k + 1
abbrev pub OneLeafMore : Settings → Settings → Type 0
OneLeafMore s t = settings_of t ≡ model.with_limit (suc s.max_leaves) (settings_of s)

-- of two accepted unpruned runs over the same lists x that differ only in the limit: answers a and b, and every number of the lists y and z that they leave
pub record AtMostOneMore (s : Settings) (x : Records) (a : Tree singles) (y : Records) (b : Tree singles) (z : Records) : Type 0 where
  pub entries : OneMoreOrAlike single (settings_of s) (lent_in x) a (lent_in y) b (lent_in z)
  -- of rows, node records, span records and count space the model reads every number; but it reads the queue by the shortest of its three lists, so that all three are compared here
  pub queue : z.queue ≡ y.queue

pub record Demand3 : Type 0 where
  -- of two accepted unpruned learnings that differ only in the limit: alike in everything, or in everything but one more split
  pub learn_more : (s t : Settings) (logs : List Float) (x y z : Records) (a b : Tree singles) → Unpruned single (settings_of s) → OneLeafMore s t
      → Learning s logs x (answered a) y → Learning t logs x (answered b) z → AtMostOneMore s x a y b z
  -- of two accepted unpruned deepenings of one seed likewise
  pub deepen_more : (s t : Settings) (logs : List Float) (count : ℕ) (x y z : Records) (a b : Tree singles) → Unpruned single (settings_of s) → OneLeafMore s t
      → Deepening s logs count x (answered a) y → Deepening t logs count x (answered b) z → AtMostOneMore s x a y b z
  -- every leaf's span holds the rows handed in whose lookup reaches it, each as often; every zero-predictor token is the one worked afresh
  pub learn_kept : (s : Settings) (logs : List Float) (x y : Records) (a : Tree singles) → Learning s logs x (answered a) y → Kept single (settings_of s) (lent_in x) a (lent_in y)
  pub deepen_kept : (s : Settings) (logs : List Float) (count : ℕ) (x y : Records) (a : Tree singles) → Deepening s logs count x (answered a) y
      → Kept single (settings_of s) (lent_in x) a (lent_in y)
  -- the lookup that these speak of is the one that the operation answers
  pub looked_up : (x : Records) (count : ℕ) (ps : List ℤ) (f : Found) → LookingUp x.nodes count ps (found_in (accepted f)) → lookup (lent_in x).nodes count ps ≡ accepted f
