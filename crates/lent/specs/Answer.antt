-- The learner's answer in the numbers and values of document 01 ("Which number comes back"). Assumes nothing.
use Rattle.std.specs.Prelude.{◌+◌, ◌/◌, ◌≤◌, ◌≡◌, length, Result as Fallible, Ok, Err}
use Rattle.model.specs.Settings.{max_nodes}
use Rattle.model.specs.Single.{singles}
use Rattle.model.specs.Learn.{Result}
use Rattle.model.specs.Operations.{Outcome, refused, accepted, Tree}
use Rattle.model.specs.Answered.{refusal_of}
use Rattle.model.specs.declared.Refusal.{Refusal}
use Rattle.lent.specs.declared.Finished.{Finished}
use Rattle.lent.specs.declared.Learned.{Learned}

-- node count, leaf count, estimated bits and flat bits
abbrev pub tree_of : Learned → Tree singles
tree_of r = record { nodes = r.nodes; leaves = r.leaves; bits = r.bits; flat = r.flat }

-- they, or the number of the refusal and its place
abbrev pub tree_outcome : Fallible Learned Refusal → Outcome (Tree singles)
tree_outcome (Ok r) = accepted (tree_of r)
tree_outcome (Err cause) = refused (refusal_of cause)

-- a finished tree, which has one leaf more than splits
abbrev pub answer_of : Finished → Tree singles
answer_of r = record { nodes = r.nodes; leaves = (r.nodes + 1) / 2; bits = r.bits; flat = r.flat }

-- the finished tree is the model's result: its nodes and leaves, how many entries were written, and its bits
pub record LearnedAs (made : Result singles) (r : Finished) : Type 0 where
  pub counted : r.nodes ≡ made.count
  pub few : r.nodes ≤ max_nodes
  pub written : r.written ≡ length made.spans
  pub leaves : (r.nodes + 1) / 2 ≡ made.leaves
  pub summed : r.bits ≡ made.bits
  pub flat : r.flat ≡ made.flat
