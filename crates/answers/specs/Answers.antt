-- Document 01's answers as the structs that cross over to C: a refusal's number and place, or number 0 and the answer ("Which number comes back").
-- Assumes nothing.
use Rattle.std.specs.Prelude.{ℕ}
use Rattle.model.specs.Single.{singles}
use Rattle.model.specs.Operations.{Outcome, refused, accepted, Found, Tree}
use Rattle.answers.specs.declared.Read.{Read}
use Rattle.answers.specs.declared.FoundLeaf.{FoundLeaf}
use Rattle.answers.specs.declared.Count.{Count}
use Rattle.answers.specs.declared.LearnedTree.{LearnedTree}

-- the value of a token, or the refusal
abbrev pub value_in : Outcome ℕ → Read
value_in (accepted v) = record { number = 0; place = 0; value = v }
value_in (refused r) = record { number = r.number; place = r.place; value = 0 }

-- the leaf and its predictor, or the refusal
abbrev pub found_in : Outcome Found → FoundLeaf
found_in (accepted f) = record { number = 0; place = 0; leaf = f.leaf; pred = f.pred }
found_in (refused r) = record { number = r.number; place = r.place; leaf = 0; pred = 0 }

-- how many were written, or the refusal
abbrev pub count_in : Outcome ℕ → Count
count_in (accepted n) = record { number = 0; place = 0; count = n }
count_in (refused r) = record { number = r.number; place = r.place; count = 0 }

-- the tree's counts and bits, or the refusal
abbrev pub learned_in : Outcome (Tree singles) → LearnedTree
learned_in (accepted t) = record { number = 0; place = 0; nodes = t.nodes; leaves = t.leaves; bits = t.bits; flat = t.flat }
learned_in (refused r) = record { number = r.number; place = r.place; nodes = 0; leaves = 0; bits = singles.nought; flat = singles.nought }
