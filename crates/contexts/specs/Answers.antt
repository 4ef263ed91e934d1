-- What the answer of the leaf contexts says, with the two lists (document 01, "Which number comes back"). Assumes nothing.
use Rattle.std.specs.Prelude.{ℕ, List, Result}
use Rattle.model.specs.Answered.{outcome_of_result}
use Rattle.model.specs.Operations.{After, ContextLists}
use Rattle.model.specs.declared.Refusal.{Refusal}

-- the answer, and the two lists at exit
abbrev pub contexts_after : Result ℕ Refusal → List ℕ → List ℕ → After ℕ ContextLists
contexts_after r contexts queue = record { outcome = outcome_of_result r; lent = record { contexts = contexts; queue = queue } }
