-- What the answers say (document 01, "Which number comes back"; document 02, c). Assumes nothing.
use Rattle.std.specs.Prelude.{ℕ, List, map, Result}
use Rattle.model.specs.Single.{singles}
use Rattle.model.specs.Answered.{outcome_of_result}
use Rattle.model.specs.Lent.{Stored}
use Rattle.model.specs.Operations.{After}
use Rattle.model.specs.declared.Refusal.{Refusal}
use Rattle.layout.specs.Records.{stored_of}
use Rattle.layout.specs.declared.MaNode.{MaNode}

-- the answer, and the node list at exit
abbrev pub nodes_after : Result ℕ Refusal → List MaNode → After ℕ (List (Stored singles))
nodes_after r nodes = record { outcome = outcome_of_result r; lent = map stored_of nodes }
