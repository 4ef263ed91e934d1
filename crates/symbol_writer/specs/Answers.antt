-- What the answer of the writer of symbols says, with the two lists (document 02, c). Assumes nothing.
use Rattle.std.specs.Prelude.{ℕ, List, Result}
use Rattle.model.specs.Answered.{outcome_of_result}
use Rattle.model.specs.Operations.{After, SymbolLists}
use Rattle.model.specs.declared.Refusal.{Refusal}
use Rattle.model.specs.declared.Symbol.{Symbol}

-- the answer, and the two lists at exit
abbrev pub symbols_after : Result ℕ Refusal → List Symbol → List ℕ → After ℕ SymbolLists
symbols_after r symbols queue = record { outcome = outcome_of_result r; lent = record { symbols = symbols; queue = queue } }
