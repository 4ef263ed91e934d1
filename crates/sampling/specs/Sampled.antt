-- The answer of even sampling in document 01's numbers and values ("Even sampling"). Assumes nothing.
use Rattle.std.specs.Prelude.{ℕ, ◌≤◌, List, length, Result}
use Rattle.model.specs.Settings.{max_rows}
use Rattle.model.specs.Operations.{After}
use Rattle.model.specs.Answered.{outcome_of_result}
use Rattle.model.specs.declared.Refusal.{Refusal}

-- so many rows can be picked, and there is room for them
pub record Picks (rows picked : ℕ) (out : List ℕ) : Type 0 where
  pub few : rows ≤ max_rows
  pub inside : picked ≤ rows
  pub room : picked ≤ length out

-- the answer, and what the lent list holds at exit
abbrev pub after : Result ℕ Refusal → List ℕ → After ℕ (List ℕ)
after r out = record { outcome = outcome_of_result r; lent = out }
