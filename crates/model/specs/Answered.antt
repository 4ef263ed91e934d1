-- What the code's refusals and answers say in document 01's numbers and values ("Which number comes back"), and in those that document 02 adds. Assumes nothing.
use Rattle.std.specs.Prelude.{ℕ, Result, Ok, Err, Option as Maybe, Some, None}
use Rattle.std.proofs.Math.Option.{Option, none, some}
use Rattle.model.specs.Refuse.{Refusal}
use Rattle.model.specs.Operations.{Outcome, refused, accepted}
use Rattle.model.specs.declared.Refusal.{Refusal as Cause}
use Rattle.model.specs.declared.Refusal.TheVariants.{BadSetting, NoPredictor, UnevenRows, BadToken, ShortAlphabet, BadLogarithms, ShortOfRoom, UnsoundTree, UnevenProperties, BadCode, BadSymbols}

-- the number of a refusal, and the named place, else 0
abbrev pub refusal_of : Cause → Refusal
refusal_of BadSetting = record { number = 1; place = 0 }
refusal_of NoPredictor = record { number = 2; place = 0 }
refusal_of UnevenRows = record { number = 3; place = 0 }
refusal_of (BadToken row) = record { number = 4; place = row }
refusal_of ShortAlphabet = record { number = 5; place = 0 }
refusal_of BadLogarithms = record { number = 6; place = 0 }
refusal_of ShortOfRoom = record { number = 7; place = 0 }
refusal_of (UnsoundTree node) = record { number = 8; place = node }
refusal_of UnevenProperties = record { number = 9; place = 0 }
refusal_of BadCode = record { number = 10; place = 0 }
refusal_of BadSymbols = record { number = 11; place = 0 }

-- an answer, or why there is none
abbrev pub outcome_of_result : {A : Type 0} → Result A Cause → Outcome A
outcome_of_result (Ok answer) = accepted answer
outcome_of_result (Err cause) = refused (refusal_of cause)

-- a number, or none
abbrev pub option_of : Maybe ℕ → Option ℕ
option_of None = none
option_of (Some n) = some n
