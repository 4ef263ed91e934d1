-- Settling an unpruned tree changes nothing: growth has taken the mode step on each leaf's span already (document 01, "Pruning"). So of one job with
-- settling on and off the outcome, a refusal too, and each lent list are the same. Assumes nothing.
use Rattle.std.specs.Prelude.{◌≡◌, ℕ, Bool, List}
use Rattle.model.specs.Settings.{Settings, with_settling}
use Rattle.model.specs.Profile.{Profile}
use Rattle.model.specs.Lent.{Lent}
use Rattle.model.specs.Operations.{learn, deepen}
use Rattle.model.specs.Promise.{Unpruned}

pub record SettledPlain (P : Profile) : Type 0 where
  pub learn_plain : (t : Settings P.meter) (logs : List P.meter.Cost) (x : Lent P.meter) (b : Bool) → Unpruned P t
      → learn P (with_settling b t) logs x ≡ learn P t logs x
  pub deepen_plain : (t : Settings P.meter) (logs : List P.meter.Cost) (count : ℕ) (x : Lent P.meter) (b : Bool) → Unpruned P t
      → deepen P (with_settling b t) logs count x ≡ deepen P t logs count x
