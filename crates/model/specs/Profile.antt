-- A learner's profile: how costs are counted, what its checks ask of prices and logarithms, and the order of waiting leaves.
-- Document 01's learner is the profile `single`. Assumes nothing.
use Rattle.std.specs.Prelude.{ℕ, Bool, false, ◌&&◌, List, pos, Float}
use Rattle.std.specs.Float.{fin}
use Rattle.std.specs.Float.Ieee.{le}
use Rattle.model.specs.Lists.{all}
use Rattle.model.specs.Meter.{Meter}
use Rattle.model.specs.Settings.{Settings}
use Rattle.model.specs.Job.{Claim, larger_first, Job}
use Rattle.model.specs.Evaluate.{info_of, offered}
use Rattle.model.specs.Flat.{flat_bits}
use Rattle.model.specs.Single.{singles}

pub record Profile : Type 1 where
  pub meter : Meter
  -- a split cost or price lies in its range
  pub price_fits : meter.Cost → Bool
  -- the logarithms 1 to rows lie in their range; the number that comes back if not
  pub logs_fit : List meter.Cost → Bool
  pub logs_number : ℕ
  -- of two waiting leaves' claims the first, of a higher node number, is taken before the second
  pub ahead : Claim meter → Claim meter → Bool

-- the job of a profile and settings; `uses` says whether residuals are given and modal offsets on
abbrev pub job_of : (P : Profile) → Settings P.meter → List P.meter.Cost → Bool → Job P.meter
job_of P t logs uses =
    record {
      uses = uses;
      info = info_of t logs;
      offered = offered t logs;
      ahead = P.ahead;
      flat = flat_bits t logs;
      price = t.price;
      settling = t.settling;
    }

-- ---- document 01's learner
-- both ends are finite, so a NaN and the infinities lie outside; -0.0 lies inside 0 to hi
abbrev pub is_between : Float → Float → Float → Bool
is_between lo hi x = le lo x && le x hi

abbrev pub single : Profile
single =
    record {
      meter = singles;
      -- 0 to 1,048,576
      price_fits = is_between (fin false 0 (pos 0)) (fin false 1 (pos 20));
      -- each 0 to 32
      logs_fit = all (is_between (fin false 0 (pos 0)) (fin false 1 (pos 5)));
      logs_number = 6;
      ahead = larger_first singles;
    }
