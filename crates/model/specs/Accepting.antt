-- What acceptance ensures: settings, lists and rooms of which none of conditions 1 to 7 holds, logarithms in range, and evaluation that stays in range.
-- Assumes nothing.
use Rattle.std.specs.Prelude.{◌≡◌, ◌⊎◌, ℕ, ◌+◌, ◌-◌, ◌*◌, ◌^◌, ◌≤◌, ◌<◌, false, not, List, length, take, drop, ℤ, T, ltb, Float}
use Rattle.std.proofs.Math.Option.{Option, none, some}
use Rattle.ieee.specs.Within.{Within}
use Rattle.model.specs.Lists.{count_if, all, is_empty}
use Rattle.model.specs.Meter.{Meter}
use Rattle.model.specs.Settings.{Settings, props_per_row, toks_per_row, max_rows, max_leaves}
use Rattle.model.specs.Rows.{Row, is_above}
use Rattle.model.specs.Cost.{usable, log_of}
use Rattle.model.specs.Job.{Offer, Job}
use Rattle.model.specs.Single.{singles}
use Rattle.model.specs.Profile.{Profile}
use Rattle.model.specs.Lent.{Lent, row_count, uses_modes}
use Rattle.model.specs.Refuse.{counts_wanted}

-- ---- what is so where none of conditions 1 to 7 holds
-- 1: each setting lies in its range
pub record InRange (P : Profile) (t : Settings P.meter) : Type 0 where
  pub alphabet : (1 ≤ t.alphabet) × (t.alphabet ≤ 256)
  pub limit : (1 ≤ t.limit) × (t.limit ≤ max_leaves)
  pub split_cost_lem : T (P.price_fits t.split_cost)
  pub price : T (P.price_fits t.price)
  pub smallest : t.smallest ≤ max_rows
  pub sides : t.sides ≤ 14
  pub candidates : t.candidates ≤ 32

-- 3: 24 properties and 14 tokens a row, none or one residual a row, and not too many rows
pub record Even {M : Meter} (x : Lent M) : Type 0 where
  pub props : length x.props ≡ props_per_row * row_count x
  pub rows : row_count x ≤ max_rows
  pub toks : length x.toks ≡ toks_per_row * row_count x
  pub res : (length x.res ≡ 0) ⊎ (length x.res ≡ row_count x)

-- 7: the rooms of every job
pub record Rooms {M : Meter} (t : Settings M) (x : Lent M) : Type 0 where
  pub nodes : 2 * t.limit - 1 ≤ length x.nodes
  pub spans : 2 * t.limit - 1 ≤ length x.spans
  pub queue : t.limit ≤ length x.queue
  pub counts : counts_wanted t ≤ length x.counts

-- 7 of deepening: the rooms of a seed of `count` nodes
pub record SeedRooms {M : Meter} (count : ℕ) (x : Lent M) : Type 0 where
  pub nodes : count ≤ length x.nodes
  pub spans : count ≤ length x.spans
  pub counts : row_count x + 2 * count ≤ length x.counts

-- all of them
pub record Passed (P : Profile) (t : Settings P.meter) (logs : List P.meter.Cost) (x : Lent P.meter) : Type 0 where
  pub settings : InRange P t
  -- 2: a predictor is left
  pub predictor : is_empty (usable t) ≡ false
  pub lists : Even x
  -- 4: every token is below the alphabet
  pub tokens : T (all (λ (n : ℕ). ltb n t.alphabet) x.toks)
  -- 5: with residuals and modal offsets the alphabet has room for every zero token
  pub modal : T (uses_modes t x) → 128 ≤ t.alphabet
  -- 6: the logarithms
  pub logs_enough : row_count x < length logs
  pub logs_fit_lem : T (P.logs_fit (take (row_count x) (drop 1 logs)))
  pub rooms : Rooms t x

-- ---- sizes
-- entries 1 to n of the logarithms are at most 32 in size
abbrev pub LogsWithin : ℕ → List Float → Type 0
LogsWithin n logs = (c : ℕ) → 0 < c → c ≤ n → Within 32 (log_of singles logs c)

-- a total is at most n units in size, where a unit is 2 ^ 31 bits: a node's cost and a price are each at most one
abbrev pub SingleSmall : ℕ → Float → Type 0
SingleSmall n x = Within (n * 2 ^ 31) x

-- ---- evaluation
-- how many of the rows are at or under the value
abbrev pub rows_below : ℕ → ℤ → List Row → ℕ
rows_below prop val rows = count_if (λ (r : Row). not (is_above prop val r)) rows

-- "the count of rows at or under the threshold, neither 0 nor all" (02, a)
pub record Below {M : Meter} (o : Offer M) (rows : List Row) : Type 0 where
  pub is : o.below ≡ rows_below o.prop o.val rows
  pub some_below : 0 < o.below
  pub not_all : o.below < length rows

-- an offer's property is in range, and it says how many rows go below
abbrev pub OfferFits : {M : Meter} → List Row → Option (Offer M) → Type 0
OfferFits rows none = Unit {0}
OfferFits rows (some o) = T (ltb o.prop props_per_row) × Below o rows

-- evaluation of at most so many rows stays in range; `Small n t` says that the total t is at most n units in size
pub record JobFits {M : Meter} (Small : ℕ → M.Total → Type 0) (j : Job M) (most : ℕ) : Type 0 where
  pub pred_fits : (mode : ℤ) (rows : List Row) → T (ltb (j.info mode rows).pred toks_per_row)
  pub cost_small : (mode : ℤ) (rows : List Row) → length rows ≤ most → Small 1 (M.total (j.info mode rows).cost)
  pub offer_fits : (depth : ℕ) (cost : M.Cost) (rows : List Row) → OfferFits rows (j.offered depth cost rows)
  pub price_small : Small 1 (M.total j.price)
