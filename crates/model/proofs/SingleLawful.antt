-- Document 01's learner, the profile `single`, is lawful: its checks ensure that evaluation stays in range. A unit of the bounds is 2 ^ 31 bits: a total
-- of 8,192 units is far below double precision's largest value. Assumes nothing.
use mathlib.Core.Path.{◌≡◌, refl}
use Prim.Native.Nat.{ℕ, suc, ◌+◌, ◌*◌, ◌^◌, ◌≤◌, ◌<◌}
use native.Mathlib.Omega.{arith}
use mathlib.Core.Bool.{Bool, false}
use mathlib.Core.List.{List}
use lib.ListN.{length, take, drop}
use lib.IntN.{ℤ}
use lib.Dec.{T, lit≤}
use lib.Ieee.{Float, nan, inf, fin, binary64, add, le}
use Rattle.ieee.specs.Within.{Held, within_mono, add-within}
use Rattle.model.specs.Settings.{Settings, max_rows, max_nodes}
use Rattle.model.specs.Rows.{Row}
use Rattle.model.specs.Cost.{cost_of, best_predictor}
use Rattle.model.specs.Evaluate.{info_of}
use Rattle.model.specs.Single.{singles}
use Rattle.model.specs.Profile.{single, job_of}
use Rattle.model.specs.Accepting.{LogsWithin, SingleSmall, JobFits}
use Rattle.model.proofs.Lawful.{Bounds, Lawful}
use Rattle.model.proofs.InRange.{info-fits, offered-fits}
use Rattle.model.proofs.Bounded.{cost-within, price-within, logs-within}

-- a sum in double precision
pub sum-small : (m n : ℕ) (x y : Float) → m + n ≤ suc max_nodes → SingleSmall m x → SingleSmall n y → SingleSmall (m + n) (add binary64 x y)
sum-small m n x y h p q =
    let held : Held binary64 ((m + n) * 2 ^ 31) = record { q = m + n; j = 31; is = refl; digits = omega arith; range = lit≤ tt } in
    add-within binary64 x y (m * 2 ^ 31) (n * 2 ^ 31) ((m + n) * 2 ^ 31) held (omega arith) p q

-- no such total is as large as an endless one
pub endless_above : (n : ℕ) (x : Float) → SingleSmall n x → le (inf false) x ≡ false
unfolding le
endless_above n nan h = absurd h
endless_above n (inf s) h = absurd h
endless_above n (fin s m e) h = refl

-- how large the totals of the learner grow
abbrev pub single-bounds : Bounds singles
single-bounds =
    record {
      Small = SingleSmall;
      small_more = λ x h. within_mono x (omega arith) h;
      small_nought = lit≤ tt;
      small_kept = λ m n gt le price h p q r. within_mono (add binary64 (add binary64 gt le) price) (omega arith) (sum-small (m + n) 1 (add binary64 gt le) price (omega arith) (sum-small m n gt le (omega arith) p q) r);
      endless_above = λ n x h p. endless_above n x p;
    }

-- the cost beside a node is at most one unit
info-small : (t : Settings singles) (logs : List Float) (mode : ℤ) (rows : List Row) → t.alphabet ≤ 256 → length rows ≤ max_rows → LogsWithin (length rows) logs → SingleSmall 1 (info_of t logs mode rows).cost
unfolding info_of
info-small t logs mode rows a r l = within_mono (cost_of t logs rows (best_predictor t logs rows)) {b = 257 * 2 ^ 22} {c = 1 * 2 ^ 31} (lit≤ tt) (cost-within t logs rows (best_predictor t logs rows) a r l)

-- evaluation stays in range where the checks pass
pub single-fits : (t : Settings singles) (logs : List Float) (uses : Bool) (n : ℕ) → T (single.price_fits t.price) → t.alphabet ≤ 256 → n ≤ max_rows → n < length logs
    → T (single.logs_fit (take n (drop 1 logs))) → JobFits SingleSmall (job_of single t logs uses) n
single-fits t logs uses n price a r h l = search (arith, info-fits, info-small, logs-within, offered-fits, price-within)

-- both: the learner is lawful
abbrev pub single-lawful : Lawful single
single-lawful = record { bounds = single-bounds; fits = single-fits }
