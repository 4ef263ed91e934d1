-- Costs are numbers, and so is the growth term; evaluation stays in range, and only shallow nodes offer a split. Assumes nothing.
use mathlib.Core.Path.{◌≡◌, refl}
use mathlib.Core.Bool.{Bool, true, false, cond, ◌&&◌, beq}
use mathlib.Core.List.{List, [], ◌∷◌}
use mathlib.Core.Option.{Option, none, some}
use Prim.Native.Nat.{ℕ, zero, suc, ◌+◌, ◌-◌, ◌*◌, ◌^◌, ◌≤◌, ◌<◌}
use native.Mathlib.Omega.{arith}
use lib.ListN.{length, get_or, take, drop, length-take}
use lib.IntN.{ℤ, pos}
use lib.Dec.{T, ltb, leb, ltb→lt, lit≤, lit<}
use lib.Ieee.{Float, nan, inf, fin, Format, prec, emax, low, odd, units, round, neg, sum, add, sub, binary32, is_nan}
use lib.Ieee.Scale.{finite}
use Rattle.ieee.specs.Within.{Within, within-finite, within_not_nan, add-within}
use Rattle.model.specs.Lists.{all}
use Rattle.model.specs.Settings as model
use Rattle.model.specs.Settings.{max_depth}
use Rattle.model.specs.Rows.{Row}
use Rattle.model.specs.Cost.{log_of, best_predictor}
use Rattle.model.specs.Evaluate.{info_of, offered, is_scored, offer_of, best_split}
use Rattle.model.specs.Meter.{Meter}
use Rattle.model.specs.Single.{singles}
use Rattle.model.specs.Profile.{single, job_of, is_between}
use Rattle.model.specs.Job.{Offer}
use Rattle.model.specs.Accepting.{LogsWithin, SingleSmall, JobFits}
use Rattle.model.proofs.LogZero.{log_read}
use Rattle.model.proofs.Bounded.{held, cost-within}
use Rattle.model.proofs.SingleLawful.{single-lawful}
use Rattle.cost.proofs.Bounded.{log_within}
use Rattle.refuse.specs.Given.{settings_of}
use Rattle.refuse.specs.declared.Job.{Job}
use Rattle.rows.specs.Flat.{Flat, row_count}
use Rattle.lent.specs.Fitting.{Fitting}
use Rattle.lent.specs.Grows.{Number}

-- ---- a finite number less a number is a number
odd_number : (d : ℕ) (s : Bool) (q k l : ℕ) → Number (odd d s q k l)
unfolding odd is_nan
odd_number d s zero k l = tt
odd_number d s (suc q) k l = tt

cond-number : (b : Bool) (x y : Float) → Number x → Number y → Number (cond b x y)
cond-number true x y p q = p
cond-number false x y p q = q

units_number : (f : Format) (s : Bool) (q k : ℕ) → Number (units f s q k)
unfolding units is_nan
units_number f s q k = cond-number (ltb (q * 2 ^ k) (2 ^ (low f + suc (emax f)))) (odd (suc (prec f)) s q k (low f)) (inf s) (odd_number (suc (prec f)) s q k (low f)) tt

round_number : (f : Format) (s : Bool) (num den : ℕ) → Number (round f s num den)
unfolding round
round_number f s num den = units_number f s _ _

sum_number : (f : Format) (s : Bool) (a : ℕ) (t : Bool) (b c : ℕ) → Number (sum f s a t b c)
unfolding sum
sum_number f s a t b c =
    cond-number (beq s t) (round f s (a + b) c) (cond (ltb a b) (round f t (b - a) c) (round f (s && ltb b a) (a - b) c)) (round_number f s (a + b) c)
    (cond-number (ltb a b) (round f t (b - a) c) (round f (s && ltb b a) (a - b) c) (round_number f t (b - a) c) (round_number f (s && ltb b a) (a - b) c))

sub_number : (f : Format) (x y : Float) → T (finite x) → Number y → Number (sub f x y)
unfolding sub add neg is_nan
sub_number f nan y p q = absurd p
sub_number f (inf s) y p q = absurd p
sub_number f (fin s m e) nan p q = absurd q
sub_number f (fin s m e) (inf t) p q = tt
sub_number f (fin s m e) (fin t n d) p q = sum_number f s _ _ _ _

pub nought-number : Number singles.nought
unfolding is_nan
nought-number = tt

-- gt + le - parent, of costs of rows and of any number
pub growth_number : (gt le parent : Float) → Within (257 * 2 ^ 22) gt → Within (257 * 2 ^ 22) le → Number parent → Number (sub binary32 (add binary32 gt le) parent)
growth_number gt le parent g l p =
    let both = add-within binary32 gt le (257 * 2 ^ 22) (257 * 2 ^ 22) (514 * 2 ^ 22) (held 514 22 (lit< tt) (lit≤ tt)) (lit≤ tt) g l in
    sub_number binary32 (add binary32 gt le) parent (within-finite (add binary32 gt le) (514 * 2 ^ 22) both) p

-- ---- evaluation of fitting lists
all_from : (test : Float → Bool) (z : Float) (xs : List Float) → ((i : ℕ) → i < length xs → T (test (get_or xs i z))) → T (all test xs)
all_from test z [] each = tt
all_from test z (x ∷ xs) each = both (test x) (all test xs) (each 0 (omega arith)) (all_from test z xs (λ i l. each (suc i) (omega arith)))
  where
    both : (a b : Bool) → T a → T b → T (a && b)
    both true b p q = q
    both false b p q = absurd p

module _ {job : Job} {counts : List ℕ} {x : Flat} (f : Fitting job counts x) where
  abbrev logs : List Float
  logs = job.logs.now

  logs_in : LogsWithin (row_count x) logs
  logs_in = log_within (row_count x) logs f.logs_reach

  pub evaluated_within : (mode : ℤ) (rows : List Row) → length rows ≤ row_count x → Within (257 * 2 ^ 22) (info_of (settings_of job.settings) logs mode rows).cost
  unfolding info_of
  evaluated_within mode rows h =
      cost-within (settings_of job.settings) logs rows (best_predictor (settings_of job.settings) logs rows) f.settings.alphabet.1 (omega (arith, f.few)) (λ c p q. logs_in c p (omega arith))

  -- of what stands beside a node, as `root-sized` and `seed-sized` want it
  pub evaluated_number : (mode : ℤ) (rows : List Row) → length rows ≤ row_count x → Number (info_of (settings_of job.settings) logs mode rows).cost
  evaluated_number mode rows h = within_not_nan (info_of (settings_of job.settings) logs mode rows).cost (257 * 2 ^ 22) (evaluated_within mode rows h)

  logs_fit_lem : T (single.logs_fit (take (row_count x) (drop 1 logs)))
  logs_fit_lem = all_from (is_between (fin false 0 (pos 0)) (fin false 1 (pos 5))) singles.nought (take (row_count x) (drop 1 logs)) each
    where
      each : (i : ℕ) → i < length (take (row_count x) (drop 1 logs))
          → T (is_between (fin false 0 (pos 0)) (fin false 1 (pos 5)) (get_or (take (row_count x) (drop 1 logs)) i singles.nought))
      each i l =
          let few : suc i ≤ row_count x = omega (arith, length-take (row_count x) (drop 1 logs)) in
          let before : suc i - 1 ≡ i = omega arith in
          let read : get_or (take (row_count x) (drop 1 logs)) i singles.nought ≡ log_of singles logs (suc i) =
          rw before at (log_read singles (row_count x) logs (suc i) (omega arith) few) in
          rw read (f.logs_reach.fit (suc i) (omega arith) few)

  -- as `root-healthy`, `seed-healthy` and `steps-healthy` want it
  pub job-fits : (uses : Bool) → JobFits SingleSmall (job_of single (settings_of job.settings) logs uses) (row_count x)
  job-fits uses = single-lawful.fits (settings_of job.settings) logs uses (row_count x) f.settings.price f.settings.alphabet.1 f.few f.logs_reach.long logs_fit_lem

-- ---- what is offered
pub offered-shallow : {M : Meter} (t : model.Settings M) (logs : List M.Cost) (depth : ℕ) (cost : M.Cost) (rows : List Row) (o : Offer M)
    → offered t logs depth cost rows ≡ some o → depth < max_depth
unfolding offered is_scored
offered-shallow {M} t logs depth cost rows o e =
    go (leb t.smallest (length rows)) (ltb depth max_depth) (M.less t.split_cost cost) refl (offer_of t cost (best_split t logs rows)) e
  where
    go : (a b c : Bool) → ltb depth max_depth ≡ b → (best : Option (Offer M)) → cond (a && (b && c)) best none ≡ some o → depth < max_depth
    go true true c q best e = ltb→lt depth max_depth (rw q tt)
    go true false c q best e = let z : ◌≡◌ {A = ℕ} 0 1 = cc in absurd (omega arith)
    go false b c q best e = let z : ◌≡◌ {A = ℕ} 0 1 = cc in absurd (omega arith)
