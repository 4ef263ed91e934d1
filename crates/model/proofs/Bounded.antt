-- Costs in single precision are bounded: at most 257 × 2 ^ 22 bits in size for at most 65,536 rows and an alphabet of at most 256, where each logarithm
-- that is read lies between 0 and 32. Counts and extra bits lose nothing. Assumes nothing.
use mathlib.Core.Path.{refl, ap}
use Prim.Native.Nat.{ℕ, zero, suc, ◌+◌, ◌-◌, ◌*◌, ◌^◌, ◌≤◌, ◌<◌}
use native.Mathlib.Nat.{one-mul}
use native.Mathlib.Omega.{arith}
use mathlib.Core.Bool.{false}
use mathlib.Core.List.{List, [], ◌∷◌}
use lib.ListN.{length, get_or, take, drop, length-take, length-drop}
use lib.IntN.{pos}
use lib.Dec.{T, lit≤, lit<}
use lib.Ieee.{Float, fin, binary32, sub, mul, le, of_int}
use lib.Ieee.Fits.{and_l, and_r}
use lib.Ieee.Exact.{HasValue}
use lib.Ieee.Back.{round_whole}
use Rattle.ieee.specs.Within.{Within, Held, within_mono, add-within, sub_within, mul-within, of_nat_within, between-within}
use Rattle.model.specs.Settings.{Settings, max_rows}
use Rattle.model.specs.Rows.{Row}
use Rattle.model.specs.Cost.{histogram, extra_from, log_of, with_count, entropy_from, histogram_cost, cost_of}
use Rattle.model.specs.Single.{singles, single_of}
use Rattle.model.specs.Profile.{is_between, single}
use Rattle.model.specs.Accepting.{LogsWithin}
use Rattle.model.proofs.LogZero.{log_read}
use Rattle.model.proofs.Keeping.{all-at}
use Rattle.model.proofs.Histogram.{sum_of, length-histogram, histogram-sum, extra_from-le, histogram-extra}

-- q × 2 ^ j, where q has at most 24 digits
pub held : (q j : ℕ) → q < 2 ^ 24 → 24 + j ≤ 128 → Held binary32 (q * 2 ^ j)
held q j h k = record { q = q; j = j; is = refl; digits = h; range = k }

-- ---- the sum
-- one count adds 65,536 × 64 at most
count-within : (logs : List Float) (n : ℕ) (bits : Float) (c k : ℕ) → LogsWithin n logs → n ≤ max_rows → c ≤ n → k < 256
    → Within (k * 2 ^ 22) bits → Within (suc k * 2 ^ 22) (with_count singles logs (log_of singles logs n) bits c)
unfolding with_count
count-within logs n bits zero k l r h i w = within_mono bits (omega arith) w
count-within logs n bits (suc c) k l r h i w =
    let top = log_of singles logs n in
    let log = log_of singles logs (suc c) in
    let difference = sub_within binary32 top log 32 32 64 (held 64 0 (lit< tt) (lit≤ tt)) (lit≤ tt) (l n (omega arith) (omega arith)) (l (suc c) (omega arith) h) in
    let count = of_nat_within binary32 (suc c) 65536 (held 65536 0 (lit< tt) (lit≤ tt)) (omega arith) in
    let term = mul-within binary32 (single_of (suc c)) (sub binary32 top log) 65536 64 (1 * 2 ^ 22) (held 1 22 (lit< tt) (lit≤ tt)) (lit≤ tt) count difference in
    add-within binary32 bits (mul binary32 (single_of (suc c)) (sub binary32 top log)) (k * 2 ^ 22) (1 * 2 ^ 22) (suc k * 2 ^ 22) (held (suc k) 22 (omega arith) (lit≤ tt)) (omega arith) w term

-- with no rows every count is 0, and no logarithm is read
entropy_within : (logs : List Float) (n : ℕ) (bits : Float) (cs : List ℕ) (k : ℕ) → LogsWithin n logs → n ≤ max_rows → sum_of cs ≤ n → k + length cs ≤ 256
    → Within (k * 2 ^ 22) bits → Within ((k + length cs) * 2 ^ 22) (entropy_from singles logs (log_of singles logs n) bits cs)
unfolding entropy_from
entropy_within logs n bits [] k l r h i w = within_mono bits (omega arith) w
entropy_within logs n bits (c ∷ cs) k l r h i w =
    let next = with_count singles logs (log_of singles logs n) bits c in
    let rest = entropy_within logs n next cs (suc k) l r (omega arith) (omega arith) (count-within logs n bits c k l r (omega arith) (omega arith) w) in
    within_mono (entropy_from singles logs (log_of singles logs n) next cs) (omega arith) rest

-- the cost of counts that add up to at most n
pub counts-within : (hist : List ℕ) (n : ℕ) (logs : List Float) → sum_of hist ≤ n → n ≤ max_rows → length hist ≤ 256 → LogsWithin n logs → Within (257 * 2 ^ 22) (histogram_cost singles logs n hist)
unfolding histogram_cost
counts-within hist n logs h r a l =
    let start : Within (0 * 2 ^ 22) singles.nought = lit≤ tt in
    let entropy = entropy_within logs n singles.nought hist 0 l r h (omega arith) start in
    let sum = entropy_from singles logs (log_of singles logs n) singles.nought hist in
    let extra = of_nat_within binary32 (extra_from 0 hist) (1 * 2 ^ 22) (held 1 22 (lit< tt) (lit≤ tt)) (omega (arith, extra_from-le 0 hist (omega arith))) in
    add-within binary32 sum (single_of (extra_from 0 hist)) (256 * 2 ^ 22) (1 * 2 ^ 22) (257 * 2 ^ 22) (held 257 22 (lit< tt) (lit≤ tt)) (lit≤ tt)
    (within_mono sum (omega arith) entropy) extra

pub cost-within : (t : Settings singles) (logs : List Float) (rows : List Row) (p : ℕ) → t.alphabet ≤ 256 → length rows ≤ max_rows → LogsWithin (length rows) logs
    → Within (257 * 2 ^ 22) (cost_of t logs rows p)
unfolding cost_of
cost-within t logs rows p a r l =
    counts-within (histogram t.alphabet p rows) (length rows) logs (histogram-sum t.alphabet p rows) r (omega (arith, length-histogram t.alphabet p rows)) l

-- ---- casts
-- a whole number up to 2 ^ 24 has its own value in single precision
pub single_exact : (n : ℕ) → n ≤ 2 ^ 24 → HasValue (single_of n) false n 1
unfolding of_int
single_exact n h = round_whole binary32 false n h

pub get_d_le_sum : (cs : List ℕ) (i : ℕ) → get_or cs i 0 ≤ sum_of cs
get_d_le_sum [] i = omega arith
get_d_le_sum (c ∷ cs) zero = omega arith
get_d_le_sum (c ∷ cs) (suc i) = omega (arith, get_d_le_sum cs i)

pub count_exact : (alphabet p token : ℕ) (rows : List Row) → length rows ≤ max_rows → let n = get_or (histogram alphabet p rows) token 0 in HasValue (single_of n) false n 1
count_exact alphabet p token rows r = single_exact (get_or (histogram alphabet p rows) token 0) (omega (arith, get_d_le_sum (histogram alphabet p rows) token, histogram-sum alphabet p rows))

pub extra_exact : (alphabet p : ℕ) (rows : List Row) → alphabet ≤ 256 → length rows ≤ max_rows → let n = extra_from 0 (histogram alphabet p rows) in HasValue (single_of n) false n 1
extra_exact alphabet p rows a r = single_exact (extra_from 0 (histogram alphabet p rows)) (omega (arith, histogram-extra alphabet p rows a))

-- ---- what the checks show
-- a number from 0 to 2 ^ k
pub between : (x : Float) (k : ℕ) → T (is_between (fin false 0 (pos 0)) (fin false 1 (pos k)) x) → Within (2 ^ k) x
between x k t =
    let lo = le (fin false 0 (pos 0)) x in
    let hi = le x (fin false 1 (pos k)) in
    between-within x (fin false 1 (pos k)) (2 ^ k) (refl, ap (λ (n : ℕ). n * 1) (one-mul (2 ^ k))) (and_l lo hi t) (and_r lo hi t)

pub price-within : (x : Float) → T (single.price_fits x) → Within (2 ^ 20) x
price-within x t = between x 20 t

pub logs-within : (n : ℕ) (logs : List Float) → n < length logs → T (single.logs_fit (take n (drop 1 logs))) → LogsWithin n logs
logs-within n logs h t c p k =
    let part = take n (drop 1 logs) in
    let z = singles.nought in
    rw (log_read singles n logs c p k) at (between (get_or part (c - 1) z) 5 (all-at (is_between (fin false 0 (pos 0)) (fin false 1 (pos 5))) part (c - 1) z (simp (length-take, length-drop) (omega arith)) t))
