-- How much each cell has after counting rows, and after summing bins; and the turns of the loops that count. Assumes nothing.
use mathlib.Core.Path.{◌≡◌, refl, sym, ap, ◌∙◌}
use mathlib.Core.Bool.{Bool, true, false, cond}
use mathlib.Core.List.{List}
use Prim.Native.Nat.{ℕ, zero, suc, ◌+◌, ◌*◌, ◌≤◌, ◌<◌}
use native.Mathlib.Nat.{suc-mul}
use native.Mathlib.Numerals.{add-one}
use native.Mathlib.Decide.{ℕ_discrete}
use native.Mathlib.Omega.{arith}
use borrow.Author.Tests.{eq-eqb, ne_eqb}
use lib.Dec.{eqb}
use lib.ListN.{length, get_or, set, length-set}
use lib.Seq.{get_or-set_same, get_or-set_other}
use Rattle.model.specs.Settings.{toks_per_row, max_rows}
use Rattle.cost.specs.Histograms.{bumped, tallied}
use Rattle.cost.proofs.Blocks.{tallied-length, tallied-low}
use Rattle.score_windows.specs.declared.Lane.{Lane}
use Rattle.score_windows.specs.Windows.{lane_of}
use Rattle.score_bins.specs.Bins.{tallied_rows, summed, lane_cell, place_in, Low, TokenFits, InLanes}

-- how many of the first n numbers pass the test, and a sum over them
unfoldable pub count_to : (ℕ → Bool) → ℕ → ℕ
count_to q zero = 0
count_to q (suc n) = count_to q n + cond (q n) 1 0

unfoldable pub sum_to : (ℕ → ℕ) → ℕ → ℕ
sum_to f zero = 0
sum_to f (suc n) = sum_to f n + f n

count_to_le : (q : ℕ → Bool) (n : ℕ) → count_to q n ≤ n
unfolding count_to
count_to_le q zero = omega arith
count_to_le q (suc n) = go (q n) (count_to_le q n)
  where
    go : (t : Bool) → count_to q n ≤ n → count_to q n + cond t 1 0 ≤ suc n
    go true h = omega arith
    go false h = omega arith

pub sum_to_le : (f : ℕ → ℕ) (m n : ℕ) → ((k : ℕ) → f k ≤ m) → sum_to f n ≤ n * m
unfolding sum_to
sum_to_le f m zero h = omega arith
sum_to_le f m (suc n) h = omega (arith, sum_to_le f m n h, h n, suc-mul n m)

pub sum_to_ext : (f g : ℕ → ℕ) (n : ℕ) → ((k : ℕ) → k < n → f k ≡ g k) → sum_to f n ≡ sum_to g n
unfolding sum_to
sum_to_ext f g zero h = refl
sum_to_ext f g (suc n) h = let own = h n (omega arith) in let ih = sum_to_ext f g n (λ k l. h k (omega arith)) in omega arith

-- ---- one row: what a cell had, and how often it was hit

tallied-at : (f : ℕ → ℕ) (n : ℕ) (c : List ℕ) → ((j : ℕ) → j < n → f j < length c) → (i : ℕ) → get_or (tallied f n c) i 0 ≡ get_or c i 0 + count_to (λ (j : ℕ). eqb (f j) i) n
unfolding tallied count_to
tallied-at f zero c h i = omega arith
tallied-at f (suc n) c h i = go (ℕ_discrete i (f n)) (tallied-at f n c (λ j l. h j (omega arith)))
  where
    d : List ℕ
    d = tallied f n c

    go : Dec (i ≡ f n) → ((i : ℕ) → get_or d i 0 ≡ get_or c i 0 + count_to (λ (j : ℕ). eqb (f j) i) n)
        → get_or (set d (f n) (get_or d (f n) 0 + 1)) i 0 ≡ get_or c i 0 + (count_to (λ (j : ℕ). eqb (f j) i) n + cond (eqb (f n) i) 1 0)
    go (yes e) ih =
        let room = h n (omega arith) in
        let long = tallied-length f n c in
        let here = ih i in
        let at : get_or d (f n) 0 ≡ get_or d i 0 = ap (λ (k : ℕ). get_or d k 0) (sym e) in
        let same : get_or (set d (f n) (get_or d (f n) 0 + 1)) i 0 ≡ get_or d (f n) 0 + 1 =
        ap (λ (k : ℕ). get_or (set d (f n) (get_or d (f n) 0 + 1)) k 0) e ∙ get_or-set_same d (f n) (get_or d (f n) 0 + 1) 0 (omega arith) in
        rw (eq-eqb (f n) i (sym e)) (omega arith)
    go (no ne) ih =
        let here = ih i in
        let other = get_or-set_other d (f n) i (get_or d (f n) 0 + 1) 0 ne in
        rw (ne_eqb (f n) i (λ e. ne (sym e))) (omega arith)

-- ---- rows

pub rows_none : (f : ℕ → ℕ → ℕ) (lanes : ℕ) (c : List ℕ) → tallied_rows f lanes 0 c ≡ c
unfolding tallied_rows
rows_none f lanes c = refl

pub rows_more : (f : ℕ → ℕ → ℕ) (lanes n : ℕ) (c : List ℕ) → tallied_rows f lanes (n + 1) c ≡ tallied (f n) lanes (tallied_rows f lanes n c)
unfolding tallied_rows
rows_more f lanes n c = rw add-one

pub rows-length : (f : ℕ → ℕ → ℕ) (lanes n : ℕ) (c : List ℕ) → length (tallied_rows f lanes n c) ≡ length c
unfolding tallied_rows
rows-length f lanes zero c = refl
rows-length f lanes (suc n) c = tallied-length (f n) lanes (tallied_rows f lanes n c) ∙ rows-length f lanes n c

pub rows_at : (f : ℕ → ℕ → ℕ) (lanes n : ℕ) (c : List ℕ) → ((k j : ℕ) → k < n → j < lanes → f k j < length c)
    → (i : ℕ) → get_or (tallied_rows f lanes n c) i 0 ≡ get_or c i 0 + sum_to (λ (k : ℕ). count_to (λ (j : ℕ). eqb (f k j) i) lanes) n
unfolding tallied_rows sum_to
rows_at f lanes zero c h i = omega arith
rows_at f lanes (suc n) c h i =
    let long = rows-length f lanes n c in
    let ih = rows_at f lanes n c (λ k j a b. h k j (omega arith) b) i in
    let step = tallied-at (f n) lanes (tallied_rows f lanes n c) (λ j l. let room = h n j (omega arith) l in omega arith) i in
    omega arith

-- every row adds at most one for each of at most 14 windows
pub rows-low : (f : ℕ → ℕ → ℕ) (lanes n : ℕ) (c : List ℕ) → ((k j : ℕ) → k < n → j < lanes → f k j < length c) → lanes ≤ toks_per_row → n ≤ max_rows → Low 0 c
    → Low 920000 (tallied_rows f lanes n c)
rows-low f lanes n c h few rows z i =
    let hits : sum_to (λ (k : ℕ). count_to (λ (j : ℕ). eqb (f k j) i) lanes) n ≤ n * 14 =
    sum_to_le (λ (k : ℕ). count_to (λ (j : ℕ). eqb (f k j) i) lanes) 14 n (λ k. omega (arith, count_to_le (λ (j : ℕ). eqb (f k j) i) lanes)) in
    omega (arith, rows_at f lanes n c h i, z i)

-- ---- summed

pub summed-none : (stride : ℕ) (c : List ℕ) → summed stride 0 c ≡ c
unfolding summed
summed-none stride c = refl

pub summed-more : (stride n : ℕ) (c : List ℕ) → summed stride (n + 1) c ≡ set (summed stride n c) (stride + n) (get_or (summed stride n c) (stride + n) 0 + get_or (summed stride n c) n 0)
unfolding summed
summed-more stride n c = rw add-one

pub summed-length : (stride n : ℕ) (c : List ℕ) → length (summed stride n c) ≡ length c
unfolding summed
summed-length stride zero c = refl
summed-length stride (suc n) c = simp length-set (summed-length stride n c)

-- what is not reached yet
pub summed-past : (stride n : ℕ) (c : List ℕ) (i : ℕ) → stride + n ≤ i → get_or (summed stride n c) i 0 ≡ get_or c i 0
unfolding summed
summed-past stride zero c i h = refl
summed-past stride (suc n) c i h =
    get_or-set_other (summed stride n c) (stride + n) i (get_or (summed stride n c) (stride + n) 0 + get_or (summed stride n c) n 0) 0 (λ e. omega arith)
    ∙ summed-past stride n c i (omega arith)

-- what is: place y of bin b has the sum of that place over the bins up to b
pub summed_at : (stride n : ℕ) (c : List ℕ) (b y : ℕ) → stride + n ≤ length c → y < stride → b * stride + y < stride + n
    → get_or (summed stride n c) (b * stride + y) 0 ≡ sum_to (λ (a : ℕ). get_or c (a * stride + y) 0) (suc b)
unfolding summed sum_to
summed_at stride zero c zero y room h l = omega arith
summed_at stride zero c (suc b) y room h l = let s = suc-mul b stride in absurd (omega arith)
summed_at stride (suc n) c b y room h l = go b (ℕ_discrete (b * stride + y) (stride + n)) l (λ b l. summed_at stride n c b y (omega arith) h l)
  where
    d : List ℕ
    d = summed stride n c

    v : ℕ
    v = get_or d (stride + n) 0 + get_or d n 0

    go : (b : ℕ) → Dec (b * stride + y ≡ stride + n) → b * stride + y < stride + suc n
        → ((b : ℕ) → b * stride + y < stride + n → get_or d (b * stride + y) 0 ≡ sum_to (λ (a : ℕ). get_or c (a * stride + y) 0) (suc b))
        → get_or (set d (stride + n) v) (b * stride + y) 0 ≡ sum_to (λ (a : ℕ). get_or c (a * stride + y) 0) (suc b)
    go b (no ne) l ih = get_or-set_other d (stride + n) (b * stride + y) v 0 ne ∙ ih b (omega arith)
    go zero (yes e) l ih = absurd (omega arith)
    go (suc b) (yes e) l ih =
        let s = suc-mul b stride in
        let place : n ≡ b * stride + y = omega arith in
        let before : get_or d n 0 ≡ sum_to (λ (a : ℕ). get_or c (a * stride + y) 0) (suc b) = ap (λ (k : ℕ). get_or d k 0) place ∙ ih b (omega arith) in
        let own : get_or d (stride + n) 0 ≡ get_or c (suc b * stride + y) 0 = summed-past stride n c (stride + n) (omega arith) ∙ ap (λ (k : ℕ). get_or c k 0) (sym e) in
        let long = summed-length stride n c in
        let stored : get_or (set d (stride + n) v) (suc b * stride + y) 0 ≡ v = ap (λ (k : ℕ). get_or (set d (stride + n) v) k 0) e ∙ get_or-set_same d (stride + n) v 0 (omega arith) in
        omega arith

-- ---- turns of the loops that count

-- the next cell of a row is there, and not full
pub tally-turn : (f : ℕ → ℕ) (lanes n : ℕ) (c cells : List ℕ) → ((j : ℕ) → j < lanes → f j < length c) → Low 920000 c → lanes ≤ toks_per_row → n < lanes → cells ≡ tallied f n c
    → (f n < length cells) × (get_or cells (f n) 0 < 4294967295)
tally-turn f lanes n c cells h low few lt e =
    let long : length cells ≡ length c = ap length e ∙ tallied-length f n c in
    let held : get_or cells (f n) 0 ≡ get_or (tallied f n c) (f n) 0 = ap (λ (d : List ℕ). get_or d (f n) 0) e in
    let room = h n lt in
    let l = tallied-low f n c 920000 low (f n) in
    (omega arith, omega arith)

-- the next row's cells are not full
pub rows-turn : (f : ℕ → ℕ → ℕ) (lanes n rows : ℕ) (c cells : List ℕ) → ((k j : ℕ) → k < rows → j < lanes → f k j < length c) → Low 0 c → lanes ≤ toks_per_row → rows ≤ max_rows
    → n < rows → cells ≡ tallied_rows f lanes n c → Low 920000 cells
rows-turn f lanes n rows c cells h z few small lt e i =
    omega (arith, rows-low f lanes n c (λ k j a b. h k j (omega arith) b) few (omega arith) z i, ap (λ (d : List ℕ). get_or d i 0) e)

-- ---- the tokens of a row, one by one: the next has room, and is counted

module _ (toks : List ℕ) (lanes : List Lane) (base : ℕ) (cells now : List ℕ) (i : ℕ) (is : now ≡ tallied (lane_cell toks lanes base) i cells) where
  pub token-fits : InLanes toks lanes base (length cells) → Low 920000 cells → i < length lanes → TokenFits toks (lane_of lanes i) base now
  token-fits inside low l =
      let t = tally-turn (lane_cell toks lanes base) (length lanes) i cells now inside.room low inside.few l is in
      record { pred = inside.pred i l; from = inside.from i l; room = t.0; low = t.1 }

  pub token-counted : (next : List ℕ) → next ≡ bumped (place_in (lane_of lanes i) toks base) now → next ≡ tallied (lane_cell toks lanes base) (i + 1) cells
  unfolding tallied
  token-counted next h = rw add-one (h ∙ ap (bumped (place_in (lane_of lanes i) toks base)) is)
