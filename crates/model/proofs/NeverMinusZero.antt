-- Costs in single precision are finite and never -0, and so are the costs of thresholds and the gains that are offered: ordinary comparison orders them
-- as Rust's `total_cmp` does. Assumes nothing.
use mathlib.Core.Path.{◌≡◌, refl}
use mathlib.Core.Logic.{◌⊎◌, inl, inr}
use Prim.Native.Nat.{ℕ, zero, suc, ◌*◌, ◌^◌, ◌≤◌}
use native.Mathlib.Nat.{le_trans}
use native.Mathlib.Omega.{arith}
use mathlib.Core.Bool.{Bool, true, false, not, cond}
use mathlib.Core.List.{List, [], ◌∷◌}
use mathlib.Core.Option.{some}
use lib.ListN.{length, get_or}
use lib.IntN.{ℤ}
use lib.Dec.{T, lit≤, lit<}
use lib.Ieee.{Float, nan, inf, fin, binary32, add, sub, mul, neg, lt, fits}
use lib.Ieee.Fits.{add-fits, sub-fits, mul-fits, of_int-fits}
use lib.Ieee.Scale.{finite}
use Rattle.ieee.specs.Within.{Within, within-finite, add-within, sub_within}
use Rattle.ieee.specs.Zero.{minus_zero, add-plus}
use Rattle.ieee.specs.Order.{Comparison, comparison, below_infinity}
use Rattle.model.specs.Settings.{Settings, max_rows}
use Rattle.model.specs.Lists.{keep}
use Rattle.model.specs.Rows.{Row, is_above}
use Rattle.model.specs.Cost.{log_of, with_count, entropy_from, histogram_cost, cost_of, best_predictor, side_predictors}
use Rattle.model.specs.Score.{lowest_cost, side_cost}
use Rattle.model.specs.Evaluate.{info_of, offered}
use Rattle.model.specs.Tree.{Record, blank_record}
use Rattle.model.specs.Job.{Offer}
use Rattle.model.specs.Learn.{learned}
use Rattle.model.specs.Deepen.{deepened}
use Rattle.model.specs.Single.{singles, single_of}
use Rattle.model.specs.Profile.{job_of, single}
use Rattle.model.specs.Accepting.{LogsWithin}
use Rattle.model.proofs.Keeping.{length_keep_le}
use Rattle.model.proofs.InRange.{Offers, offered-is}
use Rattle.model.proofs.Growing.{learned-costs, deepened-costs}
use Rattle.model.proofs.Bounded.{held, cost-within, price-within}

-- a finite single-precision number other than -0
pub record Ordinary (x : Float) : Type 0 where
  pub is_finite : T (finite x)
  pub is_single : T (fits binary32 x)
  pub not_minus_zero : T (not (minus_zero x))

-- exactly one of `lt x y`, `x ≡ y`, `lt y x`
pub compared : (x y : Float) → Ordinary x → Ordinary y → Comparison x y
compared x y p q = comparison binary32 x y p.is_finite q.is_finite p.is_single q.is_single p.not_minus_zero q.not_minus_zero

-- ---- never -0: a cost is a sum that starts at +0
-- a single-precision number other than -0
abbrev Plus : Float → Type 0
Plus x = T (fits binary32 x) × T (not (minus_zero x))

plus-add : (x y : Float) → Plus x → T (fits binary32 y) → Plus (add binary32 x y)
plus-add x y p q = (add-fits binary32 x y, add-plus binary32 x y p.0 q p.1)

plus-nought : Plus singles.nought
unfolding fits
plus-nought = (tt, tt)

entropy_plus : (logs : List Float) (top bits : Float) (cs : List ℕ) → Plus bits → Plus (entropy_from singles logs top bits cs)
unfolding entropy_from with_count
entropy_plus logs top bits [] h = h
entropy_plus logs top bits (zero ∷ cs) h = entropy_plus logs top bits cs h
entropy_plus logs top bits (suc c ∷ cs) h =
    let d = sub binary32 top (log_of singles logs (suc c)) in
    entropy_plus logs top (add binary32 bits (mul binary32 (single_of (suc c)) d)) cs (plus-add bits (mul binary32 (single_of (suc c)) d) h (mul-fits binary32 (single_of (suc c)) d))

cost-plus : (t : Settings singles) (logs : List Float) (rows : List Row) (p : ℕ) → Plus (cost_of t logs rows p)
unfolding cost_of histogram_cost
cost-plus t logs rows p = search (arith, plus-add, entropy_plus, plus-nought, of_int-fits)

nought-ordinary : Ordinary singles.nought
nought-ordinary = record { is_finite = tt; is_single = plus-nought.0; not_minus_zero = plus-nought.1 }

-- ---- finite
-- such a number that is at most b in size
abbrev Bounded : ℕ → Float → Type 0
Bounded b x = Within b x × Plus x

ordinary : (x : Float) (b : ℕ) → Bounded b x → Ordinary x
ordinary x b h = record { is_finite = within-finite x b h.0; is_single = h.1.0; not_minus_zero = h.1.1 }

sum_bounded : (x y : Float) → Bounded (257 * 2 ^ 22) x → Bounded (257 * 2 ^ 22) y → Bounded (514 * 2 ^ 22) (add binary32 x y)
sum_bounded x y p q = (add-within binary32 x y (257 * 2 ^ 22) (257 * 2 ^ 22) (514 * 2 ^ 22) (held 514 22 (lit< tt) (lit≤ tt)) (lit≤ tt) p.0 q.0, plus-add x y p.1 q.1.0)

lowest-is : (P : Float → Type 0) (cost : ℕ → Float) (best : Float) (ps : List ℕ) → ((p : ℕ) → P (cost p)) → P best → P (lowest_cost singles cost best ps)
unfolding lowest_cost
lowest-is P cost best [] each h = h
lowest-is P cost best (p ∷ ps) each h = lowest-is P cost (cond (lt (cost p) best) (cost p) best) ps each (go (lt (cost p) best))
  where
    go : (b : Bool) → P (cond b (cost p) best)
    go true = each p
    go false = h

-- a finite cost takes the place of the endless one
first-is : (P : Float → Type 0) (x : Float) → T (finite x) → P x → P (cond (lt x (inf false)) x (inf false))
first-is P x f h = go (lt x (inf false)) (below_infinity x f)
  where
    go : (b : Bool) → T b → P (cond b x (inf false))
    go true t = h
    go false t = absurd t

above_zero : (x : Float) → T (lt singles.nought x) → T (not (minus_zero x))
unfolding lt
above_zero nan h = tt
above_zero (inf s) h = tt
above_zero (fin false m e) h = tt
above_zero (fin true m e) h = absurd h

-- with no side predictor a threshold's cost is endless, and nothing is gained
no_gain : (cost price : Float) → T (finite cost) → T (finite price) → T (lt singles.nought (sub binary32 (sub binary32 cost (add binary32 (inf false) (inf false))) price)) → ⊥
unfolding lt sub add neg
no_gain nan price p q h = p
no_gain (inf s) price p q h = p
no_gain (fin s m e) nan p q h = q
no_gain (fin s m e) (inf u) p q h = q
no_gain (fin s m e) (fin u k d) p q h = h

-- ---- of settings, rows and logarithms in their ranges
module _ (t : Settings singles) (logs : List Float) (n : ℕ) (small : t.alphabet ≤ 256) (few : n ≤ max_rows) (fine : LogsWithin n logs) where
  cost_bounded : (rows : List Row) (p : ℕ) → length rows ≤ n → Bounded (257 * 2 ^ 22) (cost_of t logs rows p)
  cost_bounded rows p h = (cost-within t logs rows p small (omega arith) (λ c l k. fine c l (omega arith)), cost-plus t logs rows p)

  pub cost-finite : (rows : List Row) (p : ℕ) → length rows ≤ n → T (finite (cost_of t logs rows p))
  cost-finite rows p h = within-finite (cost_of t logs rows p) (257 * 2 ^ 22) (cost_bounded rows p h).0

  pub cost-ordinary : (rows : List Row) (p : ℕ) → length rows ≤ n → Ordinary (cost_of t logs rows p)
  cost-ordinary rows p h = ordinary (cost_of t logs rows p) (257 * 2 ^ 22) (cost_bounded rows p h)

  -- what stands beside a node
  pub info-ordinary : (mode : ℤ) (rows : List Row) → length rows ≤ n → Ordinary (info_of t logs mode rows).cost
  unfolding info_of
  info-ordinary mode rows h = cost-ordinary rows (best_predictor t logs rows) h

  -- each node of a learned tree, and each entry that pruning vacates
  pub learned-ordinary : (uses : Bool) (limit : ℕ) (rows : List Row) → length rows ≤ n → (k : ℕ) → Ordinary (get_or (learned (job_of single t logs uses) limit rows).records k blank_record).info.cost
  learned-ordinary uses limit rows h k = learned-costs Ordinary n (job_of single t logs uses) nought-ordinary info-ordinary limit rows h k

  -- after deepening only a seed's split has another: it is endless
  pub deepened-ordinary : (uses : Bool) (limit : ℕ) (seed : List (Record singles)) (rows : List Row) → length rows ≤ n
      → (k : ℕ) → let c = (get_or (deepened (job_of single t logs uses) limit seed rows).records k blank_record).info.cost in Ordinary c ⊎ (c ≡ singles.endless)
  deepened-ordinary uses limit seed rows h k =
      deepened-costs (λ (c : Float). Ordinary c ⊎ (c ≡ singles.endless)) n (job_of single t logs uses) (inl nought-ordinary) (λ mode rs l. inl (info-ordinary mode rs l)) (inr refl) limit seed rows h k

  -- ---- a side, and both sides of a threshold
  side_bounded : (p : ℕ) (ps : List ℕ) (rows : List Row) → length rows ≤ n → Bounded (257 * 2 ^ 22) (side_cost t logs (p ∷ ps) rows)
  unfolding side_cost lowest_cost
  side_bounded p ps rows h =
      lowest-is (Bounded (257 * 2 ^ 22)) (cost_of t logs rows) (cond (lt (cost_of t logs rows p) (inf false)) (cost_of t logs rows p) (inf false)) ps (λ q. cost_bounded rows q h)
      (first-is (Bounded (257 * 2 ^ 22)) (cost_of t logs rows p) (cost-finite rows p h) (cost_bounded rows p h))

  sides_bounded : (p : ℕ) (ps : List ℕ) (le gt : List Row) → length le ≤ n → length gt ≤ n → Bounded (514 * 2 ^ 22) (add binary32 (side_cost t logs (p ∷ ps) le) (side_cost t logs (p ∷ ps) gt))
  sides_bounded p ps le gt h k = sum_bounded (side_cost t logs (p ∷ ps) le) (side_cost t logs (p ∷ ps) gt) (side_bounded p ps le h) (side_bounded p ps gt k)

  pub sides-ordinary : (p : ℕ) (ps : List ℕ) (le gt : List Row) → length le ≤ n → length gt ≤ n → Ordinary (add binary32 (side_cost t logs (p ∷ ps) le) (side_cost t logs (p ∷ ps) gt))
  sides-ordinary p ps le gt h k = ordinary (add binary32 (side_cost t logs (p ∷ ps) le) (side_cost t logs (p ∷ ps) gt)) (514 * 2 ^ 22) (sides_bounded p ps le gt h k)

  -- ---- gains, which order the waiting leaves
  module _ (price : T (single.price_fits t.split_cost)) where
    gain-finite : (cost bits : Float) → Within (257 * 2 ^ 22) cost → Within (514 * 2 ^ 22) bits → T (finite (sub binary32 (sub binary32 cost bits) t.split_cost))
    gain-finite cost bits p q =
        let d = sub_within binary32 cost bits (257 * 2 ^ 22) (514 * 2 ^ 22) (771 * 2 ^ 22) (held 771 22 (lit< tt) (lit≤ tt)) (lit≤ tt) p q in
        within-finite (sub binary32 (sub binary32 cost bits) t.split_cost) (772 * 2 ^ 22)
        (sub_within binary32 (sub binary32 cost bits) t.split_cost (771 * 2 ^ 22) (2 ^ 20) (772 * 2 ^ 22) (held 772 22 (lit< tt) (lit≤ tt)) (lit≤ tt) d (price-within t.split_cost price))

    offer-finite : (cost bits : Float) (ps : List ℕ) (le gt : List Row) → Within (257 * 2 ^ 22) cost → length le ≤ n → length gt ≤ n
        → bits ≡ add binary32 (side_cost t logs ps le) (side_cost t logs ps gt) → T (lt singles.nought (sub binary32 (sub binary32 cost bits) t.split_cost)) → T (finite (sub binary32 (sub binary32 cost bits) t.split_cost))
    unfolding side_cost lowest_cost
    offer-finite cost bits [] le gt w h k e g = absurd (no_gain cost t.split_cost (within-finite cost (257 * 2 ^ 22) w) (within-finite t.split_cost (2 ^ 20) (price-within t.split_cost price)) (rw e at g))
    offer-finite cost bits (p ∷ ps) le gt w h k e g = gain-finite cost bits w (rw e (sides_bounded p ps le gt h k).0)

    offer-ordinary : (rows : List Row) (cost : Float) (o : Offer singles) → length rows ≤ n → Within (257 * 2 ^ 22) cost → Offers t logs rows cost o → Ordinary o.gain
    offer-ordinary rows cost o h w f =
        let above = is_above o.prop o.val in
        let others : Row → Bool = λ r. not (above r) in
        record {
          is_finite = rw f.gain (offer-finite cost f.bits (side_predictors t logs rows) (keep others rows) (keep above rows) w
              (le_trans (length_keep_le others rows) h) (le_trans (length_keep_le above rows) h) f.scored.cost (rw f.gain at f.gains));
          is_single = rw f.gain (sub-fits binary32 (sub binary32 cost f.bits) t.split_cost);
          not_minus_zero = above_zero o.gain f.gains;
        }

    pub gain-ordinary : (depth : ℕ) (mode : ℤ) (rows : List Row) (o : Offer singles) → length rows ≤ n → offered t logs depth (info_of t logs mode rows).cost rows ≡ some o → Ordinary o.gain
    unfolding info_of
    gain-ordinary depth mode rows o h e = search (arith, offer-ordinary, cost_bounded, offered-is)
