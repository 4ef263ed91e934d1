-- A span's residuals lie from the lowest to the highest. Assumes nothing.
use mathlib.Core.Path.{◌≡◌, refl, ap}
use mathlib.Core.Bool.{Bool, true, false, cond}
use mathlib.Core.List.{List, [], ◌∷◌}
use Prim.Native.Nat.{◌+◌, ◌-◌, ◌^◌, ◌≤◌, ◌<◌}
use native.Mathlib.Omega.{arith}
use lib.IntN.{ℤ, ◌-ℤ◌, nat_abs}
use lib.Signed.{lt_z, mag}
use Rattle.folds.specs.Range as folds
use Rattle.model.specs.Mode.{lowest, highest, width}
use Rattle.mode.specs.Each.{Each, Offset}
use Rattle.mode.specs.Counted.{max_width, Narrow}
use Rattle.mode.proofs.Above.{Above, above_same, above_trans, not-below, below, above_at, reach}

-- ---- what follows of each value from what holds of each
pub each_map : {P Q : ℤ → Type 0} (vs : List ℤ) → ((v : ℤ) → P v → Q v) → Each P vs → Each Q vs
each_map [] f h = tt
each_map (v ∷ vs) f h = (f v h.0, each_map vs f h.1)

each_both : {P Q R : ℤ → Type 0} (vs : List ℤ) → ((v : ℤ) → P v → Q v → R v) → Each P vs → Each Q vs → Each R vs
each_both [] f h k = tt
each_both (v ∷ vs) f h k = (f v h.0 k.0, each_both vs f h.1 k.1)

-- ---- the model's lowest and highest are those that are found
pub lowest-same : (v : ℤ) (ws : List ℤ) → folds.lowest lt_z v ws ≡ lowest v ws
unfolding lowest folds.lowest
lowest-same v [] = refl
lowest-same v (w ∷ ws) = lowest-same (cond (lt_z w v) w v) ws

pub highest-same : (v : ℤ) (ws : List ℤ) → folds.highest lt_z v ws ≡ highest v ws
unfolding highest folds.highest
highest-same v [] = refl
highest-same v (w ∷ ws) = highest-same (cond (lt_z v w) w v) ws

-- ---- none lies below the lowest, or above the highest
lowest_least : (v : ℤ) (ws : List ℤ) → Each (Above (lowest v ws)) (v ∷ ws)
unfolding lowest
lowest_least v [] = (above_same v, tt)
lowest_least v (w ∷ ws) = go (lt_z w v) refl (lowest_least (cond (lt_z w v) w v) ws)
  where
    go : (b : Bool) → lt_z w v ≡ b → Each (Above (lowest (cond b w v) ws)) (cond b w v ∷ ws) → Each (Above (lowest (cond b w v) ws)) (v ∷ w ∷ ws)
    go true e h = (above_trans h.0 (below w v e), h)
    go false e h = (h.0, (above_trans h.0 (not-below w v e), h.1))

abbrev Below : ℤ → ℤ → Type 0
Below high v = Above v high

highest_greatest : (v : ℤ) (ws : List ℤ) → Each (Below (highest v ws)) (v ∷ ws)
unfolding highest
highest_greatest v [] = (above_same v, tt)
highest_greatest v (w ∷ ws) = go (lt_z v w) refl (highest_greatest (cond (lt_z v w) w v) ws)
  where
    go : (b : Bool) → lt_z v w ≡ b → Each (Below (highest (cond b w v) ws)) (cond b w v ∷ ws) → Each (Below (highest (cond b w v) ws)) (v ∷ w ∷ ws)
    go true e h = (above_trans (below v w e) h.0, h)
    go false e h = (h.0, (above_trans (not-below v w e) h.0, h.1))

-- ---- so a span that has rows lies in its width above the lowest
module _ (r : ℤ) (rs : List ℤ) where
  whole : Above (lowest r rs) (highest r rs)
  whole = above_trans (lowest_least r rs).0 (highest_greatest r rs).0

  pub near : Each (Offset (lowest r rs) (width r rs)) (r ∷ rs)
  unfolding width
  near = each_both (r ∷ rs) at (lowest_least r rs) (highest_greatest r rs)
    where
      at : (v : ℤ) → Above (lowest r rs) v → Below (highest r rs) v → Offset (lowest r rs) (width r rs) v
      at v p q =
          let wide : nat_abs (highest r rs -ℤ lowest r rs) ≡ p.at + q.at = ap nat_abs (above_at (above_trans p q)) in
          record { at = p.at; value = p.value; near = omega arith }

  -- of residuals that 32 bits hold
  pub top : mag (lowest r rs) < 2 ^ 31 → mag (highest r rs) < 2 ^ 31 → Offset (lowest r rs) (2 ^ 32) (highest r rs)
  top low high = record { at = whole.at; value = whole.value; near = omega (arith, reach (lowest r rs) whole.at (2 ^ 31) low (rw whole.value at high)) }

  pub narrow : mag (highest r rs) < 2 ^ 31 → width r rs ≤ max_width → Narrow (lowest r rs) (width r rs) (r ∷ rs)
  unfolding width
  narrow high h =
      let last : width r rs - 1 ≡ whole.at = omega (arith, ap nat_abs (above_at whole)) in
      record { near = near; some = omega arith; narrow = h; top = rw (last, ← whole.value) high }
