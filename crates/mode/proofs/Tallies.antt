-- What the count space holds when residuals are counted in it, and when the places in use are cleared. Assumes nothing.
use mathlib.Core.Path.{◌≡◌, refl, sym, ap, ◌∙◌}
use mathlib.Core.Bool.{Bool, true, false, cond}
use mathlib.Core.List.{List, [], ◌∷◌, ◌++◌}
use Prim.Native.Nat.{ℕ, suc, ◌+◌, ◌≤◌, ◌<◌}
use native.Mathlib.Decide.{ℕ_discrete}
use native.Mathlib.Omega.{arith}
use borrow.Author.Tests.{eq-eqb, ne_eqb}
use lib.Dec.{eqb}
use lib.IntN.{ℤ, pos, ◌+ℤ◌, nat_abs}
use lib.ListN.{length, get_or, take, drop, replicate, length-set, length-replicate, get_or-replicate, take-append-drop}
use lib.Seq.{get_or-set_same, get_or-set_other, drop-set-lt, ext_get_or, length-take-le, get_or-take}
use Rattle.model.specs.Lists.{count_if, eq_z}
use Rattle.model.specs.Settings.{max_rows}
use Rattle.mode.specs.Each.{Each, Offset}
use Rattle.folds.specs.Counts.{bumped, tallied}
use Rattle.mode.specs.Counted.{max_width, offset_of, Countable}
use Rattle.mode.specs.Lent.{Clear}
use Rattle.mode.proofs.Above.{above_at, eq_z-above}
use Rattle.mode.proofs.Spread.{each_map}

-- a value's place
pub place : {low v : ℤ} {width : ℕ} (h : Offset low width v) → offset_of low v ≡ h.at
place {low} {v} h = ap nat_abs (above_at {low = low} {v = v} (record { at = h.at; value = h.value }))

bumped-at : (counts : List ℕ) (at i : ℕ) → at < length counts → get_or (bumped at counts) i 0 ≡ get_or counts i 0 + cond (eqb i at) 1 0
bumped-at counts at i lt = go (ℕ_discrete i at)
  where
    go : Dec (i ≡ at) → get_or (bumped at counts) i 0 ≡ get_or counts i 0 + cond (eqb i at) 1 0
    go (yes e) = rw (e, get_or-set_same counts at (get_or counts at 0 + 1) 0 lt, eq-eqb at at refl)
    go (no ne) = rw (get_or-set_other counts at i (get_or counts at 0 + 1) 0 ne, ne_eqb i at ne) (omega arith)

-- values in a clear space
pub countable : (low : ℤ) (width : ℕ) (vs : List ℤ) (counts : List ℕ) → Each (Offset low width) vs → width ≤ max_width → length vs ≤ max_rows → Clear counts → Countable low vs counts
countable low width vs counts near narrow few clear =
    record {
      near = each_map vs (λ v p. record { at = p.at; value = p.value; near = omega (arith, p.near) }) near;
      long = clear.long;
      room = λ i lt. omega (arith, clear.zeros i lt);
    }

-- the rest when one value is counted
pub countable-more : {low v : ℤ} {vs : List ℤ} {counts : List ℕ} → Countable low (v ∷ vs) counts → Countable low vs (bumped (offset_of low v) counts)
countable-more {low} {v} {vs} {counts} h =
    record { near = h.near.1; long = rw length-set h.long; room = room }
  where
    room : (i : ℕ) → i < max_width → get_or (bumped (offset_of low v) counts) i 0 + length vs ≤ max_rows
    room i lt = rw (place h.near.0, bumped-at counts h.near.0.at i (omega arith)) (go (eqb i h.near.0.at) (h.room i lt))
      where
        go : (b : Bool) → get_or counts i 0 + suc (length vs) ≤ max_rows → get_or counts i 0 + cond b 1 0 + length vs ≤ max_rows
        go true k = omega arith
        go false k = omega arith

-- each count has grown by how often its value occurs
pub tallied-at : (low : ℤ) (width : ℕ) (vs : List ℤ) (counts : List ℕ) → Each (Offset low width) vs → width ≤ length counts → (i : ℕ)
    → get_or (tallied (offset_of low) vs counts) i 0 ≡ get_or counts i 0 + count_if (eq_z (low +ℤ pos i)) vs
unfolding tallied
tallied-at low width [] counts h le i = omega arith
tallied-at low width (v ∷ vs) counts h le i =
    let at = h.0.at in
    let rest = tallied-at low width vs (bumped (offset_of low v) counts) h.1 (rw length-set le) i in
    let one : get_or (bumped (offset_of low v) counts) i 0 ≡ get_or counts i 0 + cond (eqb i at) 1 0 = rw (place h.0) (bumped-at counts at i (omega arith)) in
    let same : ◌≡◌ {A = ℕ} (cond (eqb i at) 1 0) (cond (eq_z (low +ℤ pos i) v) 1 0) = ap (λ (b : Bool). cond b 1 0) (sym (ap (eq_z (low +ℤ pos i)) h.0.value ∙ eq_z-above low i at)) in
    omega (arith, rest, one, same)

-- the places past those in use are as they were
tallied-past : (low : ℤ) (width : ℕ) (vs : List ℤ) (counts : List ℕ) → Each (Offset low width) vs → drop width (tallied (offset_of low) vs counts) ≡ drop width counts
unfolding tallied
tallied-past low width [] counts h = refl
tallied-past low width (v ∷ vs) counts h =
    tallied-past low width vs (bumped (offset_of low v) counts) h.1
    ∙ drop-set-lt width counts (offset_of low v) (get_or counts (offset_of low v) 0 + 1) (rw (place h.0) h.0.near)

-- with the places in use cleared, the count space is as it was
pub cleared : (low : ℤ) (width : ℕ) (vs : List ℤ) (counts : List ℕ) → Each (Offset low width) vs → width ≤ max_width → Clear counts
    → replicate width 0 ++ drop width (tallied (offset_of low) vs counts) ≡ counts
cleared low width vs counts h le clear =
    ap (λ (l : List ℕ). replicate width 0 ++ l) (tallied-past low width vs counts h)
    ∙ ap (λ (l : List ℕ). l ++ drop width counts) (sym zeros)
    ∙ take-append-drop width counts
  where
    long : length (take width counts) ≡ width
    long = let wide = clear.long in length-take-le width counts (omega arith)

    zeros : take width counts ≡ replicate width 0
    zeros = ext_get_or 0 (take width counts) (replicate width 0) (long ∙ sym (length-replicate width 0))
        (λ i lt. get_or-take width counts i 0 (omega (arith, long)) ∙ clear.zeros i (omega (arith, long)) ∙ sym (get_or-replicate width i 0 0 (omega (arith, long))))
