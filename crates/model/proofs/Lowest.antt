-- In single precision the predictor beside a node has the lowest cost over the usable ones, and the lowest number at a tie. Assumes nothing.
use mathlib.Core.Path.{◌≡◌, refl}
use Prim.Native.Nat.{ℕ, zero, suc, ◌≤◌, ◌<◌}
use native.Mathlib.Nat.{lt_irrefl, le_refl}
use native.Mathlib.Omega.{arith}
use mathlib.Core.Bool.{Bool, true, false, not, cond}
use mathlib.Core.List.{List, [], ◌∷◌}
use lib.ListN.{length}
use lib.Dec.{T}
use lib.Ieee.{Float, lt}
use lib.Ieee.Scale.{finite}
use Rattle.ieee.specs.Order.{lt_irrefl as below_none, lt_asym, at_most_trans, lt_at_most, at_most_lt}
use Rattle.model.specs.Lists.{range, keep, Each}
use Rattle.model.specs.Settings.{Settings, toks_per_row, max_rows}
use Rattle.model.specs.Rows.{Row}
use Rattle.model.specs.Cost.{cheapest, first_cheapest, cost_of, is_usable, usable, best_predictor}
use Rattle.model.specs.Single.{singles}
use Rattle.model.specs.Accepting.{LogsWithin}
use Rattle.model.proofs.NeverMinusZero.{cost-finite}

-- ---- ascending lists
abbrev Ascending : List ℕ → Type 0
Ascending [] = Unit {0}
Ascending (p ∷ ps) = Each (λ (q : ℕ). p < q) ps × Ascending ps

keep-above : (test : ℕ → Bool) (p first count : ℕ) → p < first → Each (λ (q : ℕ). p < q) (keep test (range first count))
keep-above test p first zero h = tt
keep-above test p first (suc count) h = search (arith, keep-above test p (suc first) count (omega arith))

keep-ascends : (test : ℕ → Bool) (first count : ℕ) → Ascending (keep test (range first count))
keep-ascends test first zero = tt
keep-ascends test first (suc count) = go (test first) (keep-ascends test (suc first) count)
  where
    go : (b : Bool) → Ascending (keep test (range (suc first) count)) → Ascending (cond b (first ∷ keep test (range (suc first) count)) (keep test (range (suc first) count)))
    go true a = (keep-above test first (suc first) count (omega arith), a)
    go false a = a

-- ---- the first of the lowest
-- p costs no less than the best, and more if its number is lower
pub record NoBetter (cost : ℕ → Float) (best p : ℕ) : Type 0 where
  pub no_lower : T (not (lt (cost p) (cost best)))
  pub no_tie_before : p < best → T (lt (cost best) (cost p))

module _ (cost : ℕ → Float) (all : (p : ℕ) → T (finite (cost p))) where
  passed_over : (best p q : ℕ) → p < q → T (not (lt (cost q) (cost p))) → NoBetter cost best p → NoBetter cost best q
  passed_over best p q pq h n = record {
    no_lower = at_most_trans (cost best) (cost p) (cost q) (all best) (all p) (all q) n.no_lower h;
    no_tie_before = λ l. lt_at_most (cost best) (cost p) (cost q) (all best) (all p) (all q) (n.no_tie_before (omega arith)) h;
  }

  beaten : (best p q : ℕ) → T (lt (cost q) (cost p)) → NoBetter cost best q → NoBetter cost best p
  beaten best p q h n =
      let below = at_most_lt (cost best) (cost q) (cost p) (all best) (all q) (all p) n.no_lower h in
      record { no_lower = lt_asym (cost best) (cost p) (all best) (all p) below; no_tie_before = λ l. below }

  itself : (p : ℕ) → NoBetter cost p p
  itself p = record { no_lower = below_none (cost p) (all p); no_tie_before = λ l. absurd (lt_irrefl p l) }

  cheapest_is : (p : ℕ) (ps : List ℕ) → Ascending (p ∷ ps) → Each (NoBetter cost (cheapest singles cost p ps)) (p ∷ ps)
  unfolding cheapest
  cheapest_is p [] a = (itself p, tt)
  cheapest_is p (q ∷ qs) a = go (lt (cost q) (cost p)) refl (cheapest_is (cond (lt (cost q) (cost p)) q p) qs (rest (lt (cost q) (cost p))))
    where
      rest : (b : Bool) → Ascending (cond b q p ∷ qs)
      rest true = a.1
      rest false = (a.0.1, a.1.1)

      go : (b : Bool) → lt (cost q) (cost p) ≡ b → let best = cheapest singles cost (cond b q p) qs in Each (NoBetter cost best) (cond b q p ∷ qs) → Each (NoBetter cost best) (p ∷ q ∷ qs)
      go true e n = (beaten (cheapest singles cost q qs) p q (rw e tt) n.0, (n.0, n.1))
      go false e n = (n.0, (passed_over (cheapest singles cost p qs) p q a.0.0 (rw e tt) n.0, n.1))

pub predictor-lowest : (t : Settings singles) (logs : List Float) (rows : List Row) → t.alphabet ≤ 256 → length rows ≤ max_rows → LogsWithin (length rows) logs
    → Each (NoBetter (cost_of t logs rows) (best_predictor t logs rows)) (usable t)
unfolding best_predictor usable
predictor-lowest t logs rows a r l = go (keep (is_usable t) (range 0 toks_per_row)) (keep-ascends (is_usable t) 0 toks_per_row)
  where
    go : (ps : List ℕ) → Ascending ps → Each (NoBetter (cost_of t logs rows) (first_cheapest singles (cost_of t logs rows) ps)) ps
    go [] s = tt
    go (p ∷ ps) s = cheapest_is (cost_of t logs rows) (λ q. cost-finite t logs (length rows) a r l rows q (le_refl (length rows))) p ps s
