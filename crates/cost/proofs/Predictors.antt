-- The lowest cost as the code finds it, from infinity on over all predictors, is the model's over the usable ones. Assumes nothing.
use mathlib.Core.Path.{◌≡◌, refl, sym, ap, ◌∙◌}
use mathlib.Core.Bool.{Bool, true, false, cond}
use mathlib.Core.List.{List, [], ◌∷◌, ◌++◌, append-nil}
use Prim.Native.Nat.{ℕ, zero, suc, ◌+◌, ◌-◌, ◌*◌, ◌^◌, ◌<◌}
use native.Mathlib.Numerals.{add-one}
use native.Mathlib.Omega.{arith}
use lib.Dec.{T}
use lib.ListN.{length, get_or, set, take, drop, length-take}
use lib.Seq.{paste}
use lib.Ieee.{Float, nan, inf, fin, lt}
use lib.Ieee.Scale.{finite}
use Rattle.ieee.specs.Within.{Within, within-finite}
use Rattle.ieee.specs.Order.{below_infinity}
use Rattle.model.specs.Lists.{range, keep, is_empty}
use Rattle.model.specs.Settings.{toks_per_row}
use Rattle.model.specs.Single.{singles}
use Rattle.model.specs.Cost.{cheapest}
use Rattle.model.proofs.Places.{range-more, length-each, each_at}
use Rattle.model.proofs.Paths.{T→true}
use Rattle.cost.specs.declared.Cheapest.{Cheapest}
use Rattle.cost.specs.Counted.{Counted}
use Rattle.cost.specs.Histograms.{part}
use Rattle.cost.specs.Predictors.{may_use, usable_predictors, cost_at, cheapest_of, usable_cost, node_costs, cheaper_of, cheapest_to, NodeCounted}
use Rattle.cost.proofs.Blocks.{over-turn, over-end}
use Rattle.cost.proofs.Numbers.{keep_append}
use Rattle.cost.proofs.Bounded.{cost-within}

-- ---- one predictor's histogram

-- the part of the list that a slice from p × alphabet has
pub part-is : (hist : List ℕ) (alphabet p : ℕ) → take (p * alphabet + alphabet - p * alphabet) (drop (p * alphabet) hist) ≡ part alphabet p hist
part-is hist alphabet p = let n : p * alphabet + alphabet - p * alphabet ≡ alphabet = omega arith in rw n

module _ (hist : List ℕ) (total alphabet : ℕ) (logs : List Float) (node : NodeCounted hist total alphabet logs) where
  pub part-counted : (p : ℕ) → p < toks_per_row → Counted (part alphabet p hist) total logs
  part-counted p h =
      record {
        rows = node.rows p h;
        small = node.small;
        tokens = simp length-take (omega (arith, node.tokens));
        reach = node.reach.long;
      }

  pub cost_at-within : (p : ℕ) → p < toks_per_row → Within (257 * 2 ^ 22) (cost_at hist total alphabet logs p)
  unfolding cost_at
  cost_at-within p h = cost-within (part alphabet p hist) total logs (part-counted p h) node.reach

-- ---- the first of the lowest

-- nothing is above infinity
lt-endless : (x : Float) → lt (inf false) x ≡ false
unfolding lt
lt-endless nan = refl
lt-endless (inf s) = refl
lt-endless (fin s m e) = refl

below-endless : (x : Float) → T (finite x) → lt x (inf false) ≡ true
below-endless x h = T→true (lt x (inf false)) (below_infinity x h)

module _ (may : ℕ → Bool) (cost : ℕ → Float) where
  -- one predictor more at the end
  cheapest-more : (p : ℕ) (qs : List ℕ) (n : ℕ) → cheapest singles cost p (qs ++ (n ∷ [])) ≡ cond (lt (cost n) (cost (cheapest singles cost p qs))) n (cheapest singles cost p qs)
  unfolding cheapest
  cheapest-more p [] n = refl
  cheapest-more p (q ∷ qs) n = cheapest-more (cond (lt (cost q) (cost p)) q p) qs n

  -- infinity if there is none
  abbrev lowest : List ℕ → Cheapest
  lowest [] = record { bits = singles.endless; pred = 0 }
  lowest (p ∷ ps) = cheapest_of cost (p ∷ ps)

  lowest-more : (ps : List ℕ) (n : ℕ) → T (finite (cost n)) → cheaper_of (lowest ps) (cost n) n ≡ lowest (ps ++ (n ∷ []))
  unfolding cheapest_of cheapest
  lowest-more [] n f = simp (below-endless (cost n) f)
  lowest-more (p ∷ ps) n f = rw (cheapest-more p ps n) (go (lt (cost n) (cost (cheapest singles cost p ps))))
    where
      c : ℕ
      c = cheapest singles cost p ps

      go : (b : Bool) → ◌≡◌ {A = Cheapest} (cond b (record { bits = cost n; pred = n }) (record { bits = cost c; pred = c })) (record { bits = cost (cond b n c); pred = cond b n c })
      go true = refl
      go false = refl

  lowest-next : (ps : List ℕ) (n : ℕ) → T (finite (cost n)) → cheaper_of (lowest ps) (usable_cost may cost n) n ≡ lowest (ps ++ keep may (n ∷ []))
  lowest-next ps n f = go (may n)
    where
      go : (b : Bool) → cheaper_of (lowest ps) (cond b (cost n) singles.endless) n ≡ lowest (ps ++ cond b (n ∷ []) [])
      go true = lowest-more ps n f
      go false = simp (lt-endless (lowest ps).bits, append-nil)

  lowest-to : (n : ℕ) → ((p : ℕ) → p < n → T (finite (cost p))) → cheapest_to (usable_cost may cost) n ≡ lowest (keep may (range 0 n))
  unfolding cheapest_to
  lowest-to zero f = refl
  lowest-to (suc n) f =
      ap (λ (b : Cheapest). cheaper_of b (usable_cost may cost n) n) (lowest-to n (λ p h. f p (omega arith)))
      ∙ lowest-next (keep may (range 0 n)) n (f n (omega arith))
      ∙ ap lowest (sym (keep_append may (range 0 n) (n ∷ [])) ∙ ap (keep may) (sym (range-more n)))

  pub cheapest-all : ((p : ℕ) → p < toks_per_row → T (finite (cost p))) → is_empty (keep may (range 0 toks_per_row)) ≡ false
      → cheapest_to (usable_cost may cost) toks_per_row ≡ cheapest_of cost (keep may (range 0 toks_per_row))
  cheapest-all f some = lowest-to toks_per_row f ∙ go (keep may (range 0 toks_per_row)) some
    where
      go : (ps : List ℕ) → is_empty ps ≡ false → lowest ps ≡ cheapest_of cost ps
      go [] e = let z : ◌≡◌ {A = ℕ} 0 1 = cc in absurd (omega arith)
      go (p ∷ ps) e = refl

-- ---- the loop over the predictors

pub cheapest_to-none : (cost : ℕ → Float) → cheapest_to cost 0 ≡ record { bits = singles.endless; pred = 0 }
unfolding cheapest_to
cheapest_to-none cost = refl

pub cheapest_to-more : (cost : ℕ → Float) (n : ℕ) → cheapest_to cost (n + 1) ≡ cheaper_of (cheapest_to cost n) (cost n) n
unfolding cheapest_to
cheapest_to-more cost n = rw (add-one n)

module _ (hist : List ℕ) (total alphabet : ℕ) (weighted : Bool) (allowed : ℕ) (logs : List Float) where
  pub node_costs-length : length (node_costs hist total alphabet weighted allowed logs) ≡ toks_per_row
  unfolding node_costs
  node_costs-length = length-each (usable_cost (may_use weighted allowed) (cost_at hist total alphabet logs)) 0 toks_per_row

  pub node_costs-at : (p : ℕ) → p < toks_per_row → get_or (node_costs hist total alphabet weighted allowed logs) p nan ≡ usable_cost (may_use weighted allowed) (cost_at hist total alphabet logs) p
  unfolding node_costs
  node_costs-at p h = each_at (usable_cost (may_use weighted allowed) (cost_at hist total alphabet logs)) toks_per_row p nan h

  pub cheapest-end : NodeCounted hist total alphabet logs → is_empty (usable_predictors weighted allowed) ≡ false
      → cheapest_to (usable_cost (may_use weighted allowed) (cost_at hist total alphabet logs)) toks_per_row ≡ cheapest_of (cost_at hist total alphabet logs) (usable_predictors weighted allowed)
  unfolding usable_predictors
  cheapest-end node some =
      let cost = cost_at hist total alphabet logs in
      cheapest-all (may_use weighted allowed) cost (λ p h. within-finite (cost p) (257 * 2 ^ 22) (cost_at-within hist total alphabet logs node p h)) some

  module _ (costs₀ : List Float) (long : length costs₀ ≡ toks_per_row) where
    pub node_costs-turn : (costs : List Float) (p : ℕ) (bits : Float) → p < toks_per_row → costs ≡ paste costs₀ 0 (node_costs hist total alphabet weighted allowed logs) p
        → bits ≡ usable_cost (may_use weighted allowed) (cost_at hist total alphabet logs) p → set costs p bits ≡ paste costs₀ 0 (node_costs hist total alphabet weighted allowed logs) (p + 1)
    node_costs-turn costs p bits h e is =
        let there : p < length costs₀ = omega arith in
        rw e (over-turn (node_costs hist total alphabet weighted allowed logs) costs₀ (node_costs-length ∙ sym long) p nan bits there (is ∙ sym (node_costs-at p h)))

    pub node_costs-end : (p : ℕ) → p ≡ toks_per_row → paste costs₀ 0 (node_costs hist total alphabet weighted allowed logs) p ≡ node_costs hist total alphabet weighted allowed logs
    node_costs-end p e = over-end (node_costs hist total alphabet weighted allowed logs) costs₀ (node_costs-length ∙ sym long) p (e ∙ sym long)
