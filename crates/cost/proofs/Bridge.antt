-- From counts to rows: of the histograms of some rows, the costs, the lowest cost with its predictor, and the cheapest predictors are the
-- model's on those rows. Assumes nothing.
use mathlib.Core.Path.{◌≡◌, refl, sym, ap, ◌∙◌}
use mathlib.Core.Bool.{Bool, true, false, cond, not}
use mathlib.Core.List.{List, [], ◌∷◌}
use Prim.Native.Nat.{ℕ, ◌-◌, ◌*◌, ◌^◌, ◌≤◌, ◌<◌, max}
use native.Mathlib.Omega.{arith}
use lib.Dec.{T, eqb}
use lib.IntN.{ℤ, pos}
use lib.ListN.{length, take}
use lib.Seq.{length-slice}
use lib.Ieee.{Float, lt, is_nan}
use Rattle.ieee.specs.Within.{Within, within_not_nan}
use Rattle.model.specs.Lists.{range, keep, is_empty}
use Rattle.model.specs.Settings.{Settings, toks_per_row, max_rows}
use Rattle.model.specs.Rows.{Row, within, rows_of}
use Rattle.model.specs.Single.{singles}
use Rattle.model.specs.Cost.{histogram_cost, cheapest, first_cheapest, insert_by_cost, by_cost, cost_of, usable, best_predictor, side_predictors}
use Rattle.model.specs.Evaluate.{info_of}
use Rattle.model.proofs.Places.{length_rows_of}
use Rattle.cost.specs.declared.Cheapest.{Cheapest}
use Rattle.cost.specs.Counted.{LogsReach}
use Rattle.cost.specs.Histograms.{histograms, span_of, SpanFits, CountsSpan}
use Rattle.cost.specs.Predictors.{may_use, usable_predictors, cost_at, cheapest_of, node_costs, cost_in, sorted_predictors, NodeCounted, NodeUsable, NodeRoom, Uses, cheapest_on}
use Rattle.cost.proofs.Numbers.{Each, each_tail, Passes, keep-passes}
use Rattle.cost.proofs.Histograms.{histograms-length, histograms-part, histogram-rows}
use Rattle.cost.proofs.Predictors.{cost_at-within, node_costs-at}
use Rattle.cost.proofs.Sorting.{by_cost-each}

-- ---- what is asked of logarithms and of counts

pub logs-fewer : (n rows : ℕ) (logs : List Float) → n ≤ rows → LogsReach rows logs → LogsReach n logs
logs-fewer n rows logs h l = record { long = omega (arith, l.long); fit = λ c p k. l.fit c p (omega arith) }

pub node-counted : (alphabet : ℕ) (rows : List Row) (logs : List Float) → alphabet ≤ 256 → length rows ≤ max_rows → LogsReach (length rows) logs
    → NodeCounted (histograms alphabet rows) (length rows) alphabet logs
node-counted alphabet rows logs a few l =
    record {
      room = histograms-length alphabet rows;
      tokens = a;
      small = few;
      rows = λ p h. rw (histograms-part alphabet rows p h) (histogram-rows alphabet p rows);
      reach = l;
    }

-- ---- costs that agree on the predictors that are compared

module _ (f g : ℕ → Float) (P : ℕ → Type 0) (same : (p : ℕ) → P p → f p ≡ g p) where
  cheapest-same : (p : ℕ) (qs : List ℕ) → P p → Each P qs → (cheapest singles f p qs ≡ cheapest singles g p qs) × P (cheapest singles f p qs)
  unfolding cheapest
  cheapest-same p [] h k = (refl, h)
  cheapest-same p (q ∷ qs) h k =
      let ih = cheapest-same (cond (lt (f q) (f p)) q p) qs (pick (lt (f q) (f p))) (each_tail P q qs k) in
      let test : lt (f q) (f p) ≡ lt (g q) (g p) = rw (same q (k 0 (omega arith)), same p h) in
      (ih.0 ∙ ap (λ (b : Bool). cheapest singles g (cond b q p) qs) test, ih.1)
    where
      pick : (b : Bool) → P (cond b q p)
      pick true = k 0 (omega arith)
      pick false = h

  insert-same : (p : ℕ) (l : List ℕ) → P p → Each P l → insert_by_cost singles f p l ≡ insert_by_cost singles g p l
  unfolding insert_by_cost
  insert-same p [] h k = refl
  insert-same p (q ∷ qs) h k = rw (same q (k 0 (omega arith)), same p h, insert-same p qs h (each_tail P q qs k))

  by_cost-same : (l : List ℕ) → Each P l → by_cost singles f l ≡ by_cost singles g l
  unfolding by_cost
  by_cost-same [] k = refl
  by_cost-same (p ∷ ps) k =
      let rest = each_tail P p ps k in
      insert-same p (by_cost singles f ps) (k 0 (omega arith)) (by_cost-each f P ps rest) ∙ ap (insert_by_cost singles g p) (by_cost-same ps rest)

-- ---- the bridge

-- the lowest cost is one of the predictors', so it is bounded as theirs are
pub cheapest-within : (hist : List ℕ) (total alphabet : ℕ) (weighted : Bool) (allowed : ℕ) (logs : List Float)
    → NodeCounted hist total alphabet logs → is_empty (usable_predictors weighted allowed) ≡ false
    → Within (257 * 2 ^ 22) (cheapest_of (cost_at hist total alphabet logs) (usable_predictors weighted allowed)).bits
unfolding cheapest_of usable_predictors
cheapest-within hist total alphabet weighted allowed logs node some =
    go (keep (may_use weighted allowed) (range 0 toks_per_row))
    (keep-passes (may_use weighted allowed) toks_per_row 0 toks_per_row (omega arith)) some
  where
    cost : ℕ → Float
    cost = cost_at hist total alphabet logs

    May : ℕ → Type 0
    May = Passes (may_use weighted allowed) toks_per_row

    go : (ps : List ℕ) → Each May ps → is_empty ps ≡ false → Within (257 * 2 ^ 22) (cost (first_cheapest singles cost ps))
    go [] k e = let z : ◌≡◌ {A = ℕ} 0 1 = cc in absurd (omega arith)
    go (p ∷ ps) k e =
        let s = cheapest-same cost cost May (λ q h. refl) p ps (k 0 (omega arith)) (each_tail May p ps k) in
        cost_at-within hist total alphabet logs node (cheapest singles cost p ps) s.1.0

-- so no lowest cost is a NaN
pub cheapest-number : (hist : List ℕ) (total alphabet : ℕ) (weighted : Bool) (allowed : ℕ) (logs : List Float)
    → NodeCounted hist total alphabet logs → is_empty (usable_predictors weighted allowed) ≡ false
    → T (not (is_nan (cheapest_of (cost_at hist total alphabet logs) (usable_predictors weighted allowed)).bits))
cheapest-number hist total alphabet weighted allowed logs node some =
    let lowest = (cheapest_of (cost_at hist total alphabet logs) (usable_predictors weighted allowed)).bits in
    within_not_nan lowest (257 * 2 ^ 22) (cheapest-within hist total alphabet weighted allowed logs node some)

module _ (t : Settings singles) where
  -- may be used
  abbrev Usable : ℕ → Type 0
  Usable = Passes (may_use t.weighted t.allowed) toks_per_row

  usable-each : Each Usable (usable_predictors t.weighted t.allowed)
  unfolding usable_predictors
  usable-each = keep-passes (may_use t.weighted t.allowed) toks_per_row 0 toks_per_row (omega arith)

  pub usable-is : usable_predictors t.weighted t.allowed ≡ usable t
  unfolding usable_predictors usable
  usable-is = refl

  module _ (logs : List Float) (rows : List Row) where
    -- the cost of predictor p, as the node's counts give it
    abbrev node_cost : ℕ → Float
    node_cost = cost_at (histograms t.alphabet rows) (length rows) t.alphabet logs

    pub cost-is : (p : ℕ) → p < toks_per_row → node_cost p ≡ cost_of t logs rows p
    unfolding cost_at cost_of
    cost-is p h = ap (histogram_cost singles logs (length rows)) (histograms-part t.alphabet rows p h)

    cheapest-own : is_empty (usable_predictors t.weighted t.allowed) ≡ false → cheapest_of node_cost (usable_predictors t.weighted t.allowed) ≡ cheapest_on t logs rows
    unfolding cheapest_of cheapest_on best_predictor
    cheapest-own some = rw (← usable-is) (go (usable_predictors t.weighted t.allowed) usable-each some)
      where
        both : (b c : Float) (p q : ℕ) → b ≡ c → p ≡ q → ◌≡◌ {A = Cheapest} (record { bits = b; pred = p }) (record { bits = c; pred = q })
        both b c p q e f = cc

        go : (ps : List ℕ) → Each Usable ps → is_empty ps ≡ false → cheapest_of node_cost ps ≡ cheapest_of (cost_of t logs rows) ps
        go [] k e = let z : ◌≡◌ {A = ℕ} 0 1 = cc in absurd (omega arith)
        go (p ∷ ps) k e =
            let s = cheapest-same node_cost (cost_of t logs rows) Usable (λ q h. cost-is q h.0) p ps (k 0 (omega arith)) (each_tail Usable p ps k) in
            let c = cheapest singles node_cost p ps in
            let d = cheapest singles (cost_of t logs rows) p ps in
            both (node_cost c) (cost_of t logs rows d) c d (cost-is c s.1.0 ∙ ap (cost_of t logs rows) s.0) s.0

    -- what stands beside the node
    pub info-is : (mode : ℤ)
        → let c = cheapest_on t logs rows in info_of t logs mode rows ≡ record { cost = c.bits; pred = c.pred; offset = cond (eqb c.pred 0) mode (pos 0) }
    unfolding info_of cheapest_on
    info-is mode = refl

    -- `cheapest_predictors`' list
    pub sides-is : take (max t.sides 1) (sorted_predictors (node_costs (histograms t.alphabet rows) (length rows) t.alphabet t.weighted t.allowed logs) t.weighted t.allowed)
        ≡ side_predictors t logs rows
    unfolding sorted_predictors side_predictors
    sides-is =
        ap (take (max t.sides 1))
        (by_cost-same (cost_in held) (cost_of t logs rows) Usable same (usable_predictors t.weighted t.allowed) usable-each ∙ ap (by_cost singles (cost_of t logs rows)) usable-is)
      where
        held : List Float
        held = node_costs (histograms t.alphabet rows) (length rows) t.alphabet t.weighted t.allowed logs

        same : (p : ℕ) → Usable p → cost_in held p ≡ cost_of t logs rows p
        same p h =
            node_costs-at (histograms t.alphabet rows) (length rows) t.alphabet t.weighted t.allowed logs p h.0
            ∙ ap (λ (b : Bool). cond b (node_cost p) singles.endless) h.1 ∙ cost-is p h.0

-- `predictor_costs`' answer, by the settings that the code is handed
pub cheapest_is : (t : Settings singles) (alphabet : ℕ) (weighted : Bool) (allowed : ℕ) → Uses t alphabet weighted allowed
    → (logs : List Float) (rows : List Row) → is_empty (usable_predictors weighted allowed) ≡ false
    → cheapest_of (cost_at (histograms alphabet rows) (length rows) alphabet logs) (usable_predictors weighted allowed) ≡ cheapest_on t logs rows
cheapest_is t alphabet weighted allowed u logs rows some =
    let same : usable_predictors t.weighted t.allowed ≡ usable_predictors weighted allowed = rw (u.weighted_is, u.allowed_is) in
    ap (λ (a : ℕ). cheapest_of (cost_at (histograms a rows) (length rows) a logs) (usable_predictors weighted allowed)) (sym u.alphabet_is)
    ∙ ap (cheapest_of (cost_at (histograms t.alphabet rows) (length rows) t.alphabet logs)) (sym same)
    ∙ cheapest-own t logs rows (ap is_empty same ∙ some)

-- ---- a span that is counted

module _ (tok : List ℕ) (first end alphabet : ℕ) (weighted : Bool) (allowed : ℕ) (logs : List Float) (hist : List ℕ)
    (fits : SpanFits tok first end alphabet) (counted : CountsSpan tok first end hist alphabet) where
  abbrev span : ℕ → List ℤ → List ℤ → List Row
  span rows ps rs = within (span_of first end) (rows_of rows ps tok rs)

  span-length : (rows : ℕ) (ps rs : List ℤ) → end ≤ rows → length (span rows ps rs) ≡ end - first
  span-length rows ps rs h = length-slice first end (rows_of rows ps tok rs) (omega (arith, length_rows_of rows ps tok rs))

  pub span-usable : (hist₀ : List ℕ) (costs : List Float) → NodeRoom alphabet (end - first) weighted allowed logs hist₀ costs
      → NodeUsable hist (end - first) alphabet weighted allowed logs costs
  span-usable hist₀ costs room =
      let long = span-length end [] [] (omega arith) in
      record {
        counted = rw (counted end [] [] (omega arith), ← long) (node-counted alphabet (span end [] []) logs room.tokens (omega (arith, fits.few)) (rw (← long) at room.reach));
        some = room.some;
        long = room.long;
      }

  pub span-cheapest : (t : Settings singles) → Uses t alphabet weighted allowed → is_empty (usable_predictors weighted allowed) ≡ false → (rows : ℕ) (ps rs : List ℤ) → end ≤ rows
      → cheapest_of (cost_at hist (end - first) alphabet logs) (usable_predictors weighted allowed) ≡ cheapest_on t logs (span rows ps rs)
  span-cheapest t u some rows ps rs h =
      rw (counted rows ps rs h, ← span-length rows ps rs h) (cheapest_is t alphabet weighted allowed u logs (span rows ps rs) some)
