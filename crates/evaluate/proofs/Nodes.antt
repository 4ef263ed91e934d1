-- A node from its counts: what stands beside it and what it offers are the model's. Assumes nothing.
use mathlib.Core.Path.{◌≡◌, refl, sym, ap, ◌∙◌}
use mathlib.Core.Bool.{Bool, true, false, cond, ◌&&◌}
use mathlib.Core.List.{List, ◌++◌}
use mathlib.Core.Option.{Option, none}
use Prim.Native.Nat.{ℕ, ◌-◌, ◌*◌, ◌≤◌}
use native.Mathlib.Omega.{arith}
use lib.Dec.{leb, ltb}
use lib.IntN.{ℤ}
use lib.Ieee.{Float, lt}
use lib.ListN.{length, take, replicate, length-append, length-replicate}
use lib.Seq.{take_at}
use Rattle.model.specs.Single.{singles}
use Rattle.model.specs.Settings as model
use Rattle.model.specs.Rows.{Row}
use Rattle.model.specs.Job as job
use Rattle.model.specs.Evaluate.{best_split, offer_of, is_scored, info_of, offered}
use Rattle.model.proofs.Tests.{and-true}
use Rattle.refuse.specs.declared.Settings.{Settings}
use Rattle.refuse.specs.Given.{settings_of}
use Rattle.cost.specs.declared.Cheapest.{Cheapest}
use Rattle.cost.specs.Histograms.{CountsSpan}
use Rattle.cost.specs.Predictors.{usable_predictors, cost_at, cheapest_of, cheapest_on, NodeUsable}
use Rattle.cost.proofs.Bridge.{span-usable, span-cheapest, info-is}
use Rattle.layout.specs.declared.NodeInfo.{NodeInfo}
use Rattle.layout.specs.declared.Offer.{Offer}
use Rattle.std.specs.Prelude.{Option as Maybe, None}
use Rattle.layout.specs.Values.{info_is, offer_is}
use Rattle.evaluate.specs.Evaluated.{Evaluable, Evaluated, span_rows, scored_at, info_with}
use Rattle.evaluate.proofs.Rooms.{take-zeros}
use Rattle.evaluate.proofs.Sides.{span-length, some-usable, hist_length}

and_assoc : (a b c : Bool) → ((a && b) && c) ≡ (a && (b && c))
and_assoc true b c = refl
and_assoc false b c = refl

module _ {props : List ℤ} {tok : List ℕ} {first end : ℕ} {s : Settings} {logs : List Float} {counts : List ℕ} (node : Evaluable props tok first end s logs counts)
    {hist : List ℕ} (counted : CountsSpan tok first end hist s.alphabet) where
  abbrev t : model.Settings singles
  t = settings_of s

  pub usable-node : (costs : List Float) → length costs ≡ 14 → NodeUsable hist (end - first) s.alphabet s.allow_wp s.allowed_preds logs costs
  usable-node costs long =
      span-usable tok first end s.alphabet s.allow_wp s.allowed_preds logs hist node.tokens counted hist costs
      (record { tokens = node.settings.alphabet.1; reach = node.logs; some = some-usable node counted; room = hist_length node counted; long = long })

  module _ {best : Cheapest} (lowest : best ≡ cheapest_of (cost_at hist (end - first) s.alphabet logs) (usable_predictors s.allow_wp s.allowed_preds))
      (mode : ℤ) (depth rows : ℕ) (rs : List ℤ) (h : end ≤ rows) where
    abbrev mine : List Row
    mine = span_rows first end props tok rows rs

    best-is : best ≡ cheapest_on t logs mine
    best-is =
        lowest ∙ span-cheapest tok first end s.alphabet s.allow_wp s.allowed_preds logs hist node.tokens counted t
        (record { alphabet_is = refl; weighted_is = refl; allowed_is = refl }) (some-usable node counted) rows props rs h

    beside : info_is (info_with best mode) ≡ info_of t logs mode mine
    beside = ap (λ (b : Cheapest). info_is (info_with b mode)) best-is ∙ sym (info-is t logs mine mode)

    cost-is : best.bits ≡ (info_of t logs mode mine).cost
    cost-is = ap (λ (i : _). i.cost) beside

    scored-is : scored_at t depth best.bits (end - first) ≡ is_scored t depth (info_of t logs mode mine).cost mine
    unfolding is_scored
    scored-is =
        ap (λ (n : ℕ). scored_at t depth best.bits n) (sym (span-length props tok first end rows rs h))
        ∙ and_assoc (leb t.smallest (length mine)) (ltb depth model.max_depth) (lt t.split_cost best.bits)
        ∙ ap (λ (c : Float). leb t.smallest (length mine) && (ltb depth model.max_depth && lt t.split_cost c)) cost-is

    abbrev theirs : Option (job.Offer singles)
    theirs = offered t logs depth (info_of t logs mode mine).cost mine

    module _ (wanted : Bool) {scored : Bool} (test : scored ≡ scored_at t depth best.bits (end - first)) {info : NodeInfo} (own : info ≡ info_with best mode) where
      -- it is scored
      pub evaluated_scored : (wanted && scored) ≡ true → {offer : Maybe Offer} → offer_is offer ≡ offer_of t best.bits (best_split t logs mine)
          → Evaluated (record { info = info; offer = offer }) wanted t logs mode depth mine
      unfolding offered
      evaluated_scored e {offer} o =
          let both = and-true wanted scored e in
          let cost = (info_of t logs mode mine).cost in
          let passes : is_scored t depth cost mine ≡ true = sym scored-is ∙ sym test ∙ both.1 in
          let here : offer_is offer ≡ theirs =
          o ∙ ap (λ (c : Float). offer_of t c (best_split t logs mine)) cost-is
          ∙ ap (λ (b : Bool). cond b (offer_of t cost (best_split t logs mine)) none) (sym passes) in
          record { info = ap info_is own ∙ beside; offer = here ∙ ap (λ (b : Bool). cond b theirs none) (sym both.0) }

      -- it is not
      pub evaluated_not : (wanted && scored) ≡ false → Evaluated (record { info = info; offer = None }) wanted t logs mode depth mine
      unfolding offered
      evaluated_not e = record { info = ap info_is own ∙ beside; offer = sym (go wanted e) }
        where
          go : (w : Bool) → (w && scored) ≡ false → cond w theirs none ≡ none
          go true f =
              let cost = (info_of t logs mode mine).cost in
              ap (λ (b : Bool). cond b (offer_of t cost (best_split t logs mine)) none) (sym scored-is ∙ sym test ∙ f)
          go false f = refl

-- ---- the counts, in the first cells of a local array

module _ {props : List ℤ} {tok : List ℕ} {first end : ℕ} {s : Settings} {logs : List Float} {counts : List ℕ}
    (node : Evaluable props tok first end s logs counts) where
  cells_fit : 14 * s.alphabet ≤ 3584
  cells_fit = omega (arith, node.settings.alphabet)

  pub cells-zero : ◌≡◌ {A = List ℕ} (take (14 * s.alphabet) (replicate 3584 0)) (replicate (14 * s.alphabet) 0)
  cells-zero = take-zeros (14 * s.alphabet) 3584 cells_fit

  pub cells-lent : 14 * s.alphabet ≡ length {A = ℕ} (take (14 * s.alphabet) (replicate 3584 0))
  cells-lent = sym (ap length cells-zero ∙ length-replicate {A = ℕ} (14 * s.alphabet) 0)

  module _ {hist : List ℕ} (counted : CountsSpan tok first end hist s.alphabet) (rest : List ℕ) where
    pub cells-there : 14 * s.alphabet ≤ length (hist ++ rest)
    cells-there = omega (arith, hist_length node counted, length-append hist rest)

    taken : take (14 * s.alphabet) (hist ++ rest) ≡ hist
    taken = take_at hist rest (14 * s.alphabet) (hist_length node counted)

    pub cells-back : 14 * s.alphabet ≡ length (take (14 * s.alphabet) (hist ++ rest))
    cells-back = sym (ap length taken ∙ hist_length node counted)

    pub cells-counted : CountsSpan tok first end (take (14 * s.alphabet) (hist ++ rest)) s.alphabet
    cells-counted rows ps rs h = taken ∙ counted rows ps rs h
