-- What the calls of scoring ask for follows from what is known of the node. Assumes nothing.
use mathlib.Core.Path.{◌≡◌, sym, ap, ◌∙◌}
use mathlib.Core.List.{List}
use mathlib.Core.Bool.{true}
use Prim.Native.Nat.{ℕ, suc, ◌+◌, ◌*◌, ◌≤◌, ◌<◌, max}
use native.Mathlib.Omega.{arith}
use lib.IntN.{ℤ, pos}
use lib.Signed.{lt_z}
use lib.Ieee.{Float}
use lib.ListN.{length, get_or, take, drop, replicate}
use Rattle.refuse.specs.declared.Settings.{Settings}
use Rattle.model.specs.Candidates.{candidates_of}
use Rattle.model.proofs.Paths.{T→true}
use Rattle.candidates.specs.Column.{column}
use Rattle.candidates.proofs.CandidateLaws.{candidates-few, candidates_at_most, candidates-ascending}
use Rattle.candidates.specs.Plan.{Pickable}
use Rattle.score_windows.specs.declared.Lane.{Lane}
use Rattle.score.specs.Scored.{Scorable}
use Rattle.score.specs.Scored.{Spare}
use Rattle.evaluate.specs.Evaluated.{Evaluable, Splittable}
use Rattle.evaluate.proofs.Rooms.{blank-front, spare-back, bins_fit}

module _ {props : List ℤ} {tok : List ℕ} {first end : ℕ} {s : Settings} {logs : List Float} {counts₀ : List ℕ}
    (node : Evaluable props tok first end s logs counts₀) where
  pub room-there : {counts : List ℕ} → counts ≡ counts₀ → 4096 + 14 * s.alphabet ≤ length counts
  room-there e = omega (arith, node.room, ap length e)

  still_zero : {counts : List ℕ} → counts ≡ counts₀ → counts ≡ replicate (length counts) 0
  still_zero e = e ∙ node.zeros ∙ ap (λ (l : List ℕ). replicate {A = ℕ} (length l) 0) (sym e)

  pub pickable : {counts : List ℕ} (q : ℕ) → q < 24 → counts ≡ counts₀ → Pickable props q first end (take 4096 counts)
  pickable {counts} q h e =
      record {
        held = record { ordered = node.tokens.order; inside = node.props; known = h };
        blank = blank-front counts (still_zero e) (omega (arith, room-there e));
      }

module _ {props : List ℤ} {tok : List ℕ} {first end : ℕ} {s : Settings} {lanes : List Lane} {stride : ℕ} {hist : List ℕ} {logs : List Float} {counts₀ : List ℕ}
    (ready : Splittable props tok first end s lanes stride hist logs counts₀) (q : ℕ) where
  -- the property's candidates
  abbrev picked : List ℤ
  picked = candidates_of s.max_candidates (column props q first end)

  picked-ascends : (i : ℕ) → suc i < length picked → lt_z (get_or picked i (pos 0)) (get_or picked (suc i) (pos 0)) ≡ true
  picked-ascends i h =
      T→true (lt_z (get_or picked i (pos 0)) (get_or picked (suc i) (pos 0))) (candidates-ascending s.max_candidates (column props q first end) i (suc i) (omega arith) h).lt

  pub scorable : q < 24 → Scorable props tok first end q picked lanes s.alphabet hist logs
  scorable h =
      record {
        span = ready.node.tokens;
        props_there = ready.node.props;
        property = h;
        ascends = picked-ascends;
        few_cands = candidates-few s.max_candidates (column props q first end);
        pred = ready.below;
        some_preds = ready.some;
        few_preds = ready.few;
        some_tokens = ready.node.settings.alphabet.0;
        tokens = ready.node.settings.alphabet.1;
        counts = ready.counted;
        reach = ready.node.logs;
      }

  pub spare : {counts : List ℕ} → counts ≡ counts₀ → Spare (length lanes) s.alphabet (length picked) (drop (4096 + 14 * s.alphabet) counts)
  spare {counts} e =
      let a = s.alphabet in
      let most = s.max_candidates in
      let fits = bins_fit (length lanes) (max s.side_preds 1) a (length picked) most ready.sides
      (candidates_at_most most (column props q first end)) in
      spare-back counts (still_zero ready.node e) (4096 + 14 * a) (length lanes) a (length picked) (omega (arith, fits, ready.node.room, ap length e))
