-- What evaluating a node asks for and answers (document 01, "A node"). Assumes nothing.
use Rattle.std.specs.Prelude.{◌≡◌, ℕ, ◌-◌, ◌*◌, ◌≤◌, ◌<◌, max, Bool, false, cond, ◌&&◌, List, length, replicate, ℤ, pos, eqb, leb, ltb, Float}
use Rattle.std.proofs.Math.Option.{none}
use Rattle.model.specs.Lists.{is_empty}
use Rattle.model.specs.Single.{singles}
use Rattle.model.specs.Settings as model
use Rattle.model.specs.Rows.{Row, within, rows_of}
use Rattle.model.specs.Cost.{usable}
use Rattle.model.specs.Evaluate.{info_of, offered}
use Rattle.model.specs.Profile.{single}
use Rattle.model.specs.Refuse.{counts_wanted}
use Rattle.model.specs.Accepting.{InRange}
use Rattle.refuse.specs.declared.Settings.{Settings}
use Rattle.refuse.specs.Given.{settings_of}
use Rattle.cost.specs.declared.Cheapest.{Cheapest}
use Rattle.cost.specs.Counted.{LogsReach}
use Rattle.cost.specs.Histograms.{SpanFits, CountsSpan, span_of}
use Rattle.layout.specs.declared.Leaf.{Leaf}
use Rattle.layout.specs.declared.NodeInfo.{NodeInfo}
use Rattle.layout.specs.Values.{info_is, offer_is}
use Rattle.score_windows.specs.declared.Lane.{Lane}
use Rattle.score_windows.specs.Windows.{lane_of, Windows}

-- the settings passed their checks, the span's rows are there, their tokens lie below the alphabet, the logarithms reach, and the count space is wide enough and zero
pub record Evaluable (ps : List ℤ) (tok : List ℕ) (first end : ℕ) (s : Settings) (ls : List Float) (counts : List ℕ) : Type 0 where
  pub settings : InRange single (settings_of s)
  pub some : is_empty (usable (settings_of s)) ≡ false
  pub tokens : SpanFits tok first end s.alphabet
  pub props : end * model.props_per_row ≤ length ps
  pub logs : LogsReach (end - first) ls
  pub room : counts_wanted (settings_of s) ≤ length counts
  pub zeros : counts ≡ replicate (length counts) 0

-- the rows of a span, whatever rows and residuals the lists hold besides
abbrev pub span_rows : ℕ → ℕ → List ℤ → List ℕ → ℕ → List ℤ → List Row
span_rows first end props tok rows rs = within (span_of first end) (rows_of rows props tok rs)

-- what stands beside the node, and the split that it offers if it is to be scored at all
pub record Evaluated (r : Leaf) (scored : Bool) (t : model.Settings singles) (logs : List Float) (mode : ℤ) (depth : ℕ) (mine : List Row) : Type 0 where
  pub info : info_is r.info ≡ info_of t logs mode mine
  pub offer : offer_is r.offer ≡ cond scored (offered t logs depth (info_of t logs mode mine).cost mine) none

-- a node that was counted, and whose side predictors have their windows
pub record Splittable (props : List ℤ) (tok : List ℕ) (first end : ℕ) (s : Settings) (lanes : List Lane) (stride : ℕ) (hist : List ℕ) (logs : List Float)
    (counts : List ℕ) : Type 0 where
  pub node : Evaluable props tok first end s logs counts
  pub counted : CountsSpan tok first end hist s.alphabet
  pub below : (j : ℕ) → j < length lanes → (lane_of lanes j).pred < model.toks_per_row
  pub some : 1 ≤ length lanes
  pub few : length lanes ≤ model.toks_per_row
  pub sides : length lanes ≤ max s.side_preds 1
  pub windows : Windows hist s.alphabet lanes stride

-- "Scored if rows ≥ smallest node, depth < 26, cost > split cost": the model's `is_scored`, by the number of rows
abbrev pub scored_at : model.Settings singles → ℕ → Float → ℕ → Bool
scored_at t depth cost rows = (leb t.smallest rows && ltb depth model.max_depth) && singles.less t.split_cost cost

-- a node's cost, predictor and offset: "offset = mode if predictor 0 wins, else 0"
abbrev pub info_with : Cheapest → ℤ → NodeInfo
info_with best mode = record { cost = best.bits; pred = best.pred; offset = cond (eqb best.pred 0) mode (pos 0) }
