-- The zero predictor's tokens in the flat list of tokens, 14 a row (document 01, "Mode"). Assumes nothing.
use Rattle.std.specs.Prelude.{ℕ, suc, ◌*◌, Bool, cond, List, [], ◌∷◌, ℤ, pos, set}
use Rattle.std.proofs.Math.Seq.{slice}
use Rattle.model.specs.Settings.{toks_per_row}
use Rattle.model.specs.Mode.{mode, zero_token}

-- the rows from i on, one for each of the residuals, take the tokens of the residuals less the mode; every other token stays
unfoldable pub rezeroed : ℤ → ℕ → List ℤ → List ℕ → List ℕ
rezeroed m i [] tok = tok
rezeroed m i (v ∷ vs) tok = rezeroed m (suc i) vs (set tok (i * toks_per_row) (zero_token m v))

-- the mode of the rows from first to end
abbrev pub mode_at : ℕ → ℕ → List ℤ → ℤ
mode_at first end res = mode (slice first end res)

-- the tokens after the mode step on the rows from first to end
abbrev pub tokens_at : ℕ → ℕ → List ℤ → List ℕ → List ℕ
tokens_at first end res tok = rezeroed (mode_at first end res) first (slice first end res) tok

-- the same, where `uses` says whether modal offsets are on and residuals given: without, the mode is 0 and nothing changes
abbrev pub step_mode : Bool → ℕ → ℕ → List ℤ → ℤ
step_mode uses first end res = cond uses (mode_at first end res) (pos 0)

abbrev pub step_tokens : Bool → ℕ → ℕ → List ℤ → List ℕ → List ℕ
step_tokens uses first end res tok = cond uses (tokens_at first end res tok) tok
