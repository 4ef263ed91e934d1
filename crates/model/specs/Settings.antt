-- The settings of a job (document 01, "A job and its rows"), and the fixed numbers. Assumes nothing.
use Rattle.std.specs.Prelude.{ℕ, Bool}
use Rattle.model.specs.Meter.{Meter}

-- in the order of document 01
pub record Settings (M : Meter) : Type 0 where
  pub alphabet : ℕ
  pub limit : ℕ
  pub split_cost : M.Cost
  pub price : M.Cost
  pub smallest : ℕ
  pub sides : ℕ
  pub candidates : ℕ
  pub weighted : Bool
  pub allowed : ℕ
  pub modal : Bool
  pub settling : Bool

-- the same settings with another leaf limit
abbrev pub with_limit : {M : Meter} → ℕ → Settings M → Settings M
with_limit k t =
    record {
      alphabet = t.alphabet;
      limit = k;
      split_cost = t.split_cost;
      price = t.price;
      smallest = t.smallest;
      sides = t.sides;
      candidates = t.candidates;
      weighted = t.weighted;
      allowed = t.allowed;
      modal = t.modal;
      settling = t.settling;
    }

-- the same settings with settling on or off
abbrev pub with_settling : {M : Meter} → Bool → Settings M → Settings M
with_settling b t =
    record {
      alphabet = t.alphabet;
      limit = t.limit;
      split_cost = t.split_cost;
      price = t.price;
      smallest = t.smallest;
      sides = t.sides;
      candidates = t.candidates;
      weighted = t.weighted;
      allowed = t.allowed;
      modal = t.modal;
      settling = b;
    }

-- properties and tokens of a row
abbrev pub props_per_row : ℕ
props_per_row = 24

abbrev pub toks_per_row : ℕ
toks_per_row = 14

-- most rows of a job, leaves of a limit, and nodes of a seed
abbrev pub max_rows : ℕ
max_rows = 65536

abbrev pub max_leaves : ℕ
max_leaves = 4096

abbrev pub max_nodes : ℕ
max_nodes = 8191

-- a node at this depth is not scored
abbrev pub max_depth : ℕ
max_depth = 26
