-- What the checks are given, and what they answer, in the model's terms (document 01, "Which number comes back"). Assumes nothing.
use Rattle.std.specs.Prelude.{◌≡◌, refl, Option, Some, None, ℕ, ◌*◌, ◌/◌, ◌≤◌, length, replicate}
use Rattle.std.proofs.Math.Option as maybe
use Rattle.std.proofs.lemmas.List.{length-replicate}
use Rattle.model.specs.Meter.{Meter}
use Rattle.model.specs.Settings as model
use Rattle.model.specs.Single.{singles}
use Rattle.model.specs.Rows.{no_span}
use Rattle.model.specs.Tree.{blank_record}
use Rattle.model.specs.Lent.{Lent, stored, no_waiting}
use Rattle.cost.specs.declared.Allowed.{Allowed}
use Rattle.rows.specs.Flat.{Flat}
use Rattle.refuse.specs.declared.Settings.{Settings}
use Rattle.refuse.specs.declared.Rooms.{Rooms}

-- the settings of a job (document 01, "A job and its rows")
abbrev pub settings_of : Settings → model.Settings singles
settings_of s =
    record {
      alphabet = s.alphabet;
      limit = s.max_leaves;
      split_cost = s.split_cost_bits;
      price = s.prune_leaf_bits;
      smallest = s.min_node;
      sides = s.side_preds;
      candidates = s.max_candidates;
      weighted = s.allow_wp;
      allowed = s.allowed_preds;
      modal = s.modal_offsets;
      settling = s.settle;
    }

-- the predictors that the settings allow a leaf
abbrev pub allowed_in : Settings → Allowed
allowed_in s = record { weighted = s.allow_wp; preds = s.allowed_preds }

-- the lent lists have so many properties, tokens and residuals
pub record Holds {M : Meter} (p t r : ℕ) (x : Lent M) : Type 0 where
  pub props : length x.props ≡ p
  pub toks : length x.toks ≡ t
  pub res : length x.res ≡ r

-- the lent rooms have so many entries
pub record HasRooms {M : Meter} (room : Rooms) (x : Lent M) : Type 0 where
  pub nodes : length x.nodes ≡ room.nodes
  pub spans : length x.spans ≡ room.spans
  pub queue : length x.queue ≡ room.queue
  pub counts : length x.counts ≡ room.counts

-- These lists are lent, with rooms of so many entries. The checks promise their answer for every such x: what the rooms hold is all the same to them
pub record Lends {M : Meter} (rows : Flat) (room : Rooms) (x : Lent M) : Type 0 where
  pub props : x.props ≡ rows.props
  pub toks : x.toks ≡ rows.toks
  pub res : x.res ≡ rows.res
  pub rooms : HasRooms room x

-- there are such lists: those whose rooms are blank
abbrev pub lent_of : {M : Meter} → Flat → Rooms → Lent M
lent_of rows room =
    record {
      props = rows.props;
      toks = rows.toks;
      res = rows.res;
      nodes = replicate room.nodes (stored blank_record);
      spans = replicate room.spans no_span;
      queue = replicate room.queue no_waiting;
      counts = replicate room.counts 0;
    }

pub lends : {M : Meter} (rows : Flat) (room : Rooms) → Lends {M = M} rows room (lent_of rows room)
lends rows room =
    record {
      props = refl;
      toks = refl;
      res = refl;
      rooms =
          record {
            nodes = length-replicate room.nodes (stored blank_record);
            spans = length-replicate room.spans no_span;
            queue = length-replicate room.queue no_waiting;
            counts = length-replicate room.counts 0;
          };
    }

-- so many tokens are those of whole rows, and of no more rows than a job has
pub record WholeRows (n : ℕ) : Type 0 where
  pub whole : n ≡ 14 * (n / 14)
  pub few : n / 14 ≤ 65536

-- the row to name, if any
abbrev pub found_of : maybe.Option ℕ → Option ℕ
found_of maybe.none = None
found_of (maybe.some row) = Some row
