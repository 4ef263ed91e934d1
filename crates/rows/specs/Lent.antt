-- The caller's rows as the learner holds them: what their lists hold, and that they stay the same lent lists. Assumes nothing.
use Rattle.std.specs.Prelude.{◌≡◌}
use Rattle.rows.specs.declared.Rows.{Rows}
use Rattle.rows.specs.declared.RowsView.{RowsView}
use Rattle.rows.specs.declared.RowTokens.{RowTokens}
use Rattle.rows.specs.Flat.{Flat, flat}

-- what the three lists hold
abbrev pub flat_in : Rows → Flat
flat_in r = flat r.props.now r.tok.now r.res.now

-- what the three lists of a view hold
abbrev pub flat_seen : RowsView → Flat
flat_seen v = flat v.props.now v.tok.now v.res.now

-- what the three lists hold where the tokens alone are for writing
abbrev pub flat_with : RowTokens → Flat
flat_with t = flat t.props.now t.tok.now t.res.now

-- the same three lists are lent
pub record SameRowsLent (x y : Rows) : Type 0 where
  pub props : y.props.ghost_name ≡ x.props.ghost_name
  pub tok : y.tok.ghost_name ≡ x.tok.ghost_name
  pub res : y.res.ghost_name ≡ x.res.ghost_name

-- the same tokens are lent for writing, and beside them stand the same properties and residuals
pub record SameTokensLent (x y : RowTokens) : Type 0 where
  pub props : y.props.now ≡ x.props.now
  pub tok : y.tok.ghost_name ≡ x.tok.ghost_name
  pub res : y.res.now ≡ x.res.now
