-- What a set of rows costs, in bits (document 01, "Scoring" and "A node"; the Rust's `predictor_costs`). Assumes nothing.
use Rattle.std.specs.Prelude.{ℕ, zero, suc, ◌+◌, ◌*◌, ◌/◌, ◌%◌, ◌^◌, max, Bool, cond, not, ◌&&◌, ◌||◌, List, [], ◌∷◌, map, length, get_or, take, eqb}
use Rattle.model.specs.Lists.{range, count_if, keep}
use Rattle.model.specs.Meter.{Meter}
use Rattle.model.specs.Settings.{Settings, toks_per_row}
use Rattle.model.specs.Token.{extra_count}
use Rattle.model.specs.Rows.{Row, tok_of}

-- the row's token under predictor p is t
abbrev pub has_token : ℕ → ℕ → Row → Bool
has_token p t r = eqb (tok_of r p) t

-- how often each token of the alphabet stands in the predictor's column
unfoldable pub histogram : ℕ → ℕ → List Row → List ℕ
histogram alphabet p rows = map (λ (t : ℕ). count_if (has_token p t) rows) (range 0 alphabet)

-- the extra bits of a histogram whose first entry counts token t
unfoldable pub extra_from : ℕ → List ℕ → ℕ
extra_from t [] = 0
extra_from t (c ∷ cs) = c * extra_count t + extra_from (suc t) cs

module _ (M : Meter) where
  -- entry c of the lent logarithms
  unfoldable pub log_of : List M.Cost → ℕ → M.Cost
  log_of logs c = get_or logs c M.nought

  -- one count more: count × (top - log of count). A count of 0 adds nothing
  unfoldable pub with_count : List M.Cost → M.Cost → M.Cost → ℕ → M.Cost
  with_count logs top bits zero = bits
  with_count logs top bits (suc c) = M.plus bits (M.times (suc c) (M.minus top (log_of logs (suc c))))

  -- `bits` and what each count adds, in ascending token order
  unfoldable pub entropy_from : List M.Cost → M.Cost → M.Cost → List ℕ → M.Cost
  entropy_from logs top bits [] = bits
  entropy_from logs top bits (c ∷ cs) = entropy_from logs top (with_count logs top bits c) cs

  -- of `total` rows with this histogram: the entropy, then the extra bits
  unfoldable pub histogram_cost : List M.Cost → ℕ → List ℕ → M.Cost
  histogram_cost logs total h = M.plus (entropy_from logs (log_of logs total) M.nought h) (M.extra (extra_from 0 h))

  -- p, or the first of ps that costs less than those before it
  unfoldable pub cheapest : (ℕ → M.Cost) → ℕ → List ℕ → ℕ
  cheapest cost p [] = p
  cheapest cost p (q ∷ qs) = cheapest cost (cond (M.less (cost q) (cost p)) q p) qs

  abbrev pub first_cheapest : (ℕ → M.Cost) → List ℕ → ℕ
  first_cheapest cost [] = 0
  first_cheapest cost (p ∷ ps) = cheapest cost p ps

  -- by cost, and by number at equal cost: p goes before the first that does not cost less
  unfoldable pub insert_by_cost : (ℕ → M.Cost) → ℕ → List ℕ → List ℕ
  insert_by_cost cost p [] = p ∷ []
  insert_by_cost cost p (q ∷ qs) =
      let further = q ∷ insert_by_cost cost p qs in
      cond (M.less (cost q) (cost p)) further (p ∷ q ∷ qs)

  unfoldable pub by_cost : (ℕ → M.Cost) → List ℕ → List ℕ
  by_cost cost [] = []
  by_cost cost (p ∷ ps) = insert_by_cost cost p (by_cost cost ps)

module _ {M : Meter} where
  unfoldable pub cost_of : Settings M → List M.Cost → List Row → ℕ → M.Cost
  cost_of t logs rows p = histogram_cost M logs (length rows) (histogram t.alphabet p rows)

  -- a predictor that a leaf may use: allowed, and not predictor 6 if weighted is no
  abbrev pub is_usable : Settings M → ℕ → Bool
  is_usable t p = (t.weighted || not (eqb p 6)) && eqb (t.allowed / 2 ^ p % 2) 1

  -- ascending
  unfoldable pub usable : Settings M → List ℕ
  usable t = keep (is_usable t) (range 0 toks_per_row)

  -- the usable predictor of lowest cost, the lowest number at a tie
  unfoldable pub best_predictor : Settings M → List M.Cost → List Row → ℕ
  best_predictor t logs rows = first_cheapest M (cost_of t logs rows) (usable t)

  -- the s cheapest usable predictors, at least one
  unfoldable pub side_predictors : Settings M → List M.Cost → List Row → List ℕ
  side_predictors t logs rows = take (max t.sides 1) (by_cost M (cost_of t logs rows) (usable t))
