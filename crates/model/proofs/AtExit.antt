-- What a result's laws say of the lent lists at exit. Assumes nothing.
use mathlib.Core.Path.{◌≡◌, refl, sym, subst}
use Prim.Native.Nat.{ℕ, ◌≤◌, ◌<◌}
use native.Mathlib.Omega.{arith}
use mathlib.Core.Bool.{Bool}
use mathlib.Core.List.{List, [], ◌∷◌, map}
use mathlib.Core.Option.{none}
use lib.ListN.{length, take, length-map, length-replicate}
use lib.Dec.{T, eqb, eqb→eq}
use Rattle.model.specs.Lists.{all, keep}
use Rattle.model.specs.Meter.{Meter}
use Rattle.model.specs.Settings.{props_per_row}
use Rattle.model.specs.Rows.{Row, no_span}
use Rattle.model.specs.Tree.{is_leaf, Record, fault_of, leaf_reached}
use Rattle.model.specs.Learn.{Result}
use Rattle.model.specs.Lent.{stored, Lent, no_waiting, rows_in, tree_in, lent_after}
use Rattle.model.specs.Operations.{tree_of, lookup}
use Rattle.model.specs.Promise.{reaches, span_at, record_at, IsLeafOf, SpansHold, TokensFresh}
use Rattle.model.specs.Accepting.{Even}
use Rattle.model.proofs.Results.{record_of_result, span_of_result, LeafOfResult, tree_of_result, ResultKept, ResultFresh}
use Rattle.model.proofs.Tests.{and_both}
use Rattle.model.proofs.Listed.{has_props, rows_in-props, exit_rows, exit_props, exit_toks, exit_res}
use Rattle.model.proofs.Written.{length-written, get_d_written}
use Rattle.model.proofs.NodeEntries.{tree-written, record_written}
use Rattle.model.proofs.Lookups.{looked_up}

-- two tests that agree on the rows that pass a third
keep_same : {A : Type 0} (t p q : A → Bool) (xs : List A) → T (all t xs) → ((x : A) → T (t x) → p x ≡ q x) → keep p xs ≡ keep q xs
keep_same t p q [] h same = refl
keep_same t p q (x ∷ xs) h same = let u = (and_both (t x) (all t xs)).0 h in rw (same x u.0, keep_same t p q xs u.1 same)

-- each lent list is as long as at entry
pub record AsLong {M : Meter} (x y : Lent M) : Type 0 where
  pub props : length y.props ≡ length x.props
  pub toks : length y.toks ≡ length x.toks
  pub res : length y.res ≡ length x.res
  pub nodes : length y.nodes ≡ length x.nodes
  pub spans : length y.spans ≡ length x.spans
  pub queue : length y.queue ≡ length x.queue
  pub counts : length y.counts ≡ length x.counts

-- a result whose written entries have room in the lists x
pub record Fits {M : Meter} (uses : Bool) (x : Lent M) (most : ℕ) (r : Result M) : Type 0 where
  pub even : Even x
  pub kept : ResultKept uses (rows_in x) most r
  pub node_room : most ≤ length x.nodes
  pub span_room : most ≤ length x.spans

module _ {M : Meter} {uses : Bool} {x : Lent M} {most : ℕ} {r : Result M} (f : Fits uses x most r) where
  pub rows_at : rows_in (lent_after r x) ≡ r.rows
  rows_at = exit_rows x f.even uses most r f.kept

  pub record_at_lem : (k : ℕ) → k < r.count → record_at (lent_after r x) k ≡ record_of_result r k
  unfolding lent_after
  record_at_lem k h = record_written r.records x.nodes k (omega (arith, f.kept.inside))

  pub span_at_lem : (k : ℕ) → k < r.count → span_at (lent_after r x) k ≡ span_of_result r k
  unfolding lent_after
  span_at_lem k h = get_d_written r.spans x.spans no_span k (omega (arith, f.kept.inside, f.kept.paired))

  pub tree_at : tree_in r.count (lent_after r x).nodes ≡ take r.count r.records
  unfolding lent_after
  tree_at = tree-written r.records x.nodes r.count f.kept.inside

  pub sound_at : fault_of (tree_in r.count (lent_after r x).nodes) ≡ none
  sound_at = rw tree_at f.kept.sound

  pub as_long : AsLong x (lent_after r x)
  unfolding lent_after
  as_long = record {
    props = exit_props x f.even uses most r f.kept;
    toks = exit_toks x f.even uses most r f.kept;
    res = exit_res x f.even uses most r f.kept;
    nodes = length-written (map stored r.records) x.nodes (omega (arith, length-map r.records stored, f.kept.few, f.node_room));
    spans = length-written r.spans x.spans (omega (arith, f.kept.few, f.kept.paired, f.span_room));
    queue = length-replicate (length x.queue) no_waiting;
    counts = length-replicate (length x.counts) 0;
  }

  leaf_at_lem : (k : ℕ) → IsLeafOf (tree_of r) (lent_after r x) k → LeafOfResult r k
  leaf_at_lem k l = (l.0, subst (λ (w : Record M). T (is_leaf w.node)) (record_at_lem k l.0) l.1)

  pub leaf_from : (k : ℕ) → LeafOfResult r k → IsLeafOf (tree_of r) (lent_after r x) k
  leaf_from k l = (l.0, subst (λ (w : Record M). T (is_leaf w.node)) (sym (record_at_lem k l.0)) l.1)

  -- the lookup operation reaches leaf k where the result's tree leads to it
  reaches_at : (k : ℕ) (w : Row) → T (has_props w) → reaches (lookup (lent_after r x).nodes r.count w.props) k ≡ eqb (leaf_reached (tree_of_result r) w.props) k
  reaches_at k w t =
      rw (looked_up (lent_after r x).nodes r.count w.props (omega (arith, as_long.nodes, f.kept.inside, f.kept.few, f.node_room)) sound_at (eqb→eq (length w.props) props_per_row t), tree_at)

  pub spans_hold : SpansHold uses (rows_in x) (tree_of r) (lent_after r x)
  spans_hold = record {
    bounds = λ k l. rw (rows_at, span_at_lem k l.0) (f.kept.bounds k (leaf_at_lem k l));
    each = λ k l. rw (rows_at, span_at_lem k l.0, keep_same has_props _ _ (rows_in x) (rows_in-props x f.even) (reaches_at k)) (f.kept.holds k (leaf_at_lem k l));
  }

  pub tokens_fresh : ResultFresh r → TokensFresh (tree_of r) (lent_after r x)
  tokens_fresh fresh i h =
      let g = fresh i (rw rows_at at h) in
      let k = g.leaf_number in
      let inside = g.is_leaf.0 in
      record {
        leaf_number = k;
        is_leaf = leaf_from k g.is_leaf;
        inside = rw (span_at_lem k inside) g.inside;
        token = rw (rows_at, span_at_lem k inside) g.token;
      }
