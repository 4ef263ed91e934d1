-- Two jobs that evaluate alike as many rows as are handed in learn and deepen alike. So neither operation depends on logarithm 0, nor on those past the
-- rows. Assumes nothing.
use mathlib.Core.Path.{◌≡◌, refl, ap, ◌∙◌}
use Prim.Native.Nat.{ℕ, zero, suc, ◌-◌, ◌≤◌, ◌<◌}
use native.Mathlib.Nat.{le_refl, le_trans}
use native.Mathlib.Omega.{arith}
use mathlib.Core.Bool.{Bool}
use mathlib.Core.List.{List, [], ◌∷◌, ◌++◌}
use mathlib.Core.Option.{Option, none, some}
use lib.ListN.{length, get_or, take, drop, set}
use lib.IntN.{ℤ}
use lib.Dec.{eqb}
use Rattle.model.specs.Meter.{Meter}
use Rattle.model.specs.Rows.{Row, Span}
use Rattle.model.specs.Mode.{span_mode}
use Rattle.model.specs.Tree.{Node, split, leaf, Info, Record, nodes_of, leaf_reached}
use Rattle.model.specs.Job.{Offer, Job}
use Rattle.model.specs.Grow.{Entry, State, Choice, no_choice, chosen, grown_bits, no_entry, leaf_over, foremost, choice_of, gt_rows, le_rows, gt_span, le_span, gt_leaf, le_leaf, split_rows, become_split, split_at, step_to, step, steps}
use Rattle.model.specs.Learn.{leaf_count, pruned, settled_state, finished, root_state, learned}
use Rattle.model.specs.Deepen.{rows_at, seed_leaf, with_seed_node, seed_from, seed_state, deepened}
use Rattle.model.specs.Settings.{Settings}
use Rattle.model.specs.Evaluate.{info_of, offered}
use Rattle.model.specs.Flat.{flat_bits}
use Rattle.model.specs.Profile.{Profile, job_of}
use Rattle.model.specs.Lent.{Lent, row_count, rows_in}
use Rattle.model.specs.Refuse.{is_bad_logs, Besides, refused_before, learn_refusal, deepen_refusal}
use Rattle.model.specs.Operations.{learn, deepen}
use Rattle.model.specs.Kept.{Sized}
use Rattle.model.proofs.LogZero.{Alike, read_alike, info-alike, offered-alike, flat-alike}
use Rattle.model.proofs.Places.{length_rows_of}
use Rattle.model.proofs.Fresh.{length-fresh}
use Rattle.model.proofs.Keeping.{length_keep_le}
use Rattle.model.proofs.Growing.{steps-sized, root-sized, seed-sized, length-sides, length-within}

module _ {M : Meter} where
  -- the job with other evaluations, and settling on or off
  abbrev revalued : Job M → (ℤ → List Row → Info M) → (ℕ → M.Cost → List Row → Option (Offer M)) → (List Row → M.Total) → Bool → Job M
  revalued j info offered flat settling = record { uses = j.uses; info = info; offered = offered; ahead = j.ahead; flat = flat; price = j.price; settling = settling }

  -- growth does not look at settling
  module _ (n : ℕ) (j : Job M) (info : ℤ → List Row → Info M) (offered : ℕ → M.Cost → List Row → Option (Offer M)) (flat : List Row → M.Total) (settling : Bool)
      (same-info : (mode : ℤ) (rows : List Row) → length rows ≤ n → j.info mode rows ≡ info mode rows)
      (same-offer : (depth : ℕ) (cost : M.Cost) (rows : List Row) → length rows ≤ n → j.offered depth cost rows ≡ offered depth cost rows) where
    abbrev other : Job M
    other = revalued j info offered flat settling

    leaf-same : (rows : List Row) (mode : ℤ) (s : Span) (depth : ℕ) → length rows ≤ n → leaf_over j rows mode s depth ≡ leaf_over other rows mode s depth
    unfolding leaf_over
    leaf-same rows mode s depth h = grind arith

    foremost_same : (tree : List (Entry M)) (c : Choice M) (i : ℕ) (o : Option (Offer M)) → foremost j tree c i o ≡ foremost other tree c i o
    foremost_same tree c i none = refl
    foremost_same tree no_choice i (some o) = refl
    foremost_same tree (chosen k p) i (some o) = refl

    choice_same : (tree : List (Entry M)) (m : ℕ) → choice_of j tree m ≡ choice_of other tree m
    unfolding choice_of
    choice_same tree zero = refl
    choice_same tree (suc m) = rw (choice_same tree m) (foremost_same tree (choice_of other tree m) m (get_or tree m no_entry).offer)

    split-same : (s : State M) (i : ℕ) (o : Offer M) → length s.rows ≤ n → split_at j s i o ≡ split_at other s i o
    unfolding split_at gt_leaf le_leaf gt_rows le_rows gt_span le_span split_rows
    split-same s i o h =
        let e = get_or s.tree i no_entry in
        let sides = length-sides j s.rows e o in
        let part = length-within e.span s.rows in
        let gt = leaf-same (gt_rows j s.rows e o) (span_mode j.uses (gt_rows j s.rows e o)) (gt_span j s.rows e o) (suc e.depth) (omega arith) in
        let le = leaf-same (le_rows j s.rows e o) (span_mode j.uses (le_rows j s.rows e o)) (le_span j s.rows e o) (suc e.depth) (omega arith) in
        λ k. record {
          rows = split_rows j s.rows e o;
          tree = set s.tree i (become_split e o (length s.tree)) ++ (gt k ∷ le k ∷ []);
          bits = grown_bits M s.bits (gt k).info.cost (le k).info.cost e.info.cost;
        }

    step_same : (s : State M) → length s.rows ≤ n → step j s ≡ step other s
    unfolding step step_to
    step_same s h = search (arith, choice_same, split-same)

    -- nothing is asked of costs
    abbrev AnyCost : M.Cost → Type 0
    AnyCost c = Unit {0}

    steps-same : (k : ℕ) (s : State M) → Sized AnyCost n s → steps j k s ≡ steps other k s
    unfolding steps
    steps-same zero s z = refl
    steps-same (suc k) s z = ap (step j) (steps-same k s z) ∙ step_same (steps other k s) (steps-sized AnyCost n other tt (λ mode rows h. tt) k s z).rows

    root-same : (rows : List Row) → length rows ≤ n → root_state j rows ≡ root_state other rows
    unfolding root_state
    root-same rows h = search (arith, length-fresh, leaf-same)

    pub grown-same : (k : ℕ) (rows : List Row) → length rows ≤ n → steps j k (root_state j rows) ≡ steps other k (root_state other rows)
    grown-same k rows h = ap (steps j k) (root-same rows h) ∙ steps-same k (root_state other rows) (root-sized AnyCost n other tt (λ mode rs k. tt) rows h)

    seed_leaf_same : (i : Info M) (depth first : ℕ) (mine : List Row) → length mine ≤ n → seed_leaf j i depth first mine ≡ seed_leaf other i depth first mine
    seed_leaf_same i depth first [] h = refl
    seed_leaf_same i depth first (r ∷ rs) h = search (arith, length-fresh, leaf-same)

    node-same : (node : Node) (i : Info M) (depth : ℕ) (mine : List Row) (s : State M) → length mine ≤ n → with_seed_node j node i depth mine s ≡ with_seed_node other node i depth mine s
    node-same (split prop val gt le) i depth mine s h = refl
    node-same leaf i depth mine s h = search (arith, seed_leaf_same)

    seed_from_same : (nodes : List Node) (rows : List Row) → length rows ≤ n → (i : ℕ) (rs : List (Record M)) (s : State M) → seed_from j nodes rows i rs s ≡ seed_from other nodes rows i rs s
    unfolding seed_from rows_at
    seed_from_same nodes rows h i [] s = refl
    seed_from_same nodes rows h i (r ∷ rs) s =
        let mine = rows_at nodes i rows in
        let few : length mine ≤ n = le_trans (length_keep_le (λ (r : Row). eqb (leaf_reached nodes r.props) i) rows) h in
        ap (seed_from j nodes rows (suc i) rs) (node-same r.node r.info r.depth mine s few) ∙ seed_from_same nodes rows h (suc i) rs (with_seed_node other r.node r.info r.depth mine s)

    pub deeper-same : (k : ℕ) (seed : List (Record M)) (rows : List Row) → length rows ≤ n → steps j k (seed_state j seed rows) ≡ steps other k (seed_state other seed rows)
    unfolding seed_state
    deeper-same k seed rows h = search (arith, seed_from_same, steps-same, seed-sized)

-- ---- the operations
module _ (P : Profile) (t : Settings P.meter) (logs logs' : List P.meter.Cost) (uses : Bool) where
  pub learned-alike : (limit : ℕ) (rows : List Row) → Alike P.meter (length rows) logs logs' → learned (job_of P t logs uses) limit rows ≡ learned (job_of P t logs' uses) limit rows
  unfolding learned finished settled_state pruned
  learned-alike limit rows a =
      let n = length rows in
      let j = job_of P t logs uses in
      let info = info-alike P.meter n logs logs' a t in
      let offer = offered-alike P.meter n logs logs' a t in
      let grown = grown-same n j (info_of t logs') (offered t logs') (flat_bits t logs') t.settling info offer (limit - 1) rows (le_refl n) in
      λ i. finished j (grown i) (flat-alike P.meter n logs logs' a t rows (le_refl n) i)

  pub deepened-alike : (limit : ℕ) (seed : List (Record P.meter)) (rows : List Row) → Alike P.meter (length rows) logs logs' → deepened (job_of P t logs uses) limit seed rows ≡ deepened (job_of P t logs' uses) limit seed rows
  unfolding deepened finished settled_state pruned
  deepened-alike limit seed rows a =
      let n = length rows in
      let j = job_of P t logs uses in
      let info = info-alike P.meter n logs logs' a t in
      let offer = offered-alike P.meter n logs logs' a t in
      let grown = deeper-same n j (info_of t logs') (offered t logs') (flat_bits t logs') t.settling info offer (limit - leaf_count (nodes_of seed)) seed rows (le_refl n) in
      λ i. finished j (grown i) (flat-alike P.meter n logs logs' a t rows (le_refl n) i)

module _ (P : Profile) (t : Settings P.meter) (logs logs' : List P.meter.Cost) (x : Lent P.meter)
    (reach : row_count x < length logs) (reach' : row_count x < length logs') (same : take (row_count x) (drop 1 logs) ≡ take (row_count x) (drop 1 logs')) where
  logs-same : is_bad_logs P logs x ≡ is_bad_logs P logs' x
  unfolding is_bad_logs
  logs-same = search arith

  refusal-same : (b : Besides) → refused_before P t logs x b ≡ refused_before P t logs' x b
  unfolding refused_before
  refusal-same b = rw logs-same

  alike : Alike P.meter (length (rows_in x)) logs logs'
  alike = rw (length_rows_of (row_count x) x.props x.toks x.res) (read_alike P.meter (row_count x) logs logs' same)

  pub learn-alike : learn P t logs x ≡ learn P t logs' x
  unfolding learn learn_refusal
  learn-alike = search (arith, learned-alike, alike, refusal-same)

  pub deepen-alike : (count : ℕ) → deepen P t logs count x ≡ deepen P t logs' count x
  unfolding deepen deepen_refusal
  deepen-alike count = search (arith, deepened-alike, alike, refusal-same)
