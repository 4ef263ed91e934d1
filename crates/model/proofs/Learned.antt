-- What the promises say of learning's and deepening's results holds of every job whose evaluation fits. Assumes nothing.
use mathlib.Core.Path.{◌≡◌, refl, ap}
use mathlib.Core.Logic.{◌⊎◌, inl}
use Prim.Native.Nat.{ℕ, suc, ◌+◌, ◌-◌, ◌*◌, ◌≤◌, ◌<◌, max}
use native.Mathlib.Omega.{arith}
use native.Mathlib.Decide.{dec_lt}
use mathlib.Core.Bool.{Bool, false}
use mathlib.Core.List.{List}
use mathlib.Core.Option.{none}
use lib.ListN.{length, length-set}
use lib.Dec.{T, ltb}
use Rattle.model.specs.Lists.{all}
use Rattle.model.specs.Meter.{Meter}
use Rattle.model.specs.Settings.{max_nodes, max_leaves}
use Rattle.model.specs.Rows.{Row, with_zero}
use Rattle.model.specs.Tree.{Record, nodes_of, fault_of}
use Rattle.model.specs.Job.{Job, prunes}
use Rattle.model.specs.Grow.{State, steps}
use Rattle.model.specs.Learn.{Result, leaf_count, result_of, finished, root_state, learned}
use Rattle.model.specs.Deepen.{seed_state, deepened}
use Rattle.model.specs.Accepting.{JobFits}
use Rattle.model.specs.Kept.{no_seeds, Invariant, Healthy}
use Rattle.model.proofs.Lawful.{Bounds}
use Rattle.model.proofs.Results.{has_tokens, ResultKept, ResultFresh, ResultOneMore, ResultLaws}
use Rattle.model.proofs.Steps.{steps-keep}
use Rattle.model.proofs.Root.{root_keeps}
use Rattle.model.proofs.Sound.{same_length, sound, sound-count, has_root}
use Rattle.model.proofs.Tally.{tree-count}
use Rattle.model.proofs.Health.{steps-healthy, root-healthy}
use Rattle.model.proofs.Seeds.{seed_splits, seed_keeps, seed-healthy, seed-length}
use Rattle.model.proofs.Formed.{learned-formed, deepened-formed}
use Rattle.model.proofs.Finished.{finished_kept, finished_tokens}
use Rattle.model.proofs.More.{steps-more}

-- the number of tokens does not change with the zero token
tokens_blind : (z : ℕ) (r : Row) → has_tokens (with_zero z r) ≡ has_tokens r
tokens_blind z r = ap (λ (n : ℕ). ltb 0 n) (length-set r.toks 0 z)

module _ {M : Meter} (B : Bounds M) where
  -- ---- learning: limit - 1 steps from one leaf
  module _ (j : Job M) (limit : ℕ) (rows : List Row) (fit : JobFits B.Small j (length rows)) (low : 1 ≤ limit) (high : limit ≤ max_leaves) where
    abbrev pub grown : State M
    grown = steps j (limit - 1) (root_state j rows)

    pub grown_keeps : Invariant j.uses no_seeds rows grown
    grown_keeps = steps-keep j no_seeds rows (limit - 1) (root_state j rows) (root_keeps j rows)

    pub grown-healthy : Healthy B.Small no_seeds rows grown × (length grown.tree ≤ length (root_state j rows).tree + 2 * (limit - 1))
    grown-healthy = steps-healthy B j rows fit no_seeds (limit - 1) (root_state j rows) (root_keeps j rows) (root-healthy B j rows fit no_seeds)

    one-leaf : length (root_state j rows).tree ≡ 1
    unfolding root_state
    one-leaf = refl

    grown-few : length grown.tree ≤ 2 * limit - 1
    grown-few = omega (arith, grown-healthy.1, one-leaf)

    pub grown-in_range : length grown.tree ≤ max_nodes
    grown-in_range = omega (arith, grown-few)

    learned_kept : ResultKept j.uses rows (2 * limit - 1) (learned j limit rows)
    unfolding learned finished result_of
    learned_kept = finished_kept B j no_seeds rows grown grown_keeps grown-healthy.0 grown-in_range fit.price_small (j.flat rows) (2 * limit - 1) grown-few (λ p blind t. learned-formed j p blind limit rows t)

    learned_fresh : T (all has_tokens rows) → T j.uses → T j.settling ⊎ (prunes j ≡ false) → ResultFresh (learned j limit rows)
    unfolding learned finished result_of
    learned_fresh wide uses h = finished_tokens B j no_seeds rows grown grown_keeps grown-healthy.0 grown-in_range fit.price_small (j.flat rows) uses (learned-formed j has_tokens tokens_blind limit rows wide) h

  -- ---- deepening: from the seed's leaves
  module _ (j : Job M) (limit : ℕ) (seed : List (Record M)) (rows : List Row) (fit : JobFits B.Small j (length rows)) (faultless : fault_of seed ≡ none) where
    abbrev seeds : ℕ → Bool
    seeds = seed_splits B j seed rows fit faultless

    abbrev more : ℕ
    more = limit - leaf_count (nodes_of seed)

    abbrev pub deeper : State M
    deeper = steps j more (seed_state j seed rows)

    seeded : Invariant j.uses seeds rows (seed_state j seed rows)
    seeded = seed_keeps B j seed rows fit faultless

    pub deeper_keeps : Invariant j.uses seeds rows deeper
    deeper_keeps = steps-keep j seeds rows more (seed_state j seed rows) seeded

    pub deeper-healthy : Healthy B.Small seeds rows deeper × (length deeper.tree ≤ length (seed_state j seed rows).tree + 2 * more)
    deeper-healthy = steps-healthy B j rows fit seeds more (seed_state j seed rows) seeded (seed-healthy B j seed rows fit faultless)

    -- nodes + 1 = 2 × leaves
    seed-count : length seed + 1 ≡ 2 * leaf_count (nodes_of seed)
    seed-count =
        let s = sound seed faultless in
        omega (arith, same_length seed, tree-count (nodes_of seed) s.rooted (has_root seed faultless))

    deeper-few : length deeper.tree ≤ max (2 * limit - 1) (length seed)
    deeper-few = omega (arith, deeper-healthy.1, seed-length B j seed rows fit faultless, seed-count)

    module _ (high : limit ≤ max_leaves) where
      pub in_range : length deeper.tree ≤ max_nodes
      in_range = omega (arith, deeper-few, (sound-count seed faultless).1)

      deepened_kept : ResultKept j.uses rows (max (2 * limit - 1) (length seed)) (deepened j limit seed rows)
      unfolding deepened finished result_of
      deepened_kept = finished_kept B j seeds rows deeper deeper_keeps deeper-healthy.0 in_range fit.price_small (j.flat rows) (max (2 * limit - 1) (length seed)) deeper-few (λ p blind t. deepened-formed j p blind limit seed rows t)

      deepened_fresh : T (all has_tokens rows) → T j.uses → T j.settling ⊎ (prunes j ≡ false) → ResultFresh (deepened j limit seed rows)
      unfolding deepened finished result_of
      deepened_fresh wide uses h = finished_tokens B j seeds rows deeper deeper_keeps deeper-healthy.0 in_range fit.price_small (j.flat rows) uses (deepened-formed j has_tokens tokens_blind limit seed rows wide) h

  -- ---- one leaf more
  learned_more : (j : Job M) (k : ℕ) (rows : List Row) → prunes j ≡ false → 1 ≤ k → (learned j (suc k) rows ≡ learned j k rows) ⊎ ResultOneMore j.uses (learned j k rows) (learned j (suc k) rows)
  unfolding learned
  learned_more j k rows unpruned h = let next : suc k - 1 ≡ suc (k - 1) = omega arith in rw next (steps-more j unpruned no_seeds rows (root_state j rows) (j.flat rows) (root_keeps j rows) (k - 1))

  deepened_more : (j : Job M) (k : ℕ) (seed : List (Record M)) (rows : List Row) → JobFits B.Small j (length rows) → prunes j ≡ false → fault_of seed ≡ none
      → (deepened j (suc k) seed rows ≡ deepened j k seed rows) ⊎ ResultOneMore j.uses (deepened j k seed rows) (deepened j (suc k) seed rows)
  unfolding deepened
  deepened_more j k seed rows fit unpruned faultless = elim (dec_lt k leaves) [ yes h ↦ few h | no h ↦ enough (omega arith) ]
    where
      leaves : ℕ
      leaves = leaf_count (nodes_of seed)

      after : ℕ → Result M
      after n = finished j (steps j n (seed_state j seed rows)) (j.flat rows)

      few : k < leaves → (after (suc k - leaves) ≡ after (k - leaves)) ⊎ ResultOneMore j.uses (after (k - leaves)) (after (suc k - leaves))
      few h = let e : suc k - leaves ≡ k - leaves = omega arith in inl (ap after e)

      enough : leaves ≤ k → (after (suc k - leaves) ≡ after (k - leaves)) ⊎ ResultOneMore j.uses (after (k - leaves)) (after (suc k - leaves))
      enough h = let e : suc k - leaves ≡ suc (k - leaves) = omega arith in
          rw e (steps-more j unpruned (seed_splits B j seed rows fit faultless) rows (seed_state j seed rows) (j.flat rows) (seed_keeps B j seed rows fit faultless) (k - leaves))

  pub result-laws : ResultLaws B
  result-laws = search (arith, learned_kept, learned_fresh, learned_more, deepened_kept, deepened_fresh, deepened_more)
