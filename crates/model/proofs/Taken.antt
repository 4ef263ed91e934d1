-- The leaf that growth takes goes before every other one that waits: of any gains that are ranked, and of document 01's learner. Assumes nothing.
use mathlib.Core.Path.{◌≡◌, refl}
use mathlib.Core.Logic.{◌≢◌}
use Prim.Native.Nat.{ℕ, zero, suc, ◌≤◌, ◌<◌}
use native.Mathlib.Nat.{le_refl}
use native.Mathlib.Omega.{arith}
use native.Mathlib.Decide.{ℕ_discrete}
use mathlib.Core.Bool.{Bool, true, false, cond}
use mathlib.Core.List.{List}
use mathlib.Core.Option.{Option, none, some}
use lib.ListN.{length, take, drop}
use lib.IntN.{ℤ}
use lib.Dec.{T}
use lib.Ieee.{Float}
use lib.Ieee.Scale.{finite}
use borrow.Author.Tests.{ltb-true, ltb-false}
use Rattle.ieee.specs.Order.{lt_asym, at_most_trans}
use Rattle.model.specs.Meter.{Meter}
use Rattle.model.specs.Settings.{Settings, max_rows}
use Rattle.model.specs.Rows.{Row}
use Rattle.model.specs.Tree.{Record}
use Rattle.model.specs.Job.{Offer, Claim, larger_first, Job}
use Rattle.model.specs.Evaluate.{info_of, offered}
use Rattle.model.specs.Grow.{Entry, State, Choice, no_choice, chosen, claim, foremost, choice_of, choice, step_to, step, steps}
use Rattle.model.specs.Learn.{root_state}
use Rattle.model.specs.Deepen.{seed_state}
use Rattle.model.specs.Single.{singles}
use Rattle.model.specs.Profile.{Profile, job_of, single}
use Rattle.model.specs.Accepting.{LogsWithin}
use Rattle.model.specs.Kept.{entry_at}
use Rattle.model.specs.Taken.{GoesBefore, by_gain, by_rows, by_number, Takes, none_waits, splits}
use Rattle.model.proofs.Bounded.{logs-within}
use Rattle.model.proofs.Growing.{learning-offers, deepening-offers}
use Rattle.model.proofs.NeverMinusZero.{gain-ordinary}

-- ---- any gains that are ranked
module _ (M : Meter) (Good : M.Cost → Type 0) where
  -- what is asked of good ones: of two at most one is less than the other, and "not less" goes on from the second to the third
  pub record Ranked : Type 0 where
    pub asym : (x y : M.Cost) → Good x → Good y → M.less x y ≡ true → M.less y x ≡ false
    pub behind : (x y z : M.Cost) → Good x → Good y → Good z → M.less x y ≡ false → M.less y z ≡ false → M.less x z ≡ false

module _ {M : Meter} {Good : M.Cost → Type 0} (r : Ranked M Good) where
  -- what goes before a leaf goes before all that this one goes before
  pub goes_trans : (c d e : Claim M) → Good c.gain → Good d.gain → Good e.gain → (k m n : ℕ) → GoesBefore k c m d → GoesBefore m d n e → GoesBefore k c n e
  goes_trans c d e gc gd ge k m n x y = grind (arith, r.asym, r.behind, by_gain, by_rows, by_number)

  -- of two leaves at most one goes before the other
  pub goes_asym : (c d : Claim M) → Good c.gain → Good d.gain → (k m : ℕ) → GoesBefore k c m d → GoesBefore m d k c → ⊥
  goes_asym c d gc gd k m x y = grind (arith, r.asym)

  -- of two leaves the order says which goes before the other
  abbrev Decided : Bool → ℕ → Claim M → ℕ → Claim M → Type 0
  Decided true k c m d = GoesBefore m d k c
  Decided false k c m d = GoesBefore k c m d

  decided : (k m : ℕ) (c d : Claim M) → k < m → Decided (larger_first M d c) k c m d
  decided k m c d l = grind (arith, ltb-true, ltb-false, by_gain, by_rows, by_number)

  module _ (j : Job M) (order : (c d : Claim M) → j.ahead c d ≡ larger_first M c d) (tree : List (Entry M))
      (good : (k : ℕ) → k < length tree → (o : Offer M) → (entry_at tree k).offer ≡ some o → Good o.gain) where
    -- this is the choice of the first n entries
    abbrev Best : ℕ → Choice M → Type 0
    Best n no_choice = (m : ℕ) → m < n → (entry_at tree m).offer ≡ none
    Best n (chosen k o) = (k < n) × ((entry_at tree k).offer ≡ some o)
        × ((m : ℕ) → m < n → m ≢ k → (p : Offer M) → (entry_at tree m).offer ≡ some p → GoesBefore k (claim tree k o) m (claim tree m p))

    -- one entry more
    best-next : (n : ℕ) → n < length tree → (c : Choice M) → Best n c → (x : Option (Offer M)) → (entry_at tree n).offer ≡ x
        → Best (suc n) (foremost j tree c n x)
    best-next n h no_choice b none e = grind arith
    best-next n h (chosen k o) b none e = grind arith
    best-next n h no_choice b (some p) e = grind arith
    best-next n h (chosen k o) b (some p) e = go (j.ahead new old) (rw order (decided k n old new b.0))
      where
        old : Claim M
        old = claim tree k o

        new : Claim M
        new = claim tree n p

        go : (a : Bool) → Decided a k old n new → Best (suc n) (cond a (chosen n p) (chosen k o))
        go false g = grind arith
        go true g = (le_refl (suc n), e, λ m l ne q w. elim (ℕ_discrete m k) [ yes s ↦ grind arith | no ns ↦ others m (omega arith) ns q w ])
          where
            others : (m : ℕ) → m < n → m ≢ k → (q : Offer M) → (entry_at tree m).offer ≡ some q → GoesBefore n new m (claim tree m q)
            others m l ns q w = goes_trans new old (claim tree m q) (good n h p e) (good k (omega arith) o b.1) (good m (omega arith) q w) n k m g (b.2 m l ns q w)

    choice-best : (n : ℕ) → n ≤ length tree → Best n (choice_of j tree n)
    unfolding choice_of
    choice-best zero h = λ m l. absurd (omega arith)
    choice-best (suc n) h = best-next n h (choice_of j tree n) (choice-best n (omega arith)) (entry_at tree n).offer refl

  -- the leaf that growth takes goes before every other one that waits
  pub taken : (j : Job M) → ((c d : Claim M) → j.ahead c d ≡ larger_first M c d) → (s : State M)
      → ((k : ℕ) → k < length s.tree → (o : Offer M) → (entry_at s.tree k).offer ≡ some o → Good o.gain) → Takes j s (step j s)
  unfolding step step_to
  taken j order s good = go (choice j s.tree) (choice-best j order s.tree good (length s.tree) (le_refl (length s.tree)))
    where
      go : (c : Choice M) → Best j order s.tree good (length s.tree) c → Takes j s (step_to j s c)
      go no_choice b = none_waits b refl
      go (chosen k o) b = splits k o (record { inside = b.0; waiting = b.1; first = b.2 }) refl

-- A profile that orders waiting leaves so, by gains that are ranked where the checks pass
pub record Orderly (P : Profile) : Type 1 where
  pub Good : P.meter.Cost → Type 0
  pub ranked : Ranked P.meter Good
  pub order : (c d : Claim P.meter) → P.ahead c d ≡ larger_first P.meter c d
  pub good : (t : Settings P.meter) (logs : List P.meter.Cost) (n : ℕ)
      → T (P.price_fits t.split_cost) → t.alphabet ≤ 256 → n ≤ max_rows → n < length logs → T (P.logs_fit (take n (drop 1 logs)))
      → (depth : ℕ) (mode : ℤ) (rows : List Row) (o : Offer P.meter) → length rows ≤ n → offered t logs depth (info_of t logs mode rows).cost rows ≡ some o → Good o.gain

-- ---- document 01's learner
-- finite numbers are ranked
pub single-ranked : Ranked singles (λ (x : Float). T (finite x))
single-ranked = record {
  asym = λ x y p q h. grind (arith, lt_asym);
  behind = λ x y z p q r h k. grind (arith, at_most_trans z y x r q p);
}

-- of settings, rows and logarithms in their ranges
module _ (t : Settings singles) (logs : List Float) (uses : Bool) (n : ℕ) (small : t.alphabet ≤ 256) (few : n ≤ max_rows) (fine : LogsWithin n logs)
    (price : T (single.price_fits t.split_cost)) where
  abbrev job : Job singles
  job = job_of single t logs uses

  -- what is offered has a finite gain
  abbrev Finite : Offer singles → Type 0
  Finite o = T (finite o.gain)

  finite-offer : (depth : ℕ) (mode : ℤ) (rows : List Row) (o : Offer singles) → length rows ≤ n → job.offered depth (job.info mode rows).cost rows ≡ some o
      → Finite o
  finite-offer depth mode rows o h e = (gain-ordinary t logs n small few fine price depth mode rows o h e).is_finite

  -- each split of learning
  pub learning-takes : (rows : List Row) → length rows ≤ n → (m : ℕ) → Takes job (steps job m (root_state job rows)) (steps job (suc m) (root_state job rows))
  unfolding steps
  learning-takes rows h m =
      taken single-ranked job (λ c d. refl) (steps job m (root_state job rows)) (λ k l. learning-offers Finite n job finite-offer rows h m k)

  -- each split of deepening, whatever the seed
  pub deepening-takes : (seed : List (Record singles)) (rows : List Row) → length rows ≤ n
      → (m : ℕ) → Takes job (steps job m (seed_state job seed rows)) (steps job (suc m) (seed_state job seed rows))
  unfolding steps
  deepening-takes seed rows h m =
      taken single-ranked job (λ c d. refl) (steps job m (seed_state job seed rows)) (λ k l. deepening-offers Finite n job finite-offer seed rows h m k)

-- and the learner is orderly
pub single-orderly : Orderly single
single-orderly = record {
  Good = λ x. T (finite x);
  ranked = single-ranked;
  order = λ c d. refl;
  good = λ t logs n price small few h fits. finite-offer t logs false n small few (logs-within n logs h fits) price;
}
