-- What finishing makes of a grown tree: pruning if the price is above 0, settling if it is asked for (document 01, "Pruning"). Assumes nothing.
use Rattle.std.specs.Prelude.{ℕ, ◌+◌, ◌-◌, ◌/◌, ◌≤◌, ◌≡◌, Bool, cond, List, ◌++◌, length, replicate, Float}
use Rattle.model.specs.Meter.{Meter}
use Rattle.model.specs.Settings.{max_nodes}
use Rattle.model.specs.Single.{singles}
use Rattle.model.specs.Rows.{Row}
use Rattle.model.specs.Grow.{Entry, State, no_entry}
use Rattle.model.specs.Prune.{pruned_tree, pruned_bits}
use Rattle.model.specs.Learn.{Result}
use Rattle.model.specs.Accepting.{SingleSmall}
use Rattle.model.specs.Kept.{Invariant, Healthy, Sized}
use Rattle.refuse.specs.declared.Job.{Job}
use Rattle.layout.specs.declared.Tree.{Tree}
use Rattle.layout.specs.Tree.{NodeLists, holding, HasRoom}
use Rattle.lent.specs.declared.Finished.{Finished}
use Rattle.lent.specs.Lists.{nodes_after}
use Rattle.rows.specs.Flat.{Flat, held_in, row_count, SameSize}
use Rattle.lent.specs.Fitting.{uses_of}
use Rattle.lent.specs.Grows.{Number}
use Rattle.grow.specs.Grown.{GrownTo}

-- pruned, if the price is above 0: the tree and its bits
abbrev pub cut_tree : {M : Meter} → M.Cost → List (Entry M) → List (Entry M)
cut_tree {M} price tree = cond (M.less M.nought price) (pruned_tree {M = M} price tree) tree

abbrev pub cut_bits : {M : Meter} → M.Cost → List (Entry M) → M.Total → M.Total
cut_bits {M} price tree bits = cond (M.less M.nought price) (pruned_bits {M = M} price tree) bits

-- the tree, then the entries that it vacated
abbrev pub with_vacated : {M : Meter} → ℕ → List (Entry M) → List (Entry M)
with_vacated written tree = tree ++ replicate (written - length tree) no_entry

pub record Cut (price : Float) (tree : List (Entry singles)) (bits : Float) (lent y : NodeLists) (r : Tree) : Type 0 where
  pub lists : y ≡ holding (with_vacated (length tree) (cut_tree price tree)) lent
  pub nodes : r.nodes ≡ length (cut_tree price tree)
  pub bits_are : r.bits ≡ cut_bits price tree bits

-- The lists hold a grown state: what growth leaves, with what growth keeps
pub record Grew (job : Job) (counts : List ℕ) (x : Flat) (lists : NodeLists) (r : Tree) (lent : NodeLists) (st : State singles)
    (seeds : ℕ → Bool) (given : List Row) : Type 0 where
  pub grown : GrownTo job counts x x lists r lent st
  pub room : HasRoom (length st.tree) lent
  pub few : length st.tree ≤ max_nodes
  pub inv : Invariant (uses_of job.settings x) seeds given st
  pub healthy : Healthy SingleSmall seeds given st
  pub sized : Sized Number (row_count x) st

-- there is such a state
pub record Finishable (job : Job) (counts : List ℕ) (x : Flat) (lists : NodeLists) (r : Tree) : Type 0 where
  pub lent : NodeLists
  pub state : State singles
  pub seeds : ℕ → Bool
  pub given : List Row
  pub grew : Grew job counts x lists r lent state seeds given

-- y holds the rows, the lists the nodes and spans, and r counts and bits; there is one leaf more than splits
pub record FinishedTo (x y : Flat) (lists : NodeLists) (r : Finished) (lent : NodeLists) (made : Result singles) : Type 0 where
  pub rows : held_in y ≡ made.rows
  pub size : SameSize x y
  pub nodes : lists ≡ nodes_after made lent
  pub counted : r.nodes ≡ made.count
  pub few : r.nodes ≤ max_nodes
  pub written : r.written ≡ length made.spans
  pub leaves : (r.nodes + 1) / 2 ≡ made.leaves
  pub summed : r.bits ≡ made.bits
  pub flat : r.flat ≡ made.flat
