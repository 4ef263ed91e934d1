-- Pruning and settling on the lists are the model's. Assumes nothing.
use mathlib.Core.Path.{◌≡◌, refl, sym, ap, ◌∙◌, subst}
use mathlib.Core.Bool.{Bool, true, false, ◌&&◌, true≢false, cond}
use mathlib.Core.List.{List, [], ◌∷◌, ◌++◌, map, append-nil}
use Prim.Native.Nat.{ℕ, ◌+◌, ◌-◌, ◌*◌, ◌/◌, ◌^◌, ◌≤◌, ◌<◌}
use native.Mathlib.Omega.{arith}
use lib.ListN.{length, get_or, replicate, length-map, length-append, length-replicate, get_or-replicate}
use lib.Ieee.{Float}
use Rattle.ieee.specs.Within.{within_not_nan}
use Rattle.model.specs.Meter.{Meter}
use Rattle.model.specs.Settings.{max_nodes}
use Rattle.model.specs.Single.{singles}
use Rattle.model.specs.Rows.{Row}
use Rattle.model.specs.Tree.{Node, nodes_of}
use Rattle.model.specs.Job as model
use Rattle.model.specs.Job.{prunes}
use Rattle.model.specs.Grow.{Entry, State, no_entry, record_of, tree_nodes, steps}
use Rattle.model.specs.Profile.{job_of, single}
use Rattle.model.specs.Prune.{pruned_tree, pruned_bits}
use Rattle.model.specs.Settle.{settled}
use Rattle.model.specs.Learn.{Result, leaf_count, result_of, pruned, settled_state, finished}
use Rattle.model.specs.Accepting.{SingleSmall, JobFits}
use Rattle.model.specs.Kept.{Invariant, Healthy, Fine, Sized}
use Rattle.model.proofs.Bounded.{price-within}
use Rattle.model.proofs.Each.{each_get_d}
use Rattle.model.proofs.Finished.{Done, pruned_done}
use Rattle.model.proofs.Growing.{steps-sized}
use Rattle.model.proofs.Health.{steps-healthy}
use Rattle.model.proofs.Steps.{steps-keep}
use Rattle.model.proofs.SingleLawful.{single-lawful}
use Rattle.model.proofs.Sound.{Rooted}
use Rattle.model.proofs.Tally.{tree-count}
use Rattle.refuse.specs.Given.{settings_of}
use Rattle.refuse.specs.declared.Job.{Job}
use Rattle.layout.specs.declared.Tree.{Tree}
use Rattle.layout.specs.Records.{no_span_record, kind_at}
use Rattle.layout.specs.Tree.{NodeLists, HasRoom, holding}
use Rattle.lent.specs.declared.Finished.{Finished}
use Rattle.std.proofs.lemmas.Simd.{map-map}
use Rattle.lent.specs.Lists.{work, node_written, span_written, nodes_after}
use Rattle.queue.specs.Room.{cleared}
use Rattle.queue.specs.declared.Queue.{Queue}
use Rattle.mode.specs.Lent.{Clear}
use Rattle.prune.specs.Held.{HoldsTree, PrunedAs}
use Rattle.prune.proofs.Front.{front-held, front-room}
use Rattle.settle.specs.Leaves.{HoldsLeaves}
use Rattle.settle.proofs.Settling.{unsettled}
use Rattle.rows.specs.Flat.{Flat, held_in, row_count, SameSize, Changed}
use Rattle.rows.proofs.Cells.{length-held}
use Rattle.rows.proofs.Shapes.{size_same, size-then, count_still}
use Rattle.layout.specs.Waiting.{QueueListsOf, SameQueue}
use Rattle.layout.proofs.Held.{holding-room, room-fewer}
use Rattle.lent.specs.Fitting.{uses_of, Fitting}
use Rattle.lent.specs.Grows.{job_in, Number, Grows}
use Rattle.grow.specs.Grown.{GrownTo}
use Rattle.finish.specs.Finished.{cut_tree, cut_bits, with_vacated, Cut, Grew, FinishedTo}
use Rattle.lent.proofs.Numbers.{nought-number, evaluated_number, job-fits}
use Rattle.leaf.proofs.Making.{residuals-given, uses_still}

-- ---- pruning, or not

-- a price above 0 prunes
pub cut-pruned : {price : Float} {tree : List (Entry singles)} {bits : Float} {lent x y : NodeLists} {pruned r : Tree} → singles.less singles.nought price ≡ true
    → PrunedAs price tree lent x pruned → y ≡ x → r ≡ pruned → Cut price tree bits lent y r
cut-pruned above p same is = record {
  lists = rw above (same ∙ p.lists);
  nodes = rw above (ap (λ (t : Tree). t.nodes) is ∙ p.nodes);
  bits_are = rw above (ap (λ (t : Tree). t.bits) is ∙ p.bits);
}

-- and no other: nothing is vacated
cut-kept-lists : (tree : List (Entry singles)) (lent : NodeLists) → holding tree lent ≡ holding (with_vacated (length tree) tree) lent
cut-kept-lists tree lent =
    let none : length tree - length tree ≡ 0 = omega arith in
    ap (λ (es : List (Entry singles)). holding es lent) (sym (append-nil tree) ∙ ap (λ (k : ℕ). tree ++ replicate k (no_entry {M = singles})) (sym none))

pub cut-kept : {price : Float} {tree : List (Entry singles)} {lent x y : NodeLists} {grown r : Tree} → singles.less singles.nought price ≡ false
    → HoldsTree x grown.nodes price tree lent → y ≡ x → r ≡ grown → Cut price tree grown.bits lent y r
cut-kept {tree = tree} {lent = lent} above h same is = record {
  lists = rw above (same ∙ h.lists ∙ cut-kept-lists tree lent);
  nodes = rw above (ap (λ (t : Tree). t.nodes) is ∙ h.many);
  bits_are = rw above (ap (λ (t : Tree). t.bits) is);
}

-- ---- the lists of a result

after-holding : (f : State singles) (written : ℕ) (flatly : Float) (lent : NodeLists) → nodes_after (result_of f written flatly) lent ≡ holding (with_vacated written f.tree) lent
unfolding nodes_after result_of holding
after-holding f written flatly lent =
    let es = with_vacated written f.tree in
    rw (map-map node_written record_of es, map-map span_written (λ (e : Entry singles). e.span) es)

-- ---- a state pruned and settled, field by field

module _ {M : Meter} (j : model.Job M) (st : State M) where
  -- what pruning makes of it
  abbrev cut : State M
  cut = record { rows = st.rows; tree = pruned_tree j.price st.tree; bits = pruned_bits j.price st.tree }

  pruned-tree : (pruned j st).tree ≡ cut_tree j.price st.tree
  unfolding pruned
  pruned-tree = go (prunes j) where
    go : (b : Bool) → (cond b cut st).tree ≡ cond b cut.tree st.tree
    go true = refl
    go false = refl

  pruned-rows : (pruned j st).rows ≡ st.rows
  unfolding pruned
  pruned-rows = go (prunes j) where
    go : (b : Bool) → (cond b cut st).rows ≡ st.rows
    go true = refl
    go false = refl

  pruned-bits : (pruned j st).bits ≡ cut_bits j.price st.tree st.bits
  unfolding pruned
  pruned-bits = go (prunes j) where
    go : (b : Bool) → (cond b cut st).bits ≡ cond b cut.bits st.bits
    go true = refl
    go false = refl

  -- and settling
  abbrev done : State M
  done = record { rows = settled j.uses st.tree st.rows; tree = st.tree; bits = st.bits }

  settled-tree : (settled_state j st).tree ≡ st.tree
  unfolding settled_state
  settled-tree = go j.settling where
    go : (b : Bool) → (cond b done st).tree ≡ st.tree
    go true = refl
    go false = refl

  settled-bits : (settled_state j st).bits ≡ st.bits
  unfolding settled_state
  settled-bits = go j.settling where
    go : (b : Bool) → (cond b done st).bits ≡ st.bits
    go true = refl
    go false = refl

  settled-rows : (settled_state j st).rows ≡ cond j.settling (settled j.uses st.tree st.rows) st.rows
  unfolding settled_state
  settled-rows = go j.settling where
    go : (b : Bool) → (cond b done st).rows ≡ cond b done.rows st.rows
    go true = refl
    go false = refl

-- a split has two children: one leaf more than splits
leaves_are : {M : Meter} (es : List (Entry M)) → Rooted (nodes_of (map record_of es)) → 0 < length es → length es + 1 ≡ 2 * leaf_count (tree_nodes es)
leaves_are {M} es rooted some =
    let long = length-map es (λ (e : Entry M). e.node) in
    let c = tree-count (tree_nodes es) (subst Rooted (nodes_are es) rooted) (omega arith) in
    omega arith
  where
    nodes_are : (es : List (Entry M)) → nodes_of (map record_of es) ≡ tree_nodes es
    nodes_are [] = refl
    nodes_are (e ∷ es) = ap (λ (l : List Node). e.node ∷ l) (nodes_are es)

-- ---- lists that hold a grown state

module _ {job : Job} {counts : List ℕ} {x : Flat} {n : NodeLists} {r : Tree} {lent : NodeLists} {st : State singles} {seeds : ℕ → Bool} {given : List Row}
    (g : Grew job counts x n r lent st seeds given) where
  abbrev j : model.Job singles
  j = job_in job x

  abbrev price : Float
  price = job.settings.prune_leaf_bits

  abbrev tree : List (Entry singles)
  tree = st.tree

  abbrev new : List (Entry singles)
  new = cut_tree price tree

  fitting : Fitting job counts x
  fitting = g.grown.fitting

  some-nodes : 0 < length tree
  some-nodes = g.inv.rooted

  pub grew-holds : HoldsTree n r.nodes price tree lent
  grew-holds = record {
    lists = g.grown.nodes;
    room = g.room;
    many = g.grown.counted;
    some = omega (arith, g.grown.counted, some-nodes);
    few = omega (arith, g.grown.counted, g.few);
    family = g.inv.family;
    numbers = λ i h. (each_get_d (Fine Number) tree i no_entry (omega arith, nought-number) g.sized.entries).1;
    price_number = within_not_nan price (2 ^ 20) (price-within price fitting.settings.price);
  }

  pub clear-counts : Clear counts
  clear-counts = record {
    long = omega (arith, fitting.room);
    zeros = λ i h. ap (λ (l : List ℕ). get_or l i 0) fitting.zeros ∙ get_or-replicate (length counts) i 0 0 (omega (arith, fitting.room));
  }

  -- the pruned tree is in order
  cut_done : Done (uses_of job.settings x) given (length tree) (pruned j st)
  cut_done = pruned_done single-lawful.bounds j seeds given st g.inv g.healthy g.few (job-fits fitting (uses_of job.settings x)).price_small

  -- ---- settling: the leaves of what is left

  held-count : length st.rows ≡ row_count x
  held-count = ap length (sym g.grown.rows) ∙ length-held x.props x.toks x.res

  module _ {m : NodeLists} {kept : Tree} (k : Cut price tree r.bits lent m kept) where
    -- what the lists hold behind the tree
    abbrev pub behind : NodeLists
    behind = holding (with_vacated (length tree) new) lent

    cut-inside : (i : ℕ) → i < length new → ((get_or new i no_entry).span.first ≤ (get_or new i no_entry).span.end) × ((get_or new i no_entry).span.end ≤ row_count x)
    cut-inside i h =
        let b = subst (λ (es : List (Entry singles)). (a : ℕ) → a < length es → ((get_or es a no_entry).span.first ≤ (get_or es a no_entry).span.end) × ((get_or es a no_entry).span.end ≤ length (pruned j st).rows)) (pruned-tree j st) cut_done.placed.bounds i h in
        (b.0, omega (arith, b.1, ap length (pruned-rows j st), held-count))

    pub cut-leaves : uses_of job.settings x ≡ true → HoldsLeaves m kept.nodes x new behind
    cut-leaves uses =
        let here = k.lists ∙ front-held new (replicate (length tree - length new) no_entry) lent in
        record {
          kinds = λ i h. ap (λ (l : NodeLists). kind_at l.nodes i) here;
          spans = λ i h. ap (λ (l : NodeLists). get_or l.spans i no_span_record) here;
          room = front-room new (replicate (length tree - length new) no_entry) lent;
          many = k.nodes;
          shaped = fitting.shaped;
          few = fitting.few;
          given = residuals-given job.settings.modal_offsets x.res uses;
          inside = λ i h lf. cut-inside i h;
        }

    -- what is done to the rows: the leaves are settled if that is asked for and modes are in use, and else nothing changes
    pub settled-lists : {y : Flat} → job.settings.settle ≡ true → uses_of job.settings x ≡ true → Changed (settled true new) x y
        → Changed (λ (rows : List Row). cond job.settings.settle (settled (uses_of job.settings x) new rows) rows) x y
    settled-lists asked uses changed = rw (asked, uses) changed

    pub left-alone : (job.settings.settle && uses_of job.settings x) ≡ false
        → Changed (λ (rows : List Row). cond job.settings.settle (settled (uses_of job.settings x) new rows) rows) x x
    left-alone = go job.settings.settle (uses_of job.settings x)
      where
        go : (asked uses : Bool) → (asked && uses) ≡ false → Changed (λ (rows : List Row). cond asked (settled uses new rows) rows) x x
        go false uses e = record { rows = refl; size = size_same x }
        go true true e = absurd (true≢false e)
        go true false e = record { rows = sym (unsettled new (held_in x) (λ k h lf. (cut-inside k h).0)); size = size_same x }

    -- and there is room for it
    pub kept-room : HasRoom kept.nodes m
    kept-room =
        let fewer : kept.nodes ≤ length tree = omega (arith, k.nodes, ap length (pruned-tree j st), cut_done.shorter) in
        rw k.lists (holding-room (with_vacated (length tree) new) lent (room-fewer g.room fewer))

    few-kept : kept.nodes ≤ max_nodes
    few-kept = omega (arith, k.nodes, ap length (pruned-tree j st), cut_done.shorter, g.few)

    -- ---- the result
    done-tree : (settled_state j (pruned j st)).tree ≡ new
    done-tree = settled-tree j (pruned j st) ∙ pruned-tree j st

    done-bits : (settled_state j (pruned j st)).bits ≡ cut_bits price tree st.bits
    done-bits = settled-bits j (pruned j st) ∙ pruned-bits j st

    done-rows : (settled_state j (pruned j st)).rows ≡ cond job.settings.settle (settled (uses_of job.settings x) new (held_in x)) (held_in x)
    done-rows =
        settled-rows j (pruned j st) ∙ ap (λ (es : List (Entry singles)). cond job.settings.settle (settled (uses_of job.settings x) es (pruned j st).rows) (pruned j st).rows) (pruned-tree j st)
        ∙ ap (λ (l : List Row). cond job.settings.settle (settled (uses_of job.settings x) new l) l) (pruned-rows j st ∙ sym g.grown.rows)

    new-leaves : length new + 1 ≡ 2 * leaf_count (tree_nodes new)
    new-leaves =
        subst (λ (es : List (Entry singles)). length es + 1 ≡ 2 * leaf_count (tree_nodes es)) (pruned-tree j st) (leaves_are (pruned j st).tree cut_done.sound.rooted cut_done.rooted)

    -- as many entries were written as had grown
    all-written : length (map (λ (e : Entry singles). e.span) (with_vacated (length tree) (settled_state j (pruned j st)).tree)) ≡ r.nodes
    all-written =
        let es = (settled_state j (pruned j st)).tree in
        let long = length-map (with_vacated (length tree) es) (λ (e : Entry singles). e.span) in
        let both = length-append es (replicate (length tree - length es) no_entry) in
        let rest = length-replicate (length tree - length es) (no_entry {M = singles}) in
        let shorter : length es ≤ length tree = omega (arith, ap length (settled-tree j (pruned j st)), cut_done.shorter) in
        let grown = g.grown.counted in
        omega arith

    pub finished-lists : {y : Flat} {f : Finished} (flatly : Float) → Changed (λ (rows : List Row). cond job.settings.settle (settled (uses_of job.settings x) new rows) rows) x y
        → f.nodes ≡ kept.nodes → f.written ≡ r.nodes → f.bits ≡ kept.bits → f.flat ≡ flatly → FinishedTo x y m f lent (finished j st flatly)
    unfolding finished result_of
    finished-lists {f = f} flatly changed nodes written bits same =
        let count = k.nodes in
        let two = new-leaves in
        let many : leaf_count (tree_nodes (settled_state j (pruned j st)).tree) ≡ leaf_count (tree_nodes new) = ap (λ (es : List (Entry singles)). leaf_count (tree_nodes es)) done-tree in
        let half : (f.nodes + 1) / 2 ≡ leaf_count (tree_nodes new) = omega arith in
        record {
          rows = changed.rows ∙ sym done-rows;
          size = changed.size;
          nodes = k.lists ∙ ap (λ (es : List (Entry singles)). holding (with_vacated (length tree) es) lent) (sym done-tree) ∙ sym (after-holding (settled_state j (pruned j st)) (length tree) flatly lent);
          counted = nodes ∙ k.nodes ∙ ap length (sym done-tree);
          few = omega (arith, few-kept);
          written = written ∙ sym all-written;
          leaves = half ∙ sym many;
          summed = bits ∙ k.bits_are ∙ ap (cut_bits price tree) g.grown.summed ∙ sym done-bits;
          flat = same;
        }

-- ---- after growth

-- what was finished from rows of as many entries
pub finished_from : {x x' y : Flat} {n lent : NodeLists} {r : Finished} {made : Result singles} → SameSize x x' → FinishedTo x' y n r lent made → FinishedTo x y n r lent made
finished_from size f = record {
  rows = f.rows;
  size = size-then size f.size;
  nodes = f.nodes;
  counted = f.counted;
  few = f.few;
  written = f.written;
  leaves = f.leaves;
  summed = f.summed;
  flat = f.flat;
}

-- flat bits by another name
pub flat-is : {x y : Flat} {n lent : NodeLists} {r : Finished} (j : model.Job singles) (st : State singles) {a b : Float} → a ≡ b
    → FinishedTo x y n r lent (finished j st a) → FinishedTo x y n r lent (finished j st b)
flat-is {x} {y} {n} {lent} {r} j st e f = subst (λ (v : Float). FinishedTo x y n r lent (finished j st v)) e f

module _ {job : Job} {counts : List ℕ} {x : Flat} {n : NodeLists} {q : Queue} {tree : Tree} {more : ℕ} {lent : NodeLists} {st : State singles}
    {seeds : ℕ → Bool} {given : List Row} (g : Grows job (work counts x n q) tree more lent st seeds given) where
  -- the state that has grown
  abbrev pub grown_state : State singles
  grown_state = steps (job_in job x) more st

  given-many : length given ≡ row_count x
  given-many = sym g.healthy.counted ∙ ap length (sym g.rows) ∙ length-held x.props x.toks x.res

  grown-healthy : Healthy SingleSmall seeds given grown_state × (length grown_state.tree ≤ length st.tree + 2 * more)
  grown-healthy = steps-healthy single-lawful.bounds (job_in job x) given (subst (JobFits SingleSmall (job_in job x)) (sym given-many) (job-fits g.fitting (uses_of job.settings x))) seeds more st g.inv g.healthy

  module _ {y : Flat} {m : NodeLists} {r : Tree} (to : GrownTo job counts x y m r lent grown_state) (counts' : List ℕ) (same : counts' ≡ counts) where
    pub grew_so : Grew job counts' y m r lent grown_state seeds given
    grew_so = record {
      grown = record {
        rows = to.rows;
        size = size_same y;
        nodes = to.nodes;
        counted = to.counted;
        summed = to.summed;
        fitting = subst (λ (c : List ℕ). Fitting job c y) (sym same) to.fitting;
      };
      room = room-fewer g.room grown-healthy.1;
      few = omega (arith, grown-healthy.1, g.few);
      inv = subst (λ (u : Bool). Invariant u seeds given grown_state) (uses_still job.settings to.size) (steps-keep (job_in job x) seeds given more st g.inv);
      healthy = grown-healthy.0;
      sized = subst (λ (k : ℕ). Sized Number k grown_state) (sym (count_still to.size)) (steps-sized Number (row_count x) (job_in job x) nought-number (evaluated_number g.fitting) more st g.sized);
    }

    -- what is finished from there
    pub finished_so : {z : Flat} {l : NodeLists} {f : Finished} (flatly : Float) → FinishedTo y z l f lent (finished (job_in job y) grown_state flatly) → FinishedTo x z l f lent (finished (job_in job x) grown_state flatly)
    finished_so {z} {l} {f} flatly e =
        finished_from to.size (subst (λ (u : Bool). FinishedTo y z l f lent (finished (job_of single (settings_of job.settings) job.logs.now u) grown_state flatly)) (sym (uses_still job.settings to.size)) e)

-- lists as long as these are cleared to the same ones
pub clear-same : {M : Meter} {q p : QueueListsOf M} → SameQueue q p → cleared p ≡ cleared q
clear-same s = rw (s.words, s.values, s.gains)
