-- One node of a seed planted: a state of the model that the lists held gains the node. Assumes nothing.
use mathlib.Core.Path.{◌≡◌, refl, sym, ap, ◌∙◌, subst}
use mathlib.Core.Bool.{Bool, true, false, ◌||◌}
use mathlib.Core.List.{List, [], ◌∷◌, ◌++◌, append-nil}
use mathlib.Core.Option.{Option, none}
use Prim.Native.Nat.{ℕ, ◌+◌}
use native.Mathlib.Nat.{zero-add, add-zero}
use native.Mathlib.Omega.{arith}
use borrow.Author.Tests.{eqb-true, eqb-false}
use Rattle.std.proofs.lemmas.List.{nil_from_length}
use lib.ListN.{length, get_or, take, drop, length-append}
use lib.Seq.{take-append-add, drop-append-add, take-append_seam, drop-append_seam}
use lib.Dec.{eqb}
use lib.Ieee.{binary64, add}
use Rattle.model.specs.Meter.{Meter}
use Rattle.model.specs.Single.{singles}
use Rattle.model.specs.Rows.{Row, Span, within}
use Rattle.model.specs.Mode.{span_mode, fresh}
use Rattle.model.specs.Evaluate.{info_of, offered}
use Rattle.model.specs.Profile.{single, job_of}
use Rattle.model.specs.Tree.{Node, split, leaf, Info}
use Rattle.model.specs.Job as model
use Rattle.model.specs.Grow.{Entry, State, leaf_over}
use Rattle.model.specs.Deepen.{seed_split, empty_leaf, rowless, seed_leaf, with_seed_node}
use Rattle.model.proofs.Fresh.{fresh-none}
use Rattle.model.proofs.Tests.{neither}
use Rattle.refuse.specs.Given.{settings_of}
use Rattle.refuse.specs.declared.Job.{Job}
use Rattle.layout.specs.Values.{info_is, offer_is}
use Rattle.layout.specs.Records.{no_record, node_at}
use Rattle.layout.specs.declared.Tree.{Tree}
use Rattle.layout.specs.Tree.{NodeLists, HasRoom, put, leaf_with, info_at, depth_at}
use Rattle.layout.specs.Waiting.{Queued, queue_of, waits, waiting_from}
use Rattle.queue.specs.declared.Queue.{Queue}
use Rattle.queue.specs.Lent.{queue_in}
use Rattle.layout.proofs.Held.{same-cells, put_same, put-more}
use Rattle.layout.proofs.Queue.{same-itself, waiting_append, few-waits}
use Rattle.rows.specs.Cells.{span}
use Rattle.rows.specs.Flat.{Flat, held_in}
use Rattle.rows.proofs.Shapes.{size_same}
use Rattle.lent.specs.Lists.{work}
use Rattle.lent.specs.Fitting.{uses_of, Fitting}
use Rattle.leaf.specs.Made.{settled_at}
use Rattle.seed_leaves.specs.Sown.{span_at, Sown, LeafPlanted, NextIs, NodePlanted}
use Rattle.leaf.proofs.Making.{uses_still, made-fitting}

-- ---- the rows in the middle
module _ (a b c : List Row) where
  middle : (sp : Span) → sp.first ≡ length a → sp.end ≡ length a + length b → within sp (a ++ (b ++ c)) ≡ b
  middle sp f e =
      rw (f, e, take-append-add a (b ++ c) (length b), take-append_seam b c) (drop-append_seam a b)

  settled-middle : (uses : Bool) (sp : Span) → sp.first ≡ length a → sp.end ≡ length a + length b → settled_at uses sp (a ++ (b ++ c))
      ≡ (a ++ fresh uses b) ++ c
  settled-middle uses sp f e =
      ap (λ (l : List Row). (take sp.first (a ++ (b ++ c)) ++ fresh uses l) ++ drop sp.end (a ++ (b ++ c))) (middle sp f e)
      ∙ rw (f, e, take-append_seam a (b ++ c), drop-append-add a (b ++ c) (length b), drop-append_seam b c)

-- ---- the queue gains what the entry offers
queue-more : {M : Meter} (tree : List (Entry M)) (e : Entry M) → queue_of (tree ++ (e ∷ [])) ≡ queue_of tree ++ waits (length tree) e.depth e.offer
unfolding waiting_from
queue-more tree e =
    waiting_append 0 tree (e ∷ []) ∙ rw (zero-add, append-nil (waits (length tree) e.depth e.offer))

queue_still : {M : Meter} (tree : List (Entry M)) (e : Entry M) → e.offer ≡ none → queue_of (tree ++ (e ∷ [])) ≡ queue_of tree
queue_still tree e o = queue-more tree e ∙ rw o (append-nil (queue_of tree))

either : (a b : Bool) → (a || b) ≡ true → (a ≡ false → b ≡ true)
either true b e f = absurd (let z : ◌≡◌ {A = ℕ} 0 1 = cc in omega arith)
either false b e f = e

-- ---- the count of one node more
counted-more : {E : Type 0} {k m : ℕ} (tree : List E) (e : E) → k ≡ length tree → m ≡ k + 1 → m ≡ length (tree ++ (e ∷ []))
counted-more tree e here more = more ∙ ap (λ (n : ℕ). n + 1) here ∙ sym (length-append tree (e ∷ []))

-- ---- a split, or a leaf without rows: none of its leaves waits, and it costs nothing
abbrev with_node : Tree → Tree
with_node tree = record { nodes = tree.nodes + 1; bits = tree.bits }

module _ {job : Job} {counts : List ℕ} {x : Flat} {n n' : NodeLists} {q : Queue} {tree : Tree} {scored uses : Bool}
    {lent : NodeLists} {st : State singles} {left : List Row}
    (sown : Sown job (work counts x n q) tree scored uses lent st left) (depth : ℕ) (info : Info singles) (room : HasRoom (length st.tree + 1) lent) where
  kept_in : (m : Node) → n' ≡ put (length st.tree) (rowless m info depth) n
      → Sown job (work counts x n' q) (with_node tree) scored uses lent (with_seed_node (job_of single (settings_of job.settings) job.logs.now uses) m info depth [] st) left
  kept_in (split prop val gt le) e =
      let entry : Entry singles = seed_split (split prop val gt le) depth in
      record {
        fitting = sown.fitting;
        modes = sown.modes;
        rows = sown.rows;
        nodes = e ∙ ap (put (length st.tree) entry) sown.nodes ∙ put-more st.tree lent entry room;
        queued = λ t. subst (Queued q.waiting (queue_in q)) (sym (queue_still st.tree entry refl)) (sown.queued t);
        idle = sown.idle;
        counted = counted-more st.tree entry sown.counted refl;
        summed = sown.summed;
      }
  kept_in leaf e =
      let entry : Entry singles = empty_leaf info depth in
      record {
        fitting = sown.fitting;
        modes = sown.modes;
        rows = sown.rows ∙ ap (λ (l : List Row). l ++ left) (sym (ap (λ (l : List Row). st.rows ++ l) (fresh-none uses) ∙ append-nil st.rows));
        nodes = e ∙ ap (put (length st.tree) entry) sown.nodes ∙ put-more st.tree lent entry room;
        queued = λ t. subst (Queued q.waiting (queue_in q)) (sym (queue_still st.tree entry refl)) (sown.queued t);
        idle = sown.idle;
        counted = counted-more st.tree entry sown.counted refl;
        summed = sown.summed;
      }

pub kept-planted : {job : Job} {counts : List ℕ} {x : Flat} {n n' : NodeLists} {q : Queue} {tree : Tree} {scored : Bool}
    → (eqb (get_or n.nodes tree.nodes no_record).kind 1 || eqb (span_at n.spans tree.nodes).first (span_at n.spans tree.nodes).end) ≡ true
    → n' ≡ put tree.nodes (rowless (node_at n.nodes tree.nodes) (info_at n tree.nodes) (depth_at n tree.nodes)) n
    → NodePlanted job (work counts x n q) (work counts x n' q) tree (with_node tree) scored
kept-planted {job} {counts} {x} {n} {n'} {q} {tree} {scored} test is =
    record { size = size_same x; queue = same-itself (queue_in q); zeros = refl; counted = refl; risen = omega arith; sown = gains }
  where
    gains : (uses : Bool) (lent : NodeLists) (st : State singles) (mine left : List Row) → Sown job (work counts x n q) tree scored uses lent st (mine ++ left)
        → NextIs n tree.nodes lent st mine
        → Sown job (work counts x n' q) (with_node tree) scored uses lent (with_seed_node (job_of single (settings_of job.settings) job.logs.now uses) (node_at n.nodes tree.nodes)
        (info_at n tree.nodes) (depth_at n tree.nodes) mine st) left
    gains uses lent st mine left w next =
        let m : Node = node_at n.nodes tree.nodes in
        let empty : mine ≡ [] = go (eqb (get_or n.nodes tree.nodes no_record).kind 1) refl in
        let here : length st.tree ≡ tree.nodes = sym w.counted in
        let w' : Sown job (work counts x n q) tree scored uses lent st left = subst
        (λ (l : List Row). Sown job (work counts x n q) tree scored uses lent st (l ++ left)) empty w in
        let room : HasRoom (length st.tree + 1) lent = subst (λ (k : ℕ). HasRoom (k + 1) lent) (sym here) next.room in
        let depth : ℕ = depth_at n tree.nodes in
        let is' : n' ≡ put (length st.tree) (rowless m (info_at n tree.nodes) depth) n = is ∙ ap (λ (k : ℕ). put k (rowless m (info_at n tree.nodes) depth) n) (sym here) in
        subst (λ (l : List Row). Sown job (work counts x n' q) (with_node tree) scored uses lent
        (with_seed_node (job_of single (settings_of job.settings) job.logs.now uses) m (info_at n tree.nodes) depth l st) left) (sym empty)
        (kept_in w' depth (info_at n tree.nodes) room m is')
      where
        go : (b : Bool) → eqb (get_or n.nodes tree.nodes no_record).kind 1 ≡ b → mine ≡ []
        go true e = next.bare e
        go false e =
            let f = eqb-true (span_at n.spans tree.nodes).first (span_at n.spans tree.nodes).end
            (either (eqb (get_or n.nodes tree.nodes no_record).kind 1) (eqb (span_at n.spans tree.nodes).first (span_at n.spans tree.nodes).end) test e) in
            nil_from_length mine (omega (arith, next.first, next.end, f))

-- ---- a leaf with rows
module _ {job : Job} {counts counts' : List ℕ} {x y : Flat} {n n' : NodeLists} {q q' : Queue} {tree tree' : Tree}
    {sp : Span} {depth : ℕ} {scored : Bool}
    (p : LeafPlanted job (work counts x n q) (work counts' y n' q') tree tree' sp depth scored) where
  abbrev i : ℕ
  i = tree.nodes

  leaf_in_lem : {uses : Bool} {lent : NodeLists} {st : State singles} (mine left : List Row) (info : Info singles)
      → Sown job (work counts x n q) tree scored uses lent st (mine ++ left)
      → sp.first ≡ length st.rows → sp.end ≡ length st.rows + length mine → HasRoom (i + 1) lent → (sp.first ≡ sp.end → ⊥)
      → Sown job (work counts' y n' q') tree' scored uses lent (with_seed_node (job_of single (settings_of job.settings) job.logs.now uses) leaf info depth mine st) left
  unfolding leaf_over
  leaf_in_lem [] left info w f e room busy = absurd (busy (omega arith))
  leaf_in_lem {uses} {lent} {st} (r ∷ rs) left info w f e room busy =
      record {
        fitting = subst (λ (c : List ℕ). Fitting job c y) (sym p.zeros) (made-fitting w.fitting p.made);
        modes = sym (uses_still job.settings p.made.changed.size) ∙ w.modes;
        rows = p.made.changed.rows ∙ ap (λ (b : Bool). settled_at b sp (held_in x)) w.modes ∙ ap (settled_at uses sp) w.rows
            ∙ settled-middle st.rows mine left uses sp f e;
        nodes = p.nodes ∙ ap (λ (k : ℕ). put k (leaf_with p.leaf.info sp.first sp.end depth) n) (sym here)
            ∙ put_same (length st.tree) (leaf_with p.leaf.info sp.first sp.end depth) entry n
            (same-cells (leaf_with p.leaf.info sp.first sp.end depth) entry refl info-is span-is refl)
            ∙ ap (put (length st.tree) entry) w.nodes ∙ put-more st.tree lent entry (subst (λ (k : ℕ). HasRoom (k + 1) lent) (sym here) room);
        queued = λ t.
            subst (Queued q'.waiting (queue_in q')) (sym (queue-more st.tree entry ∙ ap (λ (k : ℕ). queue_of st.tree ++ waits k depth entry.offer) here
            ∙ ap (λ (o : Option (model.Offer singles)). queue_of st.tree ++ waits i depth o) (sym (offer-is t))))
            (p.queued (queue_of st.tree) (w.queued t));
        counted = counted-more st.tree entry w.counted p.counted;
        idle = λ t. p.many ∙ ap (λ (o : Option (model.Offer singles)). q.waiting + length (waits i depth o)) (no_offer t) ∙ add-zero q.waiting
            ∙ w.idle t;
        summed = p.summed ∙ (λ k. add binary64 (w.summed k) (info-is k).cost);
      }
    where
      here : length st.tree ≡ i
      here = sym w.counted

      mine : List Row
      mine = r ∷ rs

      entry : Entry singles
      entry = seed_leaf (job_of single (settings_of job.settings) job.logs.now uses) info depth (length st.rows) mine

      mine-is : within sp (held_in x) ≡ mine
      mine-is = ap (within sp) w.rows ∙ middle st.rows mine left sp f e

      mode-is : span_mode (uses_of job.settings x) (within sp (held_in x)) ≡ span_mode uses mine
      mode-is = λ k. span_mode (w.modes k) (mine-is k)

      rows_are : fresh (uses_of job.settings x) (within sp (held_in x)) ≡ fresh uses mine
      rows_are = λ k. fresh (w.modes k) (mine-is k)

      info-is : info_is p.leaf.info ≡ entry.info
      info-is = p.made.leaf.info ∙ (λ k. info_of (settings_of job.settings) job.logs.now (mode-is k) (rows_are k))

      span-is : sp ≡ entry.span
      span-is = λ k. span (f k) (e k)

      offer-is : scored ≡ true → offer_is p.leaf.offer ≡ entry.offer
      offer-is t =
          p.made.leaf.offer ∙ rw t (λ k. offered (settings_of job.settings) job.logs.now depth (info_of (settings_of job.settings) job.logs.now (mode-is k) (rows_are k)).cost (rows_are k))

      no_offer : scored ≡ false → offer_is p.leaf.offer ≡ none
      no_offer t = p.made.leaf.offer ∙ rw t

  pub leaf-planted : (eqb (get_or n.nodes i no_record).kind 1 || eqb sp.first sp.end) ≡ false → sp ≡ span_at n.spans i → depth ≡ depth_at n i
      → NodePlanted job (work counts x n q) (work counts' y n' q') tree tree' scored
  leaf-planted test is deep =
      let t = (neither (eqb (get_or n.nodes i no_record).kind 1) (eqb sp.first sp.end)).0 test in
      record {
        size = p.made.changed.size;
        queue = p.queue;
        zeros = p.zeros;
        counted = p.counted;
        risen = rw t.0 (omega (arith, p.many, few-waits i depth (offer_is p.leaf.offer)));
        sown = λ uses lent st mine left w next.
            rw (t.0, ← deep) (leaf_in_lem mine left (info_at n i) w (ap (λ (s : Span). s.first) is ∙ next.first) (ap (λ (s : Span). s.end) is ∙ next.end) next.room (eqb-false sp.first sp.end t.1));
      }
