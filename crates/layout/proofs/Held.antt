-- Lists that hold a tree: their lengths, one entry more, one made a split, one read. Assumes nothing.
use mathlib.Core.Path.{◌≡◌, refl, sym, ap, ◌∙◌}
use mathlib.Core.List.{List, [], ◌∷◌, ◌++◌, map}
use Prim.Native.Nat.{ℕ, suc, ◌+◌, ◌≤◌, ◌<◌}
use native.Mathlib.Nat.{le_trans}
use native.Mathlib.Numerals.{add-one}
use native.Mathlib.Omega.{arith}
use lib.ListN.{length, get_or, set, drop, length-append, length-drop, length-set}
use lib.Seq.{map-set_same}
use Rattle.std.proofs.lemmas.List.{length-map, map-set, get_or-map, set-append_left}
use Rattle.model.specs.Lists.{written_over}
use Rattle.model.specs.Single.{singles}
use Rattle.model.specs.Job.{Offer}
use Rattle.model.specs.Tree.{Node, split, leaf, Info}
use Rattle.model.specs.Lent.{stored_node}
use Rattle.model.specs.Grow.{Entry, no_entry, become_split}
use Rattle.model.proofs.Written.{length-written, get_d_written}
use Rattle.layout.specs.Records.{info_of, no_record, no_span_record}
use Rattle.layout.specs.Tree.{NodeLists, holding, HasRoom, node_lists, put, put_split, split_record, entry_record, entry_span}
use Rattle.layout.specs.declared.MaNode.{MaNode}

-- ---- a list that holds f of each entry
module _ {E A : Type 0} (f : E → A) where
  written_one : (new lent : List A) (v : A) → length new < length lent → set (written_over new lent) (length new) v ≡ written_over (new ++ (v ∷ [])) lent
  written_one [] [] v h = absurd (omega arith)
  written_one [] (a ∷ lent) v h = refl
  written_one (n ∷ new) [] v h = absurd (omega arith)
  written_one (n ∷ new) (a ∷ lent) v h = ap (λ (l : List A). n ∷ l) (written_one new lent v (omega arith))

  map_append_one : (t : List E) (e : E) → map f (t ++ (e ∷ [])) ≡ map f t ++ (f e ∷ [])
  map_append_one [] e = refl
  map_append_one (d ∷ t) e = ap (λ (l : List A). f d ∷ l) (map_append_one t e)

  -- one entry more
  pub written_more : (t : List E) (e : E) (l : List A) → length t < length l → set (written_over (map f t) l) (length t) (f e) ≡ written_over (map f (t ++ (e ∷ []))) l
  written_more t e l room =
      let long = length-map t f in
      ap (λ (k : ℕ). set (written_over (map f t) l) k (f e)) (sym long)
      ∙ written_one (map f t) l (f e) (omega arith)
      ∙ ap (λ (r : List A). written_over r l) (sym (map_append_one t e))

  -- one entry changed
  pub written_set : (t : List E) (i : ℕ) (d : E) (l : List A) → i < length t → set (written_over (map f t) l) i (f d) ≡ written_over (map f (set t i d)) l
  written_set t i d l lt =
      let long : length (set (map f t) i (f d)) ≡ length (map f t) = length-set (map f t) i (f d) in
      let inside : i < length (map f t) = rw (length-map t f) lt in
      set-append_left (map f t) (drop (length (map f t)) l) i (f d) inside
      ∙ ap (λ (n : ℕ). set (map f t) i (f d) ++ drop n l) (sym long)
      ∙ ap (λ (r : List A). written_over r l) (sym (map-set f t i d))

  pub written_same : (s t : List E) (z : E) → length s ≡ length t → ((i : ℕ) → i < length s → f (get_or s i z) ≡ f (get_or t i z)) → map f s ≡ map f t
  written_same [] [] z n h = refl
  written_same [] (d ∷ t) z n h = absurd (omega arith)
  written_same (e ∷ s) [] z n h = absurd (omega arith)
  written_same (e ∷ s) (d ∷ t) z n h =
      let first : f e ≡ f d = h 0 (omega arith) in
      rw (first, written_same s t z (omega arith) (λ i l. h (suc i) (omega arith)))

  pub written_read : (t : List E) (i : ℕ) (z : E) (y : A) (l : List A) → i < length t → get_or (written_over (map f t) l) i y ≡ f (get_or t i z)
  written_read t i z y l lt =
      let inside : i < length (map f t) = rw (length-map t f) lt in
      get_d_written (map f t) l y i inside ∙ get_or-map f t i z y lt

-- ---- lengths
pub record SameLengths (x y : NodeLists) : Type 0 where
  pub nodes : length y.nodes ≡ length x.nodes
  pub spans : length y.spans ≡ length x.spans

pub room-fewer : {m n : ℕ} {x : NodeLists} → HasRoom n x → m ≤ n → HasRoom m x
room-fewer h le = record { nodes = le_trans le h.nodes; spans = le_trans le h.spans }

pub room-same : {n : ℕ} {x y : NodeLists} → SameLengths x y → HasRoom n x → HasRoom n y
room-same s h = record { nodes = rw s.nodes h.nodes; spans = rw s.spans h.spans }

module _ (tree : List (Entry singles)) (lent : NodeLists) where
  -- lists that hold a tree are as long as those lent
  pub holding-lengths : HasRoom (length tree) lent → SameLengths lent (holding tree lent)
  unfolding holding
  holding-lengths room = record {
    nodes = length-written (map entry_record tree) lent.nodes (rw (length-map tree entry_record) room.nodes);
    spans = length-written (map entry_span tree) lent.spans (rw (length-map tree entry_span) room.spans);
  }

  -- even without room for the tree, they are not shorter
  pub holding-room : {n : ℕ} → HasRoom n lent → HasRoom n (holding tree lent)
  unfolding holding
  holding-room {n} room = record {
    nodes = le_trans room.nodes (longer (map entry_record tree) lent.nodes);
    spans = le_trans room.spans (longer (map entry_span tree) lent.spans);
  }
    where
      longer : {A : Type 0} (new l : List A) → length l ≤ length (written_over new l)
      longer new l = rw (length-append, length-drop) (omega arith)

-- no tree at all
pub holding-none : (lent : NodeLists) → holding [] lent ≡ lent
unfolding holding
holding-none lent = refl

-- ---- entries that leave the same records: what they offer may differ
pub record SameCells (e d : Entry singles) : Type 0 where
  pub node : entry_record e ≡ entry_record d
  pub span : entry_span e ≡ entry_span d

pub same-cells : (e d : Entry singles) → e.node ≡ d.node → e.info ≡ d.info → e.span ≡ d.span → e.depth ≡ d.depth → SameCells e d
same-cells e d n i s p = record { node = rw (n, i, p); span = rw s }

pub holding-same : (t u : List (Entry singles)) (lent : NodeLists) → length t ≡ length u
    → ((i : ℕ) → i < length t → SameCells (get_or t i no_entry) (get_or u i no_entry))
    → holding t lent ≡ holding u lent
unfolding holding
holding-same t u lent n same = rw (written_same entry_record t u no_entry n (λ i l. (same i l).node), written_same entry_span t u no_entry n (λ i l. (same i l).span))

pub put_same : (i : ℕ) (e d : Entry singles) (x : NodeLists) → SameCells e d → put i e x ≡ put i d x
unfolding put
put_same i e d x s = rw (s.node, s.span)

-- what stands beside a stored node
pub stored_info : (n : Node) (i : Info singles) (depth : ℕ) → (stored_node n i depth).info ≡ i
stored_info (split prop val gt le) i depth = refl
stored_info leaf i depth = refl

-- and its depth
pub stored_depth : (n : Node) (i : Info singles) (depth : ℕ) → (stored_node n i depth).depth ≡ depth
stored_depth (split prop val gt le) i depth = refl
stored_depth leaf i depth = refl

-- ---- one entry more, one made a split, one read
module _ (tree : List (Entry singles)) (lent : NodeLists) where
  pub put-more : (e : Entry singles) → HasRoom (length tree + 1) lent → put (length tree) e (holding tree lent) ≡ holding (tree ++ (e ∷ [])) lent
  unfolding put holding
  put-more e room =
      let nodes = written_more entry_record tree e lent.nodes (omega (arith, room.nodes)) in
      let spans = written_more entry_span tree e lent.spans (omega (arith, room.spans)) in
      cc

  module _ (i : ℕ) (lt : i < length tree) where
    pub held_node : get_or (holding tree lent).nodes i no_record ≡ entry_record (get_or tree i no_entry)
    unfolding holding
    held_node = written_read entry_record tree i no_entry no_record lent.nodes lt

    pub held_info : (get_or (holding tree lent).nodes i no_record).info ≡ info_of (get_or tree i no_entry).info
    held_info = let e : Entry singles = get_or tree i no_entry in ap (λ (m : MaNode). m.info) held_node ∙ ap info_of (stored_info e.node e.info e.depth)

    pub held_depth : (get_or (holding tree lent).nodes i no_record).depth ≡ (get_or tree i no_entry).depth
    held_depth = let e : Entry singles = get_or tree i no_entry in ap (λ (m : MaNode). m.depth) held_node ∙ stored_depth e.node e.info e.depth

    pub held_span : get_or (holding tree lent).spans i no_span_record ≡ entry_span (get_or tree i no_entry)
    unfolding holding
    held_span = written_read entry_span tree i no_entry no_span_record lent.spans lt

    -- node i becomes a split, as the code makes it one
    pub put-split : (o : Offer singles) (n : ℕ) → put_split i o.prop o.val n (holding tree lent) ≡ holding (set tree i (become_split (get_or tree i no_entry) o n)) lent
    unfolding holding become_split
    put-split o n =
        let d : Entry singles = become_split (get_or tree i no_entry) o n in
        let base : NodeLists = holding tree lent in
        let record_is : split_record o.prop o.val n (get_or base.nodes i no_record) ≡ entry_record d = rw (held_info, held_depth, add-one) in
        let nodes = written_set entry_record tree i d lent.nodes lt in
        let spans : map entry_span (set tree i d) ≡ map entry_span tree = map-set_same entry_span tree i d no_entry refl in
        ap (λ (r : MaNode). node_lists (set base.nodes i r) base.spans) record_is ∙ rw (nodes, spans)
