-- The search for the lowest node at fault, node by node. Assumes nothing.
use mathlib.Core.Path.{◌≡◌, refl, sym, ◌∙◌}
use Prim.Native.Nat.{ℕ, zero, suc, ◌+◌, ◌≤◌, ◌<◌}
use native.Mathlib.Numerals.{add-one}
use native.Mathlib.Omega.{arith}
use mathlib.Core.Bool.{Bool, true, false, cond, not, ◌&&◌, ◌||◌}
use mathlib.Core.List.{List, ◌∷◌}
use mathlib.Core.Option.{Option, none, some}
use lib.ListN.{length, get_or, drop, drop_of_length-le}
use lib.Seq.{drop-cons}
use lib.Dec.{eqb, ltb}
use Rattle.std.specs.List.{zip, enumerate_from, position_from}
use Rattle.model.specs.Lists.{count_if, all}
use Rattle.model.specs.Settings.{max_nodes}
use Rattle.model.specs.Single.{singles}
use Rattle.model.specs.Tree.{Record, blank_record, nodes_of, has_child, has_one_parent, has_depth, is_fine, fault_from, fault_of}
use Rattle.model.specs.Lent.{record_in}
use Rattle.model.proofs.Counting.{count_map}
use Rattle.layout.specs.Records.{stored_of, node_is, no_record}
use Rattle.layout.specs.declared.MaNode.{MaNode}
use Rattle.model.specs.Answered.{option_of}
use Rattle.tree.specs.Trees.{records_in, is_fine_in, Counted}
use Rattle.tree.proofs.Entries.{records-length, nodes-each, record_at_lem}
use Rattle.tree.proofs.Parents.{all-map, once-right}

-- the node, numbered and beside its count of parents, is at fault in a tree of so many
abbrev pub is_misfit : ℕ → ℕ × (MaNode × ℕ) → Bool
is_misfit count p = not (is_fine_in count p.0 p.1.1 p.1.0)

module _ (t : List MaNode) where
  abbrev rs : List (Record singles)
  rs = records_in t

  -- ---- the count
  pub fault-count : (eqb (length t) 0 || ltb max_nodes (length t)) ≡ true → fault_of rs ≡ some 0
  unfolding fault_of
  fault-count e = rw (records-length t, e)

  pub fault-nodes : (eqb (length t) 0 || ltb max_nodes (length t)) ≡ false → fault_of rs ≡ fault_from rs 0 rs
  unfolding fault_of
  fault-nodes e = rw (records-length t, e)

  -- ---- one node
  module _ (parents : List ℕ) (counted : Counted t parents) (i : ℕ) (inside : i < length t) where
    abbrev m : MaNode
    m = get_or t i no_record

    -- of how many splits node i is a child, and that it lies one deeper
    parents-all : count_if (has_child i) (nodes_of rs) ≡ count_if (λ (m : MaNode). has_child i (node_is m)) t
    parents-all = rw (nodes-each t) (count_map (has_child i) node_is t)

    depth-all : all (λ (r : Record singles). not (has_child i r.node) || eqb m.depth (suc r.depth)) rs ≡ all (λ (n : MaNode). not (has_child i (node_is n)) || eqb m.depth (suc n.depth)) t
    depth-all = all-map (λ (r : Record singles). not (has_child i r.node) || eqb m.depth (suc r.depth)) (λ (n : MaNode). record_in (stored_of n)) t

    placed : cond (eqb i 0) (eqb m.depth 0) (eqb (get_or parents i 0) 1) ≡ (has_one_parent (nodes_of rs) i && has_depth rs i m.depth)
    placed = go (eqb i 0) refl
      where
        go : (b : Bool) → eqb i 0 ≡ b → cond (eqb i 0) (eqb m.depth 0) (eqb (get_or parents i 0) 1) ≡ (has_one_parent (nodes_of rs) i && has_depth rs i m.depth)
        go true e = rw e
        go false e = rw (e, parents-all, depth-all, counted.counts i (rw counted.places inside))
            (once-right (λ (n : MaNode). has_child i (node_is n)) (λ (n : MaNode). eqb m.depth (suc n.depth)) t)

    fine-at : is_fine_in (length t) i (get_or parents i 0) m ≡ is_fine rs i (record_in (stored_of m))
    fine-at = rw (records-length t, placed)

    cut : drop i rs ≡ get_or rs i blank_record ∷ drop (suc i) rs
    cut = drop-cons rs i blank_record (rw (records-length t) inside)

    pub fault-later : is_fine_in (length t) i (get_or parents i 0) m ≡ true → fault_from rs i (drop i rs) ≡ fault_from rs (suc i) (drop (suc i) rs)
    unfolding fault_from
    fault-later e = rw (cut, record_at_lem t i blank_record inside, ← fine-at, e)

    pub fault-here : is_fine_in (length t) i (get_or parents i 0) m ≡ false → fault_from rs i (drop i rs) ≡ some i
    unfolding fault_from
    fault-here e = rw (cut, record_at_lem t i blank_record inside, ← fine-at, e)

  -- ---- no node is left
  pub fault-none : (i : ℕ) → i ≡ length t → fault_from rs i (drop i rs) ≡ none
  unfolding fault_from
  fault-none i e = let out : length rs ≤ i = omega (arith, records-length t) in rw (drop_of_length-le rs out)

  -- ---- the first misfit from node i on
  module _ (parents : List ℕ) (counted : Counted t parents) where
    abbrev misfit_from : ℕ → Option ℕ
    misfit_from i = option_of (position_from (is_misfit (length t)) i (enumerate_from i (zip (drop i t) (drop i parents))))

    misfit-step : (i : ℕ) → i < length t → misfit_from (suc i) ≡ fault_from rs (suc i) (drop (suc i) rs) → misfit_from i ≡ fault_from rs i (drop i rs)
    misfit-step i inside later = go (is_fine_in (length t) i (get_or parents i 0) (get_or t i no_record)) refl
      where
        room : i < length parents
        room = rw counted.places inside

        go : (b : Bool) → is_fine_in (length t) i (get_or parents i 0) (get_or t i no_record) ≡ b → misfit_from i ≡ fault_from rs i (drop i rs)
        go true e = rw (drop-cons t i no_record inside, drop-cons parents i 0 room, e, add-one) (later ∙ sym (fault-later parents counted i inside e))
        go false e = rw (drop-cons t i no_record inside, drop-cons parents i 0 room, e) (sym (fault-here parents counted i inside e))

    misfit-found : (n i : ℕ) → i + n ≡ length t → misfit_from i ≡ fault_from rs i (drop i rs)
    misfit-found zero i e =
        let out : length t ≤ i = omega arith in
        rw (drop_of_length-le t out) (sym (fault-none i (omega arith)))
    misfit-found (suc n) i e = misfit-step i (omega arith) (misfit-found n (suc i) (omega arith))

    pub first-misfit : misfit_from 0 ≡ fault_from rs 0 rs
    first-misfit = misfit-found (length t) 0 (omega arith)
