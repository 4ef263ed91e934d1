-- A node's price in the flat lists is the model's, if those behind it are. Assumes nothing.
use mathlib.Core.Path.{◌≡◌, refl, sym, ap, ◌∙◌, subst}
use Prim.Native.Nat.{ℕ, zero, suc, ◌+◌, ◌-◌, ◌≤◌, ◌<◌}
use native.Mathlib.Nat.{zero-add, add-zero}
use native.Mathlib.Omega.{arith}
use native.Mathlib.Decide.{ℕ_discrete}
use mathlib.Core.Bool.{Bool, true, false, cond, not}
use mathlib.Core.List.{List, [], ◌∷◌}
use lib.ListN.{length, get_or, set, drop, get_or-map}
use lib.Seq.{get_or-drop, get_or-set_same, get_or-set_other}
use lib.IntN.{ℤ}
use lib.Dec.{eqb}
use lib.Ieee.{Float, le}
use Rattle.model.specs.Meter.{Meter}
use Rattle.model.specs.Single.{singles}
use Rattle.model.specs.Tree.{Node, split, leaf, is_leaf}
use Rattle.model.specs.Grow.{Entry, no_entry}
use Rattle.model.specs.Prune.{no_priced, priced_before, priced_from, pruned_nodes, pruned_bits}
use Rattle.model.specs.Prune as model
use Rattle.model.specs.Lent.{stored_node}
use Rattle.layout.specs.Records.{record_of, no_record, kind_at, gt_at, le_at}
use Rattle.layout.specs.declared.MaNode.{MaNode}
use Rattle.prune.specs.declared.Priced.{Priced}
use Rattle.prune.specs.Prices.{leaf_priced, no_price, split_priced, ShowsTree, IsPriced, PricedAs}
use Rattle.std.specs.Prelude.{Option, Some, None, unwrap_or, is_some}

-- node k is priced from those behind it
price-of : {M : Meter} (price : M.Cost) (s : ℕ) (es : List (Entry M)) (k : ℕ) → k < length es
    → get_or (priced_from price s es) k no_priced ≡ priced_before price (s + k) (get_or es k no_entry) (get_or es k no_entry).node
    (drop (suc k) (priced_from price s es))
unfolding priced_from
price-of price s [] k h = absurd (omega arith)
price-of price s (e ∷ es) zero h = rw add-zero
price-of price s (e ∷ es) (suc k) h = let z : suc s + k ≡ s + suc k = omega arith in rw z at (price-of price (suc s) es k (omega arith))

-- what a node of this cost comes to, and whether it stays a split, is what the model's record says
abbrev Agrees : Option Priced → Float → model.Priced singles → Type 0
Agrees r cost p = ((unwrap_or r (leaf_priced cost)).bits ≡ p.bits) × ((unwrap_or r (leaf_priced cost)).priced ≡ p.priced) × (is_some r ≡ not (is_leaf p.node))

module _ (price : Float) (tree : List (Entry singles)) where
  abbrev price_at : ℕ → model.Priced singles
  price_at i = get_or (priced_from {M = singles} price 0 tree) i no_priced

  behind : (i g : ℕ) → i < g → get_or (drop (suc i) (priced_from {M = singles} price 0 tree)) (g - suc i) no_priced ≡ price_at g
  behind i g h = let e : suc i + (g - suc i) ≡ g = omega arith in
      get_or-drop (suc i) (priced_from {M = singles} price 0 tree) (g - suc i) no_priced ∙ ap price_at e

  module _ (nodes : List MaNode) (shows : ShowsTree tree nodes)
      (children : (i : ℕ) → i < length nodes → eqb (kind_at nodes i) 1 ≡ true → (gt_at nodes i < length nodes) × (le_at nodes i < length nodes)) where
    module _ (prices : List Priced) (splits : List Bool) (i : ℕ) (h : i < length nodes)
        (later : (k : ℕ) → suc i ≤ k → k < length nodes → IsPriced price tree k prices splits) where
      abbrev e : Entry singles
      e = get_or tree i no_entry

      abbrev m : MaNode
      m = get_or nodes i no_record

      record-is : (n : Node) → e.node ≡ n → m ≡ record_of (stored_node n e.info e.depth)
      record-is n z = shows.nodes_are i h ∙ ap (λ (n : Node). record_of (stored_node n e.info e.depth)) z

      whole : price_at i ≡ priced_before price i e e.node (drop (suc i) (priced_from {M = singles} price 0 tree))
      whole = rw zero-add at (price-of {M = singles} price 0 tree i (omega (arith, shows.many)))

      as_split : (b k : Float) (p : ℕ) (v : ℤ) (g l : ℕ) → Agrees (cond (le e.info.cost k) None (Some (record { bits = b; priced = k }))) e.info.cost
          (cond (le e.info.cost k) (model.as_leaf e) (record { node = split p v g l; bits = b; priced = k }))
      as_split b k p v g l = go (le e.info.cost k)
        where
          go : (t : Bool) → Agrees (cond t None (Some (record { bits = b; priced = k }))) e.info.cost
              (cond t (model.as_leaf e) (record { node = split p v g l; bits = b; priced = k }))
          go true = (refl, refl, refl)
          go false = (refl, refl, refl)

      next : Agrees (split_priced m price prices) m.info.cost (price_at i)
      next = subst (Agrees (split_priced m price prices) m.info.cost) (sym whole) (go e.node refl)
        where
          go : (n : Node) → e.node ≡ n → Agrees (split_priced m price prices) m.info.cost (priced_before price i e n (drop (suc i) (priced_from {M = singles} price 0 tree)))
          go leaf z = rw (record-is leaf z) (refl, refl, refl)
          go (split p v g l) z =
              let r = record-is (split p v g l) z in
              let gt : m.gt ≡ g = ap (λ (r : MaNode). r.gt) r in
              let lt : m.le ≡ l = ap (λ (r : MaNode). r.le) r in
              let is : eqb m.kind 1 ≡ true = ap (λ (r : MaNode). eqb r.kind 1) r in
              let fw = shows.forward i h is in
              let in_range = children i h is in
              let ig : i < g = rw gt at fw.0 in
              let il : i < l = rw lt at fw.1 in
              let pg = later g ig (rw gt at in_range.0) in
              let pl = later l il (rw lt at in_range.1) in
              rw (r, behind i g ig, behind i l il, pg.bits_are, pl.bits_are, pg.priced_are, pl.priced_are) (as_split _ _ p v g l)

      -- one node more is priced
      pub priced-more : (r : Option Priced) → r ≡ split_priced m price prices → {p : Priced} → p ≡ unwrap_or r (leaf_priced m.info.cost) → {s : Bool} → s ≡ is_some r
          → i < length prices → i < length splits
          → (k : ℕ) → i ≤ k → k < length nodes → IsPriced price tree k (set prices i p) (set splits i s)
      priced-more r z {p} y {s} x hp hs k a b = elim (ℕ_discrete k i) [ yes q ↦ own q | no ne ↦ other ne (omega arith) ]
        where
          own : k ≡ i → IsPriced price tree k (set prices i p) (set splits i s)
          own q = rw (q, y, x, z) record {
            bits_are = ap (λ (w : Priced). w.bits) (get_or-set_same prices i _ no_price hp) ∙ next.0;
            priced_are = ap (λ (w : Priced). w.priced) (get_or-set_same prices i _ no_price hp) ∙ next.1;
            split_is = get_or-set_same splits i _ false hs ∙ next.2;
          }

          other : (k ≡ i → ⊥) → suc i ≤ k → IsPriced price tree k (set prices i p) (set splits i s)
          other ne c = let was = later k c b in record {
            bits_are = ap (λ (w : Priced). w.bits) (get_or-set_other prices i k p no_price ne) ∙ was.bits_are;
            priced_are = ap (λ (w : Priced). w.priced) (get_or-set_other prices i k p no_price ne) ∙ was.priced_are;
            split_is = get_or-set_other splits i k s false ne ∙ was.split_is;
          }

  -- when all are priced
  pub priced-all : (count : ℕ) (prices : List Priced) (splits : List Bool) → count ≡ length tree → 0 < count
      → ((i : ℕ) → i < count → IsPriced price tree i prices splits)
      → PricedAs price tree (get_or prices 0 no_price).bits splits
  unfolding pruned_bits pruned_nodes
  priced-all count prices splits many some all = record {
    bits_are = (all 0 some).bits_are;
    splits_are = λ i h. (all i (omega arith)).split_is
        ∙ ap (λ (n : Node). not (is_leaf n)) (sym (get_or-map (λ (p : model.Priced singles). p.node) (priced_from {M = singles} price 0 tree) i no_priced));
  }
