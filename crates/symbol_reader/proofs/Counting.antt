-- The pass that counts the nodes, turn by turn. Assumes nothing.
use mathlib.Core.Path.{◌≡◌, refl, sym, ap, ◌∙◌}
use Prim.Native.Nat.{ℕ, ◌+◌, ◌≤◌, ◌<◌}
use native.Mathlib.Omega.{arith}
use mathlib.Core.Bool.{Bool, true, false, ◌&&◌}
use mathlib.Core.List.{List, [], ◌∷◌}
use mathlib.Core.Option.{none, some}
use lib.ListN.{length, drop}
use lib.Dec.{leb, eqb, eqb→eq}
use Rattle.std.proofs.lemmas.List.{nil_from_length}
use Rattle.std.proofs.lemmas.Bool.{leb-true}
use Rattle.model.proofs.Tests.{and-true}
use Rattle.model.specs.Single.{singles}
use Rattle.model.specs.Settings.{max_nodes}
use Rattle.model.specs.Tree.{Record}
use Rattle.model.specs.Symbols.{first_node, with_children, tree_read}
use Rattle.model.specs.declared.Symbol.{Symbol}
use Rattle.symbol_reader.specs.Nodes.{is_leaf, is_split, count_of}
use Rattle.symbol_reader.proofs.Reading.{Read, read_nothing, one_on, longer, read_leaf, read_split, read_none, read_all, left_over}

beyond : (n : ℕ) → leb n max_nodes ≡ false → max_nodes < n
beyond n e = search arith

empty_list : {A : Type 0} (l : List A) → eqb (length l) 0 ≡ true → l ≡ []
empty_list l e = nil_from_length l (eqb→eq _ _ (rw e tt))

-- so many nodes were counted, so many are due with them, and `rest` is left
pub record Counted (symbols : List Symbol) (count due : ℕ) (rest : List Symbol) : Type 0 where
  pub done : List (Record singles)
  pub many : length done ≡ count
  pub depths : List ℕ
  pub read : Read symbols done due depths rest

pub counted_none : (symbols : List Symbol) → Counted symbols 0 1 symbols
counted_none symbols = record { done = []; many = refl; depths = 0 ∷ []; read = read_nothing symbols }

-- one more is due: its depth, and those of the nodes due after it
record Next (symbols : List Symbol) (done : List (Record singles)) (due : ℕ) (rest : List Symbol) : Type 0 where
  depth : ℕ
  later : List ℕ
  read : Read symbols done due (depth ∷ later) rest

module _ (symbols : List Symbol) (count due : ℕ) (rest : List Symbol) (c : Counted symbols count due rest) where
  module _ (h : count < due) where
    next : Next symbols c.done due rest
    next = go c.depths c.read
      where
        go : (depths : List ℕ) → Read symbols c.done due depths rest → Next symbols c.done due rest
        go [] r = absurd (omega (arith, h, c.many, r.all))
        go (depth ∷ later) r = record { depth = depth; later = later; read = r }

    one_more : (due' : ℕ) (depths : List ℕ) (tail : List Symbol)
        → Read symbols (one_on symbols c.done due next.depth next.later rest next.read) due' depths tail → Counted symbols (count + 1) due' tail
    one_more due' depths tail read = record {
      done = one_on symbols c.done due next.depth next.later rest next.read;
      many = longer symbols c.done due next.depth next.later rest next.read ∙ omega (arith, c.many);
      depths = depths;
      read = read;
    }

    pub counted_leaf : (leafy : Bool) → leafy ≡ is_leaf (first_node rest) → leafy ≡ true → Counted symbols (count + 1) due (drop 5 rest)
    counted_leaf leafy is t =
        one_more due next.later (drop 5 rest) (read_leaf symbols c.done due next.depth next.later rest next.read (sym is ∙ t))

    pub counted_split : (splits : Bool) → splits ≡ is_split (first_node rest) → (splits && leb (due + 2) max_nodes) ≡ true → Counted symbols (count + 1) (due + 2) (drop 2 rest)
    counted_split splits is t = let both = and-true splits (leb (due + 2) max_nodes) t in
        one_more (due + 2) (with_children next.depth next.later) (drop 2 rest)
        (read_split symbols c.done due next.depth next.later rest next.read (sym is ∙ both.0) (leb-true _ _ both.1))

    pub no_tree : (leafy splits : Bool) → leafy ≡ is_leaf (first_node rest) → splits ≡ is_split (first_node rest)
        → leafy ≡ false → (splits && leb (due + 2) max_nodes) ≡ false → none ≡ count_of (tree_read symbols)
    no_tree leafy splits l s f n =
        sym (ap count_of (read_none symbols c.done due next.depth next.later rest next.read (sym l ∙ f) (λ t. beyond (due + 2) (rw (s, t) at n))))

  -- as many are counted as are due
  module _ (h : due ≤ count) (empty : Bool) (is : empty ≡ eqb (length rest) 0) where
    all_read : Read symbols c.done due [] rest
    all_read = go c.depths c.read
      where
        go : (depths : List ℕ) → Read symbols c.done due depths rest → Read symbols c.done due [] rest
        go [] r = r
        go (depth ∷ later) r = absurd (omega (arith, h, c.many, r.all))

    pub counted_all : empty ≡ true → some count ≡ count_of (tree_read symbols)
    counted_all t = ap some (sym c.many) ∙ sym (ap count_of (read_all symbols c.done due rest all_read (empty_list rest (sym is ∙ t))))

    pub some_left : empty ≡ false → none ≡ count_of (tree_read symbols)
    some_left t = sym (ap count_of (left_over symbols c.done due rest all_read (λ e. let none_left = rw e at is in absurd (cc))))
