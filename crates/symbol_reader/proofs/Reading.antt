-- Symbols read node by node: what is left of them gives the rest of the tree. Assumes nothing.
use mathlib.Core.Path.{◌≡◌, refl, sym, ap, ◌∙◌}
use Prim.Native.Nat.{ℕ, zero, suc, ◌+◌, ◌-◌, ◌≤◌, ◌<◌}
use native.Mathlib.Omega.{arith}
use mathlib.Core.Bool.{Bool, true, false}
use mathlib.Core.List.{List, [], ◌∷◌, ◌++◌, append_assoc, append-nil}
use mathlib.Core.Option.{Option, none, some}
use lib.ListN.{length, drop, length-append}
use lib.IntN.{ℤ}
use lib.Dec.{ltb}
use borrow.Author.Tests.{ltb-true, ltb-false}
use Rattle.std.specs.Prelude.{◌≢◌}
use Rattle.model.specs.Single.{singles}
use Rattle.model.specs.Settings.{max_nodes}
use Rattle.model.specs.Tree.{Record}
use Rattle.model.specs.Symbols.{FirstNode, no_node, first_split, first_leaf, first_node, with_first, at_end, with_children, nodes_read, tree_read}
use Rattle.model.specs.declared.Symbol.{Symbol}
use Rattle.model.proofs.SymbolsRead.{two-longer, too-many}
use Rattle.symbol_reader.specs.Nodes.{is_leaf, is_split, record_read, count_of}
use Rattle.symbol_reader.proofs.First.{Begins, nothing, a_leaf, a_split, begins, split_leafless}

-- ---- one node, or the end
-- the nodes that are read where so many may come, so many were read and those due lie at these depths
abbrev nodes : ℕ → ℕ → List ℕ → List Symbol → Option (List (Record singles))
nodes = nodes_read

-- the node that comes next, at this depth, where so many are due with those read
abbrev pub next_node : ℕ → ℕ → List Symbol → Record singles
next_node due depth rest = record_read due depth (first_node rest)

module _ (most size depth : ℕ) (later : List ℕ) (xs : List Symbol) where
  no_node_first : first_node xs ≡ no_node → nodes (suc most) size (depth ∷ later) xs ≡ none
  unfolding nodes_read
  no_node_first e = rw e

  leaf_first : (pred : ℕ) (offset : ℤ) (rest : List Symbol) → first_node xs ≡ first_leaf pred offset rest
      → nodes (suc most) size (depth ∷ later) xs ≡ with_first (next_node (size + length later + 1) depth xs) (nodes most (suc size) later rest)
  unfolding nodes_read
  leaf_first pred offset rest e = rw e

  split_first : (prop : ℕ) (val : ℤ) (rest : List Symbol) → first_node xs ≡ first_split prop val rest
      → nodes (suc most) size (depth ∷ later) xs
      ≡ with_first (next_node (size + length later + 1) depth xs) (nodes most (suc size) (with_children depth later) rest)
  unfolding nodes_read
  split_first prop val rest e = let two : size + length later + 2 ≡ size + length later + 1 + 1 = omega arith in rw (e, two)

no_more : (most size : ℕ) (xs : List Symbol) → nodes most size [] xs ≡ at_end [] xs
unfolding nodes_read
no_more zero size xs = refl
no_more (suc most) size xs = refl

-- ---- of 8,191 nodes
-- the nodes after so many, where those due lie at these depths
abbrev pub remaining : ℕ → List ℕ → List Symbol → Option (List (Record singles))
remaining read depths rest = nodes (max_nodes - read) read depths rest

module _ (n due depth : ℕ) (later : List ℕ) (rest : List Symbol) (all : n + suc (length later) ≡ due) (fits : due ≤ max_nodes) where
  more : max_nodes - n ≡ suc (max_nodes - suc n)
  more = omega arith

  -- the number behind all that are due
  behind : n + length later + 1 ≡ due
  behind = omega arith

  remaining_none : first_node rest ≡ no_node → remaining n (depth ∷ later) rest ≡ none
  remaining_none e = rw more (no_node_first (max_nodes - suc n) n depth later rest e)

  remaining_leaf : (pred : ℕ) (offset : ℤ) (tail : List Symbol) → first_node rest ≡ first_leaf pred offset tail
      → remaining n (depth ∷ later) rest ≡ with_first (next_node due depth rest) (remaining (suc n) later tail)
  remaining_leaf pred offset tail e = rw more (rw behind at (leaf_first (max_nodes - suc n) n depth later rest pred offset tail e))

  remaining_split : (prop : ℕ) (val : ℤ) (tail : List Symbol) → first_node rest ≡ first_split prop val tail
      → remaining n (depth ∷ later) rest ≡ with_first (next_node due depth rest) (remaining (suc n) (with_children depth later) tail)
  remaining_split prop val tail e = rw more (rw behind at (split_first (max_nodes - suc n) n depth later rest prop val tail e))

  -- the split's children are too many
  remaining_too_many : (tail : List Symbol) → max_nodes < due + 2 → remaining (suc n) (with_children depth later) tail ≡ none
  remaining_too_many tail h =
      too-many (max_nodes - suc n) (suc n) (with_children depth later) tail (omega (arith, all, h, two-longer depth later))

-- ---- what was read in front of the rest
abbrev pub prepended : List (Record singles) → Option (List (Record singles)) → Option (List (Record singles))
prepended done none = none
prepended done (some rs) = some (done ++ rs)

prepended_none : (o : Option (List (Record singles))) → prepended [] o ≡ o
prepended_none none = refl
prepended_none (some rs) = refl

prepended_first : (done : List (Record singles)) (r : Record singles) (o : Option (List (Record singles)))
    → prepended done (with_first r o) ≡ prepended (done ++ (r ∷ [])) o
prepended_first done r none = refl
prepended_first done r (some rs) = ap some (sym (append_assoc done (r ∷ []) rs))

-- the nodes in `done` were read of the symbols, so many are due with them, those to come at these depths, and `rest` is left
pub record Read (symbols : List Symbol) (done : List (Record singles)) (due : ℕ) (depths : List ℕ) (rest : List Symbol) : Type 0 where
  pub all : length done + length depths ≡ due
  pub fits : due ≤ max_nodes
  pub same : tree_read symbols ≡ prepended done (remaining (length done) depths rest)

pub read_nothing : (symbols : List Symbol) → Read symbols [] 1 (0 ∷ []) symbols
unfolding tree_read
read_nothing symbols = record { all = refl; fits = omega arith; same = sym (prepended_none _) }

module _ (symbols : List Symbol) (done : List (Record singles)) (due : ℕ) where
  -- no node is due any more
  module _ (rest : List Symbol) (read : Read symbols done due [] rest) where
    ends : tree_read symbols ≡ prepended done (at_end [] rest)
    ends = read.same ∙ ap (prepended done) (no_more (max_nodes - length done) (length done) rest)

    -- nothing is left
    pub read_all : rest ≡ [] → tree_read symbols ≡ some done
    read_all e = ends ∙ rw (e, append-nil)

    -- something is left
    pub left_over : rest ≢ [] → tree_read {M = singles} symbols ≡ none
    left_over ne = ends ∙ go rest ne
      where
        go : (l : List Symbol) → l ≢ [] → prepended done (at_end [] l) ≡ none
        go [] ne = absurd (ne refl)
        go (x ∷ xs) ne = refl

  module _ (depth : ℕ) (later : List ℕ) (rest : List Symbol) (read : Read symbols done due (depth ∷ later) rest) where
    -- the nodes read, with the next one
    abbrev pub one_on : List (Record singles)
    one_on = done ++ (next_node due depth rest ∷ [])

    pub longer : length one_on ≡ suc (length done)
    longer = length-append done (next_node due depth rest ∷ []) ∙ omega arith

    -- a node more
    one_more : (due' : ℕ) (depths : List ℕ) (tail : List Symbol) → suc (length done) + length depths ≡ due' → due' ≤ max_nodes
        → remaining (length done) (depth ∷ later) rest ≡ with_first (next_node due depth rest) (remaining (suc (length done)) depths tail)
        → Read symbols one_on due' depths tail
    one_more due' depths tail all fits e = record {
      all = rw longer all;
      fits = fits;
      same = rw longer (read.same ∙ ap (prepended done) e ∙ prepended_first done _ _);
    }

    pub read_leaf : is_leaf (first_node rest) ≡ true → Read symbols one_on due later (drop 5 rest)
    read_leaf t = go (first_node rest) (begins rest) refl t
      where
        go : (f : FirstNode) → Begins rest f → first_node rest ≡ f → is_leaf f ≡ true → Read symbols one_on due later (drop 5 rest)
        go f nothing e t = absurd (cc)
        go f (a_leaf pred offset long) e t =
            one_more due later (drop 5 rest) (omega (arith, read.all)) read.fits
            (remaining_leaf (length done) due depth later rest read.all read.fits pred offset (drop 5 rest) e)
        go f (a_split prop val long) e t = absurd (cc)

    pub read_split : is_split (first_node rest) ≡ true → due + 2 ≤ max_nodes → Read symbols one_on (due + 2) (with_children depth later) (drop 2 rest)
    read_split t fits = go (first_node rest) (begins rest) refl t
      where
        go : (f : FirstNode) → Begins rest f → first_node rest ≡ f → is_split f ≡ true
            → Read symbols one_on (due + 2) (with_children depth later) (drop 2 rest)
        go f nothing e t = absurd (cc)
        go f (a_leaf pred offset long) e t = absurd (cc)
        go f (a_split prop val long) e t =
            one_more (due + 2) (with_children depth later) (drop 2 rest) (omega (arith, read.all, two-longer depth later)) fits
            (remaining_split (length done) due depth later rest read.all read.fits prop val (drop 2 rest) e)

    -- no node, or a split whose children are too many
    pub read_none : is_leaf (first_node rest) ≡ false → (is_split (first_node rest) ≡ true → max_nodes < due + 2) → tree_read {M = singles} symbols ≡ none
    read_none leafless many = read.same ∙ ap (prepended done) (go (first_node rest) refl leafless many)
      where
        go : (f : FirstNode) → first_node rest ≡ f → is_leaf f ≡ false → (is_split f ≡ true → max_nodes < due + 2)
            → remaining (length done) (depth ∷ later) rest ≡ none
        go no_node e leafless many = remaining_none (length done) due depth later rest read.all read.fits e
        go (first_leaf pred offset tail) e leafless many = absurd (cc)
        go (first_split prop val tail) e leafless many =
            remaining_split (length done) due depth later rest read.all read.fits prop val tail e
            ∙ ap (with_first (next_node due depth rest)) (remaining_too_many (length done) due depth later rest read.all read.fits tail (many refl))

  -- a tree of more nodes
  module _ (n : ℕ) (count : count_of (tree_read symbols) ≡ some n) (some_left : length done < n) where
    is_tree : tree_read {M = singles} symbols ≡ none → ⊥
    is_tree none_read = let e : count_of none ≡ some n = sym (ap count_of none_read) ∙ count in cc

    -- so a node is due
    pub due_more : (depths : List ℕ) (rest : List Symbol) → Read symbols done due depths rest → length done < due
    due_more (depth ∷ later) rest read = omega (arith, read.all)
    due_more [] rest read = absurd (at_the_end rest (ends rest read))
      where
        at_the_end : (l : List Symbol) → tree_read symbols ≡ prepended done (at_end [] l) → ⊥
        at_the_end [] e =
            let whole : count_of (some (done ++ [])) ≡ some n = sym (ap count_of e) ∙ count in
            let long : length (done ++ []) ≡ n = cc in
            omega (arith, length-append done [], long, some_left)
        at_the_end (x ∷ xs) e = is_tree e

    module _ (depth : ℕ) (later : List ℕ) (rest : List Symbol) (read : Read symbols done due (depth ∷ later) rest) where
      pub begins_node : first_node rest ≢ no_node
      begins_node e = is_tree (read_none depth later rest read (rw e refl) (λ t. let split = rw e at t in absurd (cc)))

      pub children_fit : is_split (first_node rest) ≡ true → due + 2 ≤ max_nodes
      children_fit t = go (ltb max_nodes (due + 2)) refl
        where
          go : (b : Bool) → ltb max_nodes (due + 2) ≡ b → due + 2 ≤ max_nodes
          go false e = ltb-false _ _ e
          go true e = absurd (is_tree (read_none depth later rest read (split_leafless (first_node rest) t) (λ s. ltb-true _ _ e)))

      pub else_leaf : is_split (first_node rest) ≡ false → is_leaf (first_node rest) ≡ true
      else_leaf t = go (first_node rest) t begins_node
        where
          go : (f : FirstNode) → is_split f ≡ false → f ≢ no_node → is_leaf f ≡ true
          go no_node t ne = absurd (ne refl)
          go (first_leaf pred offset tail) t ne = refl
          go (first_split prop val tail) t ne = absurd (cc)
