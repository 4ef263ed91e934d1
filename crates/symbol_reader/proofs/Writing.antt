-- The pass that writes the nodes, turn by turn. Assumes nothing.
use mathlib.Core.Path.{◌≡◌, refl, sym, ap, ◌∙◌}
use Prim.Native.Nat.{ℕ, suc, ◌+◌, ◌-◌, ◌≤◌, ◌<◌}
use native.Mathlib.Numerals.{add-one}
use native.Mathlib.Omega.{arith}
use mathlib.Core.Bool.{Bool, true, false}
use mathlib.Core.List.{List, [], ◌∷◌, map, ◌++◌, append_assoc, append-nil}
use mathlib.Core.Option.{Option, none, some}
use lib.ListN.{length, take, drop, set, replicate, length-append}
use lib.Seq.{take-length}
use lib.Dec.{eqb}
use Rattle.std.specs.Prelude.{◌≢◌}
use Rattle.std.proofs.lemmas.List.{take_more_set, map-append, nil_from_length, replicate-append-replicate}
use Rattle.model.specs.Single.{singles}
use Rattle.model.specs.Tree.{Record}
use Rattle.model.specs.Symbols.{FirstNode, no_node, first_split, first_leaf, first_node, with_children, tree_read}
use Rattle.model.specs.declared.Symbol.{Symbol}
use Rattle.layout.specs.declared.MaNode.{MaNode}
use Rattle.symbol_reader.specs.Nodes.{is_leaf, is_split, as_stored, node_read, count_of, records_read}
use Rattle.symbol_reader.proofs.First.{leaf_long}
use Rattle.symbol_reader.proofs.Reading.{Read, read_nothing, prepended, remaining, one_on, longer, read_leaf, read_split, due_more, begins_node, children_fit, else_leaf}

-- the depths of the nodes due after so many: up to the end of the level all lie at its depth, from there on one deeper
abbrev pub level_depths : ℕ → ℕ → ℕ → ℕ → List ℕ
level_depths read due depth level_end = replicate (level_end - read) depth ++ replicate (due - level_end) (suc depth)

-- so many nodes are written, so many are due with them, the level at this depth ends at `level_end`, and `rest` is left
pub record Written (symbols : List Symbol) (nodes : List MaNode) (k due depth level_end : ℕ) (rest : List Symbol) : Type 0 where
  pub done : List (Record singles)
  pub many : length done ≡ k
  pub within : k ≤ level_end
  pub all_due : level_end ≤ due
  -- each level so far has a node
  pub low : depth < level_end
  pub read : Read symbols done due (level_depths k due depth level_end) rest
  pub front : take k nodes ≡ map as_stored done

pub written_none : (symbols : List Symbol) (nodes : List MaNode) → Written symbols nodes 0 1 0 1 symbols
written_none symbols nodes = record {
  done = [];
  many = refl;
  within = omega arith;
  all_due = omega arith;
  low = omega arith;
  read = read_nothing symbols;
  front = refl;
}

-- a record is a split's if a split was read
split_read : (gt depth : ℕ) (f : FirstNode) → eqb (node_read gt depth f).kind 1 ≡ is_split f
split_read gt depth no_node = refl
split_read gt depth (first_split prop val rest) = refl
split_read gt depth (first_leaf pred offset rest) = refl

-- the first node due lies at the level's depth
first_depth : (k due depth level_end : ℕ) → k < level_end → level_depths k due depth level_end ≡ depth ∷ level_depths (k + 1) due depth level_end
first_depth k due depth level_end h = let more : level_end - k ≡ suc (level_end - (k + 1)) = omega arith in rw more refl

-- behind a split of the level its children lie one deeper
children_depths : (k due depth level_end : ℕ) → level_end ≤ due → with_children depth (level_depths k due depth level_end) ≡ level_depths k (due + 2) depth level_end
children_depths k due depth level_end h =
    let two : due - level_end + 2 ≡ due + 2 - level_end = omega arith in
    append_assoc (replicate (level_end - k) depth) (replicate (due - level_end) (suc depth)) (suc depth ∷ suc depth ∷ [])
    ∙ ap (λ (l : List ℕ). replicate (level_end - k) depth ++ l) (replicate-append-replicate (due - level_end) 2 (suc depth) ∙ rw two refl)

-- at the end of a level all that are due are the next one's
next_depths : (k due depth level_end : ℕ) → k ≡ level_end → level_depths k due depth level_end ≡ level_depths k due (depth + 1) due
next_depths k due depth level_end e =
    let none_left : level_end - k ≡ 0 = omega arith in
    let none_deeper : due - due ≡ 0 = omega arith in
    let all : due - level_end ≡ due - k = omega arith in
    rw (none_left, none_deeper, all, append-nil, add-one) refl

module _ (symbols : List Symbol) (nodes : List MaNode) (k due depth level_end : ℕ) (rest : List Symbol) (w : Written symbols nodes k due depth level_end rest)
    (n : ℕ) (count : count_of (tree_read symbols) ≡ some n) where
  module _ (h : k < n) where
    some_left : length w.done < n
    some_left = rw w.many h

    -- the node is the first of the next level
    pub next_level : k ≡ level_end → Written symbols nodes k due (depth + 1) due rest × (k < due)
    next_level e =
        let is_due : k < due = omega (arith, w.many, due_more symbols w.done due n count some_left _ rest w.read) in (
          record {
            done = w.done;
            many = w.many;
            within = omega arith;
            all_due = omega arith;
            low = omega (arith, e, is_due, w.low);
            read = rw (next_depths k due depth level_end e) at w.read;
            front = w.front;
          },
          is_due,
        )

    -- the node is one of this level
    pub same_level : k ≢ level_end → Written symbols nodes k due depth level_end rest × (k < level_end)
    same_level ne = (w, omega (arith, w.within, ne))

    module _ (here : k < level_end) where
      abbrev later : List ℕ
      later = level_depths (k + 1) due depth level_end

      read_here : Read symbols w.done due (depth ∷ later) rest
      read_here = rw (first_depth k due depth level_end here) at w.read

      pub node_there : first_node rest ≢ no_node
      node_there = begins_node symbols w.done due n count some_left depth later rest read_here

      module _ (long : length nodes ≡ n) (m : MaNode) (is : m ≡ node_read due depth (first_node rest)) where
        one_more : (due' : ℕ) (tail : List Symbol) → due ≤ due'
            → Read symbols (one_on symbols w.done due depth later rest read_here) due' (level_depths (k + 1) due' depth level_end) tail
            → Written symbols (set nodes k m) (k + 1) due' depth level_end tail
        one_more due' tail up read =
            let inside : k < length nodes = rw long h in
            record {
              done = one_on symbols w.done due depth later rest read_here;
              many = longer symbols w.done due depth later rest read_here ∙ omega (arith, w.many);
              within = omega (arith, here);
              all_due = omega (arith, w.all_due, up);
              low = w.low;
              read = read;
              front = take_more_set nodes k m inside ∙ rw (w.front, is) (sym (map-append as_stored w.done _));
            }

        module _ (splits : Bool) (s : splits ≡ eqb m.kind 1) where
          is_split_read : splits ≡ is_split (first_node rest)
          is_split_read = rw is at s ∙ split_read due depth (first_node rest)

          leaf_there : splits ≡ false → is_leaf (first_node rest) ≡ true
          leaf_there e = else_leaf symbols w.done due n count some_left depth later rest read_here (sym is_split_read ∙ e)

          pub five_there : splits ≡ false → 5 ≤ length rest
          five_there e = leaf_long rest (leaf_there e)

          pub written_leaf : splits ≡ false → Written symbols (set nodes k m) (k + 1) due depth level_end (drop 5 rest)
          written_leaf e = one_more due (drop 5 rest) (omega arith) (read_leaf symbols w.done due depth later rest read_here (leaf_there e))

          pub written_split : splits ≡ true → Written symbols (set nodes k m) (k + 1) (due + 2) depth level_end (drop 2 rest)
          written_split e =
              let t = sym is_split_read ∙ e in
              let fits = children_fit symbols w.done due n count some_left depth later rest read_here t in
              one_more (due + 2) (drop 2 rest) (omega arith)
              (rw (children_depths (k + 1) due depth level_end w.all_due) at (read_split symbols w.done due depth later rest read_here t fits))

  -- as many nodes are written as the tree has
  pub written_all : length nodes ≡ n → k ≡ n → nodes ≡ records_read symbols
  written_all long e = go (remaining (length w.done) (level_depths k due depth level_end) rest) w.read.same
    where
      go : (o : Option (List (Record singles))) → tree_read symbols ≡ prepended w.done o → nodes ≡ records_read symbols
      go none r = absurd (let c : count_of none ≡ some n = sym (ap count_of r) ∙ count in cc)
      go (some rs) r =
          let c : some (length (w.done ++ rs)) ≡ some n = sym (ap count_of r) ∙ count in
          let sizes : length (w.done ++ rs) ≡ n = cc in
          let last : rs ≡ [] = nil_from_length rs (omega (arith, length-append w.done rs, w.many)) in
          let whole : take k nodes ≡ nodes = rw (e, ← long) (take-length nodes) in
          sym whole ∙ w.front ∙ rw (r, last, append-nil)
