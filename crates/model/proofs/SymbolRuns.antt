-- What runs of writing and reading symbols keep: a sound tree is read again breadth first, with the same leaves, and symbols that are accepted are written back. Assumes nothing.
use mathlib.Core.Path.{◌≡◌, refl, sym, ap, ◌∙◌}
use Prim.Native.Nat.{ℕ, ◌≤◌, ◌<◌}
use native.Mathlib.Omega.{arith}
use mathlib.Core.List.{List, map}
use mathlib.Core.Option.{none, some}
use lib.ListN.{length, get_or, take, replicate, length-map, get_or-map}
use lib.Seq.{take_all}
use lib.IntN.{ℤ}
use lib.Dec.{T}
use Rattle.model.specs.Lists.{written_over}
use Rattle.model.specs.Meter.{Meter}
use Rattle.model.specs.Settings.{props_per_row}
use Rattle.model.specs.Tree.{Node, split, leaf, is_leaf, Record, blank_record, nodes_of, leaf_reached, fault_of}
use Rattle.model.specs.Learn.{leaf_count}
use Rattle.model.specs.Contexts.{contexts_of}
use Rattle.model.specs.Symbols.{symbols_of, rowless_record, breadth_tree, tree_read}
use Rattle.model.specs.Lent.{Stored, stored, tree_in}
use Rattle.model.specs.Refuse.{write_refusal, read_refusal}
use Rattle.model.specs.Operations.{accepted, Found, ContextLists, leaf_contexts, SymbolLists, write_symbols, read_symbols}
use Rattle.model.specs.SymbolsKept.{node_in, number_in, SameLeaf, ReadAgain, ReadTree, SymbolsKept}
use Rattle.model.specs.declared.Symbol.{Symbol}
use Rattle.model.proofs.Sound.{same_length, has_root, sound}
use Rattle.model.proofs.Tests.{not-below}
use Rattle.model.proofs.Accepted.{contexts-passed, write-passed}
use Rattle.model.proofs.Written.{length-written, get_d_written}
use Rattle.model.proofs.NodeEntries.{length-tree, tree-written}
use Rattle.model.proofs.Lookups.{FoundIn, lookup-accepted, looked_up}
use Rattle.model.proofs.ContextNumbers.{contexts-number}
use Rattle.model.proofs.SymbolsRead.{ReadBack, read-back}
use Rattle.model.proofs.SymbolsWritten.{written-is-read}
use Rattle.model.proofs.SymbolsSame.{root-first, length-stays, place-inside, place-apart, record-moved, same-ends, contexts-stay, renumbered-sound, renumbered-breadth, leaves-stay}
use Rattle.model.proofs.OperationLaws.{write-accepted, TreeGot, read-accepted}

leaf_is : (m : Node) → T (is_leaf m) → m ≡ leaf
leaf_is leaf t = refl
leaf_is (split p v g l) t = absurd t

module _ {M : Meter} where
  -- ---- nothing is refused
  write-accepts : (nodes : List (Stored M)) (count : ℕ) (x : SymbolLists) → count ≤ length nodes → fault_of (tree_in count nodes) ≡ none
      → length (symbols_of (tree_in count nodes)) ≤ length x.symbols → count ≤ length x.queue
      → write_symbols nodes count x ≡ record {
        outcome = accepted (length (symbols_of (tree_in count nodes)));
        lent = record { symbols = written_over (symbols_of (tree_in count nodes)) x.symbols; queue = replicate (length x.queue) 0 };
      }
  unfolding write_symbols write_refusal
  write-accepts nodes count x inside faultless room queue = search (arith, not-below)

  read-accepts : (symbols : List Symbol) (nodes : List (Stored M)) (t : List (Record M)) → tree_read symbols ≡ some t → length t ≤ length nodes
      → read_symbols symbols nodes ≡ record { outcome = accepted (length t); lent = written_over (map stored t) nodes }
  unfolding read_symbols read_refusal
  read-accepts symbols nodes t e room = search (arith, not-below)

  -- ---- lookups and contexts
  -- what a lookup that is accepted answers
  abbrev found_in : ℕ → List (Stored M) → List ℤ → Found
  found_in count nodes ps =
      record { leaf = leaf_reached (nodes_of (tree_in count nodes)) ps; pred = (node_in count nodes (leaf_reached (nodes_of (tree_in count nodes)) ps)).info.pred }

  -- the context that is written for a node
  context-at : (count : ℕ) (nodes : List (Stored M)) (x y : ContextLists) (leaves : ℕ) → leaf_contexts nodes count x ≡ record { outcome = accepted leaves; lent = y }
      → (i : ℕ) → i < count → get_or y.contexts i 0 ≡ get_or (contexts_of (nodes_of (tree_in count nodes))) i 0
  context-at count nodes x y leaves e i h =
      let rs = tree_in count nodes in
      let (inside, faultless, _, _, exit) = contexts-passed nodes count x y leaves e in
      let long = (contexts-number (nodes_of rs) (sound rs faultless).rooted (has_root rs faultless)).as_long in
      rw exit (get_d_written (contexts_of (nodes_of rs)) x.contexts 0 i (omega (arith, same_length rs, length-tree count nodes inside)))

  -- ---- a sound tree and what is read of its symbols
  module _ (count : ℕ) (nodes : List (Stored M)) (inside : count ≤ length nodes) (faultless : fault_of (tree_in count nodes) ≡ none)
      (z : List (Stored M)) (room : count ≤ length z) (tree : tree_in count z ≡ breadth_tree (tree_in count nodes)) where
    abbrev rs : List (Record M)
    rs = tree_in count nodes

    abbrev number : ℕ → ℕ
    number i = number_in count nodes i

    n : length (nodes_of rs) ≡ count
    n = same_length rs ∙ length-tree count nodes inside

    sound-again : fault_of (tree_in count z) ≡ none
    sound-again = rw tree (renumbered-sound rs faultless)

    contexts : (a b c d : ContextLists) (leaves again : ℕ)
        → leaf_contexts nodes count a ≡ record { outcome = accepted leaves; lent = b }
        → leaf_contexts z count c ≡ record { outcome = accepted again; lent = d }
        → (again ≡ leaves) × ((i : ℕ) → i < count → get_or d.contexts (number i) 0 ≡ get_or b.contexts i 0)
    contexts a b c d leaves again e f = (
      many-again ∙ ap (λ (t : List (Record M)). leaf_count (nodes_of t)) tree ∙ leaves-stay rs faultless ∙ sym many,
      λ i h. context-at count z c d again f (number i) (rw n at (place-inside rs faultless i (rw n h)))
          ∙ rw tree (contexts-stay rs faultless i (rw n h)) ∙ sym (context-at count nodes a b leaves e i h),
    )
      where
        many : leaves ≡ leaf_count (nodes_of rs)
        many = (contexts-passed nodes count a b leaves e).3

        many-again : again ≡ leaf_count (nodes_of (tree_in count z))
        many-again = (contexts-passed z count c d again f).3

    finds : (ps : List ℤ) → length ps ≡ props_per_row → SameLeaf count nodes z ps
    finds ps w = record {
      old = found_in count nodes ps;
      found = looked_up nodes count ps inside faultless w;
      new = found_in count z ps;
      found_again = looked_up z count ps room sound-again w;
      number = same;
      predictor = ap (λ (r : Record M). r.info.pred) there;
      offset = ap (λ (r : Record M). r.info.offset) there;
      context = λ a b c d leaves again e f. rw same ((contexts a b c d leaves again e f).1 k was.inside);
    }
      where
        k : ℕ
        k = leaf_reached (nodes_of rs) ps

        was : FoundIn nodes count ps (found_in count nodes ps)
        was = lookup-accepted nodes count ps (found_in count nodes ps) (looked_up nodes count ps inside faultless w)

        same : leaf_reached (nodes_of (tree_in count z)) ps ≡ number k
        same = rw tree (same-ends rs faultless ps)

        there : node_in count z (leaf_reached (nodes_of (tree_in count z)) ps) ≡ rowless_record leaf (node_in count nodes k).info (node_in count nodes k).depth
        there = rw (same, tree) (record-moved rs faultless k (rw n was.inside) leaf (leaf_is (node_in count nodes k).node was.is_leaf))

    read-again : ReadAgain count nodes z
    read-again = record {
      tree = tree;
      sound = sound-again;
      root = root-first rs faultless;
      inside = λ i h. rw n at (place-inside rs faultless i (rw n h));
      apart = λ i k h j. place-apart rs faultless i k (rw n h) (rw n j);
      splits = λ i prop val gt le h e. rw tree (record-moved rs faultless i (rw n h) (split prop val gt le) e);
      leaves = λ i h e. rw tree (record-moved rs faultless i (rw n h) leaf e);
      in_breadth = rw tree (rw (length-tree count nodes inside) at (renumbered-breadth rs faultless));
      contexts = contexts;
      finds = finds;
    }

  -- ---- runs
  module _ (nodes : List (Stored M)) (count k : ℕ) (x y : SymbolLists) (room : List (Stored M))
      (e : write_symbols nodes count x ≡ record { outcome = accepted k; lent = y }) (few : count ≤ length room) where
    abbrev t : List (Record M)
    t = breadth_tree (tree_in count nodes)

    abbrev read_list : List (Stored M)
    read_list = written_over (map stored t) room

    inside_list : count ≤ length nodes
    inside_list = (write-passed nodes count x y k e).0

    no_fault : fault_of (tree_in count nodes) ≡ none
    no_fault = (write-passed nodes count x y k e).1

    long : length t ≡ count
    long = length-stays (tree_in count nodes) no_fault ∙ length-tree count nodes inside_list

    written-read : (read_symbols (take k y.symbols) room ≡ record { outcome = accepted count; lent = read_list }) × ReadAgain count nodes read_list
    written-read =
        let m = length-map t stored in
        let there = read-accepts (symbols_of (tree_in count nodes)) room t (written-is-read (tree_in count nodes) no_fault) (omega (arith, long)) in
        let front = tree-written t room count (omega (arith, long)) ∙ take_all count t (omega (arith, long)) in
        (rw (write-accepted nodes count x y k e).written (rw long at there), read-again count nodes inside_list no_fault read_list (omega (arith, long, length-written (map stored t) room)) front)

  module _ (symbols : List Symbol) (nodes z : List (Stored M)) (count : ℕ) (e : read_symbols symbols nodes ≡ record { outcome = accepted count; lent = z }) where
    got : TreeGot symbols nodes count z
    got = read-accepted symbols nodes z count e

    back : ReadBack symbols got.tree
    back = read-back symbols got.tree got.is_read

    read-written-back : (x : SymbolLists) → length symbols ≤ length x.symbols → count ≤ length x.queue
        → write_symbols z count x ≡ record { outcome = accepted (length symbols); lent = record { symbols = written_over symbols x.symbols; queue = replicate (length x.queue) 0 } }
    read-written-back x room queue =
        let here : count ≤ length z = omega (arith, got.answer, got.room, got.as_long) in
        rw (got.written, back.same_symbols) at (write-accepts z count x here (rw got.written back.is_sound) (rw (got.written, back.same_symbols) room) queue)

    read_tree : ReadTree count z
    read_tree = record {
      sound = rw got.written back.is_sound;
      in_breadth = rw got.written (rw (← got.answer) at back.in_breadth);
      rowless = rw got.written (λ i.
          ap (λ (l : List (Record M)). get_or l i blank_record) (sym back.rowless) ∙ get_or-map (λ (r : Record M). rowless_record r.node r.info r.depth) got.tree i blank_record);
    }

pub symbols-kept : (M : Meter) → SymbolsKept M
symbols-kept M = record { written_read = written-read; read_written = λ symbols nodes z count x e. read-written-back symbols nodes z count e x; reads = read_tree }
