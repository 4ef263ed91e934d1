-- What is read of symbols is a sound tree, numbered breadth first, with a rowless seed's records, and is written back to the same symbols. Assumes nothing.
-- Facts of what is read go by induction over how it was read (`Reads`): a split's children come behind all that are due, so they rise from split to split, and each comes once, at the depth that it was due at.
use mathlib.Core.Path.{◌≡◌, refl, ap, ◌∙◌}
use mathlib.Core.Logic.{inl, inr}
use Prim.Native.Nat.{ℕ, zero, suc, ◌+◌, ◌≤◌, ◌<◌}
use native.Mathlib.Nat.{lt_irrefl, add-zero}
use native.Mathlib.Numerals.{add-one}
use native.Mathlib.Omega.{arith}
use native.Mathlib.Decide.{ℕ_discrete}
use mathlib.Core.Bool.{true}
use mathlib.Core.List.{List, [], ◌∷◌, ◌++◌, map, append-nil}
use mathlib.Core.Option.{Option, none, some}
use lib.ListN.{length, get_or, length-append, get_or-append}
use lib.Seq.{append_snoc, get_or-append_seam, get_or-append-add}
use lib.IntN.{ℤ}
use lib.Dec.{lt→ltb}
use borrow.Author.Tests.{eqb-true, ltb-true}
use Rattle.model.specs.Lists.{range}
use Rattle.model.specs.Meter.{Meter}
use Rattle.model.specs.Settings.{props_per_row, toks_per_row, max_nodes}
use Rattle.model.specs.Standard.{property_context, symbol, decision_symbols, leaf_symbols}
use Rattle.model.specs.Pack.{packed}
use Rattle.model.specs.Tree.{Node, split, leaf, Info, Record, no_info, blank_record, nodes_of, fault_of}
use Rattle.model.specs.Contexts.{breadth_from, breadth_order}
use Rattle.model.specs.Symbols.{record_symbols, symbols_along, symbols_of, rowless_record}
use Rattle.model.specs.Symbols.{FirstNode, no_node, first_split, first_leaf, is_in, split_from, leaf_from, first_node, with_first, at_end, with_children, read_on, nodes_read, tree_read}
use Rattle.model.specs.Family.{Forward, ChildOf, Child, Twins, Deep}
use Rattle.model.specs.Kept.{FieldsFit}
use Rattle.model.specs.Depths.{depth_in}
use Rattle.model.specs.declared.Symbol.{Symbol}
use Rattle.model.proofs.Invariant.{none_is_no_some}
use Rattle.model.proofs.Sound.{Rooted, same_length, sound-faultless}
use Rattle.model.proofs.Tests.{and-true}
use Rattle.model.proofs.Packing.{packed_unpack}

-- ---- behind a split two more are due
pub two-longer : (depth : ℕ) (due : List ℕ) → length (with_children depth due) ≡ suc (suc (length due))
two-longer depth due = omega (arith, length-append due (suc depth ∷ suc depth ∷ []))

-- ---- more nodes due than may come
module _ {M : Meter} where
  pub too-many : (most size : ℕ) (due : List ℕ) (xs : List Symbol) → most < length due → nodes_read {M = M} most size due xs ≡ none
  unfolding nodes_read
  too-many most size [] xs h = absurd (omega arith)
  too-many zero size (depth ∷ due) xs h = refl
  too-many (suc most) size (depth ∷ due) xs h = go (first_node xs) (too-many most (suc size))
    where
      go : (n : FirstNode) → ((d : List ℕ) (rest : List Symbol) → most < length d → nodes_read {M = M} most (suc size) d rest ≡ none)
          → read_on {M = M} (λ (d : List ℕ) (rest : List Symbol). nodes_read most (suc size) d rest) size depth due n ≡ none
      go no_node ih = refl
      go (first_split prop val rest) ih = search (arith, length-append)
      go (first_leaf pred offset rest) ih = rw (ih due rest (omega arith))

-- ---- the first node
-- what it says of the symbols
abbrev pub Says : FirstNode → List Symbol → Type 0
Says no_node xs = Unit {0}
Says (first_split prop val rest) xs = (xs ≡ decision_symbols prop (packed val) ++ rest) × (prop < props_per_row)
Says (first_leaf pred offset rest) xs = (xs ≡ leaf_symbols pred (packed offset) 0 0 ++ rest) × (pred < toks_per_row)

in_context : (context : ℕ) (s : Symbol) → is_in context s ≡ true → s ≡ symbol context s.value
in_context context s e = ap (λ (c : ℕ). symbol c s.value) (eqb-true s.context context e)

split-says : (s : Symbol) (prop : ℕ) (rest : List Symbol) → s ≡ symbol property_context (suc prop) → Says (split_from prop rest) (s ∷ rest)
split-says s prop [] e = tt
split-says s prop (v ∷ rest) e = search (arith, in_context, and-true, packed_unpack, ltb-true)

leaf-says : (s : Symbol) (rest : List Symbol) → s ≡ symbol property_context 0 → Says (leaf_from rest) (s ∷ rest)
leaf-says s [] e = tt
leaf-says s (p ∷ []) e = tt
leaf-says s (p ∷ o ∷ []) e = tt
leaf-says s (p ∷ o ∷ l ∷ []) e = tt
leaf-says s (p ∷ o ∷ l ∷ b ∷ rest) e = grind (arith, in_context, and-true, packed_unpack, ltb-true, eqb-true)

pub first-says : (xs : List Symbol) → Says (first_node xs) xs
first-says [] = tt
first-says (s ∷ rest) = search (arith, in_context, split-says, leaf-says)

own-child : (size left prop : ℕ) (val : ℤ) (c : ℕ) → ChildOf (split prop val (size + left + 1) (size + left + 2)) c → c ≤ size + left + 2
own-child size left prop val c (inl e) = omega arith
own-child size left prop val c (inr e) = omega arith

range_two : (first n : ℕ) → range first n ++ ((first + n) ∷ (first + n + 1) ∷ []) ≡ range first (suc (suc n))
range_two first zero = rw (add-zero, add-one)
range_two first (suc n) = let a : first + suc n ≡ suc first + n = omega arith in rw a (ap (λ (l : List ℕ). first ∷ l) (range_two (suc first) n))

two-due : (size depth : ℕ) (due : List ℕ) → range (suc size) (length due) ++ ((size + length due + 1) ∷ (size + length due + 2) ∷ []) ≡ range (suc size) (length (due ++ (suc depth ∷ suc depth ∷ [])))
two-due size depth due =
    let g : size + length due + 1 ≡ suc size + length due = omega arith in
    let l : size + length due + 2 ≡ suc size + length due + 1 = omega arith in
    rw (g, l, two-longer depth due) (range_two (suc size) (length due))

module _ (prior : List Node) (m : Node) (size : ℕ) (e : length prior ≡ size) where
  node_after : (ns : List Node) → get_or (prior ++ m ∷ ns) size leaf ≡ m
  node_after ns = rw (← e) (get_or-append_seam prior m ns leaf)

  longer : length (prior ++ (m ∷ [])) ≡ suc size
  longer = omega (arith, length-append prior (m ∷ []))

-- ---- a whole list: how it was read, node by node
module _ {M : Meter} where
  -- what a leaf that is read has beside it
  abbrev read_info : ℕ → ℤ → Info M
  read_info pred offset = record { cost = M.nought; pred = pred; offset = offset }

  -- `size` nodes were read, and those due lie at these depths: these symbols are these nodes
  pub data Reads : ℕ → List ℕ → List Symbol → List (Record M) → Type 0 where
    at-end : {size : ℕ} → Reads size [] [] []
    a_split : {size depth prop : ℕ} {due : List ℕ} {val : ℤ} {xs : List Symbol} {rs : List (Record M)} → prop < props_per_row
        → Reads (suc size) (with_children depth due) xs rs
        → Reads size (depth ∷ due) (decision_symbols prop (packed val) ++ xs)
        (rowless_record (split prop val (size + length due + 1) (size + length due + 2)) no_info depth ∷ rs)
    a_leaf : {size depth pred : ℕ} {due : List ℕ} {offset : ℤ} {xs : List Symbol} {rs : List (Record M)} → pred < toks_per_row → Reads (suc size) due xs rs
        → Reads size (depth ∷ due) (leaf_symbols pred (packed offset) 0 0 ++ xs) (rowless_record leaf (read_info pred offset) depth ∷ rs)

  read-end : (due : List ℕ) (size most : ℕ) (xs : List Symbol) (rs : List (Record M)) → at_end due xs ≡ some rs → Reads size due xs rs × (length rs ≤ most)
  read-end [] size most [] rs e = let q : [] ≡ rs = cc in rw (← q) (at-end, omega arith)
  read-end [] size most (s ∷ xs) rs e = absurd (none_is_no_some rs e)
  read-end (depth ∷ due) size most xs rs e = absurd (none_is_no_some rs e)

  -- the rest was read too
  with_rest : (r : Record M) (o : Option (List (Record M))) (rs : List (Record M)) → with_first r o ≡ some rs → (ts : List (Record M)) × (o ≡ some ts) × (r ∷ ts ≡ rs)
  with_rest r none rs e = absurd (none_is_no_some rs e)
  with_rest r (some ts) rs e = (ts, refl, cc)

  pub reads : (most size : ℕ) (due : List ℕ) (xs : List Symbol) (rs : List (Record M)) → nodes_read most size due xs ≡ some rs → Reads size due xs rs × (length rs ≤ most)
  unfolding nodes_read
  reads zero size due xs rs e = read-end due size 0 xs rs e
  reads (suc most) size [] xs rs e = read-end [] size (suc most) xs rs e
  reads (suc most) size (depth ∷ due) xs rs e = go (first_node xs) (first-says xs) e (reads most (suc size))
    where
      go : (n : FirstNode) → Says n xs → read_on (λ (d : List ℕ) (rest : List Symbol). nodes_read most (suc size) d rest) size depth due n ≡ some rs
          → ((d : List ℕ) (rest : List Symbol) (ts : List (Record M)) → nodes_read most (suc size) d rest ≡ some ts → Reads (suc size) d rest ts × (length ts ≤ most))
          → Reads size (depth ∷ due) xs rs × (length rs ≤ suc most)
      go no_node s e ih = absurd (none_is_no_some rs e)
      go (first_split prop val rest) s e ih =
          let two = with_children depth due in
          let (ts, q, z) = with_rest _ (nodes_read most (suc size) two rest) rs e in
          let (r, few) = ih two rest ts q in
          rw (← z, s.0) (a_split s.1 r, omega arith)
      go (first_leaf pred offset rest) s e ih =
          let (ts, q, z) = with_rest _ (nodes_read most (suc size) due rest) rs e in
          let (r, few) = ih due rest ts q in
          rw (← z, s.0) (a_leaf s.1 r, omega arith)

  -- ---- the symbols, node by node
  -- of all records, in the list's order
  abbrev said : List (Record M) → List Symbol
  said [] = []
  said (r ∷ rs) = record_symbols r ++ said rs

  said-again : {size : ℕ} {due : List ℕ} {xs : List Symbol} {rs : List (Record M)} → Reads size due xs rs → said rs ≡ xs
  said-again at-end = refl
  said-again (a_split {prop} {val} h r) = ap (λ (l : List Symbol). decision_symbols prop (packed val) ++ l) (said-again r)
  said-again (a_leaf {pred} {offset} h r) = ap (λ (l : List Symbol). leaf_symbols pred (packed offset) 0 0 ++ l) (said-again r)

  -- the records are a rowless seed's
  rowless-again : {size : ℕ} {due : List ℕ} {xs : List Symbol} {rs : List (Record M)} → Reads size due xs rs → map (λ (r : Record M). rowless_record r.node r.info r.depth) rs ≡ rs
  rowless-again at-end = refl
  rowless-again (a_split h r) = rw (rowless-again r)
  rowless-again (a_leaf h r) = rw (rowless-again r)

  pub enough : {size : ℕ} {due : List ℕ} {xs : List Symbol} {rs : List (Record M)} → Reads size due xs rs → length due ≤ length rs
  enough at-end = omega arith
  enough (a_split {depth} {due} h r) = omega (arith, enough r, two-longer depth due)
  enough (a_leaf h r) = let e = enough r in omega arith

  -- ---- children: numbers that rise, each once
  low-children : {size : ℕ} {due : List ℕ} {xs : List Symbol} {rs : List (Record M)} → Reads size due xs rs
      → (k c : ℕ) → Child (nodes_of rs) k c → (size + length due ≤ c) × (c < size + length rs) × (size + k < c)
  low-children at-end k c h = absurd h
  low-children (a_split {size} {depth} {due} p r) zero c (inl e) = let n = enough r in let two = two-longer depth due in (omega arith, omega arith, omega arith)
  low-children (a_split {size} {depth} {due} p r) zero c (inr e) = let n = enough r in let two = two-longer depth due in (omega arith, omega arith, omega arith)
  low-children (a_split {size} {depth} {due} p r) (suc k) c h = let i = low-children r k c h in let two = two-longer depth due in (omega arith, omega arith, omega arith)
  low-children (a_leaf {size} {due} p r) zero c h = absurd h
  low-children (a_leaf {size} {due} p r) (suc k) c h = let i = low-children r k c h in (omega arith, omega arith, omega arith)

  one_parent : {size : ℕ} {due : List ℕ} {xs : List Symbol} {rs : List (Record M)} → Reads size due xs rs → (a b c : ℕ) → Child (nodes_of rs) a c → Child (nodes_of rs) b c → a ≡ b
  one_parent at-end a b c h k = absurd h
  one_parent (a_split p r) zero zero c h k = refl
  one_parent (a_split {size} {depth} {prop} {due} {val} p r) zero (suc b) c h k =
      absurd (lt_irrefl c (omega (arith, (low-children r b c k).0, two-longer depth due, own-child size (length due) prop val c h)))
  one_parent (a_split {size} {depth} {prop} {due} {val} p r) (suc a) zero c h k =
      absurd (lt_irrefl c (omega (arith, (low-children r a c h).0, two-longer depth due, own-child size (length due) prop val c k)))
  one_parent (a_split p r) (suc a) (suc b) c h k = ap suc (one_parent r a b c h k)
  one_parent (a_leaf p r) zero b c h k = absurd h
  one_parent (a_leaf p r) (suc a) zero c h k = absurd k
  one_parent (a_leaf p r) (suc a) (suc b) c h k = ap suc (one_parent r a b c h k)

  parent-of : {size : ℕ} {due : List ℕ} {xs : List Symbol} {rs : List (Record M)} → Reads size due xs rs → (c : ℕ) → size + length due ≤ c → c < size + length rs → (a : ℕ) × Child (nodes_of rs) a c
  parent-of at-end c low high = absurd (lt_irrefl c (omega arith))
  parent-of (a_split {size} {depth} {due} p r) c low high = elim (ℕ_discrete c (size + length due + 1)) [
    | yes e ↦ (0, inl e)
    | no ne ↦ elim (ℕ_discrete c (size + length due + 2)) [
      | yes e ↦ (0, inr e)
      | no nf ↦ (let (a, q) = parent-of r c (omega (arith, two-longer depth due)) (omega arith) in (suc a, q))
    ]
  ]
  parent-of (a_leaf {size} {due} p r) c low high = let (a, q) = parent-of r c (omega arith) (omega arith) in (suc a, q)

  twins : {size : ℕ} {due : List ℕ} {xs : List Symbol} {rs : List (Record M)} → Reads size due xs rs → (a : ℕ) → Twins (get_or (nodes_of rs) a leaf)
  twins at-end a = tt
  twins (a_split {size} {due} p r) zero = λ (e : size + length due + 1 ≡ size + length due + 2). lt_irrefl (size + length due + 1) (omega arith)
  twins (a_split p r) (suc a) = twins r a
  twins (a_leaf p r) zero = tt
  twins (a_leaf p r) (suc a) = twins r a

  fits : {size : ℕ} {due : List ℕ} {xs : List Symbol} {rs : List (Record M)} → Reads size due xs rs → (k : ℕ) → k < length rs → FieldsFit (get_or rs k blank_record).node (get_or rs k blank_record).info.pred
  fits at-end k h = absurd (lt_irrefl k (omega arith))
  fits (a_split p r) zero h = lt→ltb _ _ p
  fits (a_split p r) (suc k) h = fits r k (omega arith)
  fits (a_leaf p r) zero h = lt→ltb _ _ p
  fits (a_leaf p r) (suc k) h = fits r k (omega arith)

  -- ---- depths: each node due comes at its depth, so a split's children come one deeper
  due-at : {size : ℕ} {due : List ℕ} {xs : List Symbol} {rs : List (Record M)} → Reads size due xs rs → (m : ℕ) → m < length due → depth_in rs m ≡ get_or due m 0
  due-at at-end m h = absurd (lt_irrefl m (omega arith))
  due-at (a_split p r) zero h = refl
  due-at (a_split {depth} {due} p r) (suc m) h =
      due-at r m (omega (arith, two-longer depth due)) ∙ get_or-append due (suc depth ∷ suc depth ∷ []) 0 m (omega arith)
  due-at (a_leaf p r) zero h = refl
  due-at (a_leaf p r) (suc m) h = due-at r m (omega arith)

  -- a split's two
  two-at : {size : ℕ} (depth : ℕ) (due : List ℕ) {xs : List Symbol} {rs : List (Record M)} → Reads size (with_children depth due) xs rs → (k : ℕ) → k < 2
      → (m : ℕ) → m ≡ length due + k → depth_in rs m ≡ suc depth
  two-at depth due r k low m e = rw e (due-at r (length due + k) (omega (arith, two-longer depth due)) ∙ get_or-append-add due (suc depth ∷ suc depth ∷ []) k 0 ∙ both k low)
    where
      both : (k : ℕ) → k < 2 → get_or (suc depth ∷ suc depth ∷ []) k 0 ≡ suc depth
      both zero low = refl
      both (suc zero) low = refl
      both (suc (suc k)) low = absurd (omega arith)

  one-deeper : {size : ℕ} {due : List ℕ} {xs : List Symbol} {rs : List (Record M)} → Reads size due xs rs → (a c m : ℕ) → c ≡ size + m → Child (nodes_of rs) a c
      → depth_in rs m ≡ suc (depth_in rs a)
  one-deeper at-end a c m e h = absurd h
  one-deeper (a_split p r) zero c zero e (inl q) = absurd (lt_irrefl c (omega arith))
  one-deeper (a_split p r) zero c zero e (inr q) = absurd (lt_irrefl c (omega arith))
  one-deeper (a_split {depth} {due} p r) zero c (suc m) e (inl q) = two-at depth due r 0 (omega arith) m (omega arith)
  one-deeper (a_split {depth} {due} p r) zero c (suc m) e (inr q) = two-at depth due r 1 (omega arith) m (omega arith)
  one-deeper (a_split {size} p r) (suc a) c zero e h = absurd (lt_irrefl c (omega (arith, (low-children r a c h).0)))
  one-deeper (a_split {size} p r) (suc a) c (suc m) e h = one-deeper r a c m (omega arith) h
  one-deeper (a_leaf p r) zero c m e h = absurd h
  one-deeper (a_leaf {size} p r) (suc a) c zero e h = absurd (lt_irrefl c (omega (arith, (low-children r a c h).0)))
  one-deeper (a_leaf {size} p r) (suc a) c (suc m) e h = one-deeper r a c m (omega arith) h

  -- ---- what is read is a sound tree
  module _ (xs : List Symbol) (rs : List (Record M)) (r : Reads 0 (0 ∷ []) xs rs) where
    abbrev nodes : List Node
    nodes = nodes_of rs

    forward : (i : ℕ) → i < length nodes → Forward (length nodes) i (get_or nodes i leaf)
    forward i h = go (get_or nodes i leaf) (low-children r i)
      where
        go : (m : Node) → ((c : ℕ) → ChildOf m c → (1 ≤ c) × (c < 0 + length rs) × (0 + i < c)) → Forward (length nodes) i m
        go leaf f = tt
        go (split p v g l) f = let a = f g (inl refl) in let b = f l (inr refl) in let n = same_length rs in (omega arith, omega arith, omega arith, omega arith)

    rooted : Rooted nodes
    rooted = record {
      family = record { forward = forward; one_parent = one_parent r; two_children = twins r };
      parents = λ k pos h. parent-of r k (omega arith) (omega (arith, same_length rs));
    }

    deep : Deep nodes (depth_in rs)
    deep = record { root = due-at r 0 (omega arith); child = λ a c h. one-deeper r a c c (omega arith) h }

    read-sound : length rs ≤ max_nodes → fault_of rs ≡ none
    read-sound few = sound-faultless rs (record { rooted = rooted; deep = deep; fits = fits r }) (enough r) few

  -- ---- and numbered breadth first
  in_order : {size : ℕ} {due : List ℕ} {xs : List Symbol} {rs : List (Record M)} → Reads size due xs rs → (prior : List Node) → length prior ≡ size → (fuel : ℕ) → length rs ≤ fuel
      → breadth_from fuel (prior ++ nodes_of rs) (range size (length due)) ≡ range size (length rs)
  unfolding breadth_from
  in_order at-end prior e zero h = refl
  in_order at-end prior e (suc fuel) h = refl
  in_order (a_split p r) prior e zero h = absurd (omega arith)
  in_order (a_split {size} {depth} {prop} {due} {val} {rs} p r) prior e (suc fuel) h =
      let m : Node = split prop val (size + length due + 1) (size + length due + 2) in
      let ih = in_order r (prior ++ (m ∷ [])) (longer prior m size e) fuel (omega arith) in
      ap (λ (k : List ℕ). size ∷ k) (rw (node_after prior m size e (nodes_of rs), two-due size depth due, ← append_snoc prior m (nodes_of rs)) ih)
  in_order (a_leaf p r) prior e zero h = absurd (omega arith)
  in_order (a_leaf {size} {due} {rs} p r) prior e (suc fuel) h =
      let ih = in_order r (prior ++ (leaf ∷ [])) (longer prior leaf size e) fuel (omega arith) in
      ap (λ (k : List ℕ). size ∷ k) (rw (node_after prior leaf size e (nodes_of rs), append-nil (range (suc size) (length due)), ← append_snoc prior leaf (nodes_of rs)) ih)

  -- each number's record, in the list's own order
  in_place : (prior rs : List (Record M)) → symbols_along (prior ++ rs) (range (length prior) (length rs)) ≡ said rs
  unfolding symbols_along
  in_place prior [] = refl
  in_place prior (r ∷ rs) =
      let one : length (prior ++ (r ∷ [])) ≡ suc (length prior) = omega (arith, length-append prior (r ∷ [])) in
      let ih = rw (append_snoc prior r rs, one) at (in_place (prior ++ (r ∷ [])) rs) in
      rw (get_or-append_seam prior r rs blank_record) (ap (λ (l : List Symbol). record_symbols r ++ l) ih)

  -- ---- a list that the reader accepts: the tree is sound, and is written back to the same symbols
  pub record ReadBack (xs : List Symbol) (t : List (Record M)) : Type 0 where
    pub is_sound : fault_of t ≡ none
    pub same_symbols : symbols_of t ≡ xs
    -- its nodes stand in the order in which a breadth-first walk visits them
    pub in_breadth : breadth_order (nodes_of t) ≡ range 0 (length t)
    -- its records are a rowless seed's
    pub rowless : map (λ (r : Record M). rowless_record r.node r.info r.depth) t ≡ t

  pub read-back : (xs : List Symbol) (t : List (Record M)) → tree_read xs ≡ some t → ReadBack xs t
  unfolding tree_read symbols_of breadth_order
  read-back xs t e =
      let (r, few) = reads max_nodes 0 (0 ∷ []) xs t e in
      let order : breadth_from (length (nodes_of t)) (nodes_of t) (0 ∷ []) ≡ range 0 (length t) = in_order r [] refl (length (nodes_of t)) (omega (arith, same_length t)) in
      record { is_sound = read-sound xs t r few; same_symbols = rw order (in_place [] t) ∙ said-again r; in_breadth = order; rowless = rowless-again r }
