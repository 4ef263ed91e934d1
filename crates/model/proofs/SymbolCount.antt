-- How many symbols a tree has: two a split, five a leaf. Assumes nothing.
use mathlib.Core.Path.{◌≡◌, refl, ap}
use Prim.Native.Nat.{ℕ, ◌+◌, ◌*◌, ◌<◌}
use native.Mathlib.Omega.{arith}
use mathlib.Core.Bool.{cond}
use mathlib.Core.List.{List, [], ◌∷◌, ◌++◌}
use mathlib.Core.Option.{none}
use lib.ListN.{length, get_or, length-append}
use Rattle.std.proofs.Math.ListN.{get_or-map}
use Rattle.model.specs.Lists.{count_if}
use Rattle.model.specs.Meter.{Meter}
use Rattle.model.specs.Tree.{Node, split, leaf, is_leaf, Info, Record, blank_record, nodes_of, fault_of}
use Rattle.model.specs.Learn.{leaf_count}
use Rattle.model.specs.Contexts.{breadth_order}
use Rattle.model.specs.Symbols.{symbols_for, record_symbols, symbols_along, symbols_of}
use Rattle.model.proofs.Sound.{sound, sound-count, same_length}
use Rattle.model.proofs.Tally.{tree-count}
use Rattle.model.proofs.BreadthFirst.{leaf_at, order-length, order-leaves}

module _ {M : Meter} where
  for-length : (n : Node) (i : Info M) → length (symbols_for n i) ≡ 2 + 3 * cond (is_leaf n) 1 0
  for-length (split prop val gt le) i = refl
  for-length leaf i = refl

  module _ (rs : List (Record M)) where
    -- ---- along an order: none are left, and one node more
    pub symbols_end : symbols_along rs [] ≡ []
    unfolding symbols_along
    symbols_end = refl

    pub symbols-more : (i : ℕ) (order : List ℕ) → symbols_along rs (i ∷ order) ≡ record_symbols (get_or rs i blank_record) ++ symbols_along rs order
    unfolding symbols_along
    symbols-more i order = refl

    along-length : (order : List ℕ) → length (symbols_along rs order) ≡ 2 * length order + 3 * count_if (leaf_at (nodes_of rs)) order
    along-length [] = ap length symbols_end
    along-length (i ∷ order) =
        let r : Record M = get_or rs i blank_record in
        let node : get_or (nodes_of rs) i leaf ≡ r.node = get_or-map (λ (r : Record M). r.node) rs i blank_record in
        rw node (omega (arith, ap length (symbols-more i order), length-append (record_symbols r) (symbols_along rs order), for-length r.node r.info, along-length order))

    -- ---- of a sound tree
    pub symbols-count : fault_of rs ≡ none → length (symbols_of rs) + 2 ≡ 7 * leaf_count (nodes_of rs)
    unfolding symbols_of
    symbols-count is =
        let t = (sound rs is).rooted in
        let some : 0 < length (nodes_of rs) = rw (same_length rs) (sound-count rs is).0 in
        omega (
          arith,
          along-length (breadth_order (nodes_of rs)),
          order-length (nodes_of rs) t some,
          order-leaves (nodes_of rs) t some,
          tree-count (nodes_of rs) t some,
        )
