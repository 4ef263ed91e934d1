-- Entries of the lent node list: a record that is written is read back, and so is a tree. Assumes nothing.
use mathlib.Core.Path.{◌≡◌, refl, sym, ap, ap₂, ◌∙◌}
use Prim.Native.Nat.{ℕ, ◌≤◌, ◌<◌}
use native.Mathlib.Omega.{arith}
use mathlib.Core.List.{List, [], ◌∷◌, map}
use lib.ListN.{length, get_or, take, length-map, get_or-map}
use lib.Seq.{length-take-le, get_or-take}
use Rattle.std.proofs.lemmas.List.{take-map}
use Rattle.model.specs.Lists.{written_over}
use Rattle.model.specs.Meter.{Meter}
use Rattle.model.specs.Tree.{Record, blank_record}
use Rattle.model.specs.Lent.{Stored, record_in, stored, tree_in}
use Rattle.model.proofs.Written.{take-written, get_d_written}

module _ {M : Meter} where
  read-stored : (r : Record M) → record_in (stored r) ≡ r
  read-stored r = grind arith

  read_all : (rs : List (Record M)) → map record_in (map stored rs) ≡ rs
  read_all [] = refl
  read_all (r ∷ rs) = ap₂ (λ (s : Record M) (l : List (Record M)). s ∷ l) (read-stored r) (read_all rs)

  -- ---- the tree at the front of a node list
  pub length-tree : (count : ℕ) (nodes : List (Stored M)) → count ≤ length nodes → length (tree_in count nodes) ≡ count
  length-tree count nodes h = length-map (take count nodes) record_in ∙ length-take-le count nodes h

  pub read-tree : (count : ℕ) (nodes : List (Stored M)) (k : ℕ) → k < count → get_or (tree_in count nodes) k blank_record ≡ record_in (get_or nodes k (stored blank_record))
  read-tree count nodes k h = get_or-map record_in (take count nodes) k (stored blank_record) ∙ ap record_in (get_or-take count nodes k (stored blank_record) h)

  -- ---- records that were written over the front of the list
  module _ (rs : List (Record M)) (nodes : List (Stored M)) where
    pub tree-written : (n : ℕ) → n ≤ length rs → tree_in n (written_over (map stored rs) nodes) ≡ take n rs
    tree-written n h =
        let m = length-map rs stored in
        ap (map record_in) (take-written (map stored rs) nodes n (omega arith)) ∙ sym (take-map record_in n (map stored rs)) ∙ ap (take n) (read_all rs)

    pub entry-written : (k : ℕ) → k < length rs → get_or (written_over (map stored rs) nodes) k (stored blank_record) ≡ stored (get_or rs k blank_record)
    entry-written k h = let m = length-map rs stored in get_d_written (map stored rs) nodes (stored blank_record) k (omega arith) ∙ get_or-map stored rs k blank_record

    pub record_written : (k : ℕ) → k < length rs → record_in (get_or (written_over (map stored rs) nodes) k (stored blank_record)) ≡ get_or rs k blank_record
    record_written k h = ap record_in (entry-written k h) ∙ read-stored (get_or rs k blank_record)
