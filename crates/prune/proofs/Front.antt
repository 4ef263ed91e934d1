-- Lists that hold entries hold the first of them too, over themselves: so a pruned tree stands in the lists without the entries that it vacated.
-- Assumes nothing.
use mathlib.Core.Path.{◌≡◌, sym, ap, ◌∙◌}
use Prim.Native.Nat.{◌≤◌}
use native.Mathlib.Omega.{arith}
use mathlib.Core.List.{List, ◌++◌, append_assoc, map, map-append}
use lib.ListN.{length, drop, length-append}
use lib.Seq.{drop-append_seam}
use Rattle.std.proofs.lemmas.List.{length-map}
use Rattle.model.specs.Lists.{written_over}
use Rattle.model.specs.Single.{singles}
use Rattle.model.specs.Grow.{Entry}
use Rattle.layout.specs.Tree.{NodeLists, holding, HasRoom, entry_record, entry_span}

module _ {A : Type 0} (part : Entry singles → A) (front back : List (Entry singles)) (lent : List A) where
  abbrev whole : List A
  whole = written_over (map part (front ++ back)) lent

  abbrev rest : List A
  rest = map part back ++ drop (length (map part (front ++ back))) lent

  parts : whole ≡ map part front ++ rest
  parts =
      ap (λ (l : List A). l ++ drop (length (map part (front ++ back))) lent) (map-append part front back)
      ∙ append_assoc (map part front) (map part back) (drop (length (map part (front ++ back))) lent)

  first-over : whole ≡ written_over (map part front) whole
  first-over = parts ∙ ap (λ (l : List A). map part front ++ l) (sym (ap (drop (length (map part front))) parts ∙ drop-append_seam (map part front) rest))

  first-room : length front ≤ length whole
  first-room = let a = ap length parts in let b = length-append (map part front) rest in let c = length-map front part in omega arith

module _ (front back : List (Entry singles)) (lent : NodeLists) where
  pub front-held : holding (front ++ back) lent ≡ holding front (holding (front ++ back) lent)
  unfolding holding
  front-held = λ j. record { nodes = first-over entry_record front back lent.nodes j; spans = first-over entry_span front back lent.spans j }

  pub front-room : HasRoom (length front) (holding (front ++ back) lent)
  unfolding holding
  front-room = record { nodes = first-room entry_record front back lent.nodes; spans = first-room entry_span front back lent.spans }
