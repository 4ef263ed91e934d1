-- Lists that hold one tree hold another of its size over them, as if over what was lent; and what they hold goes by the records. Assumes nothing.
use mathlib.Core.Path.{◌≡◌, sym, ap, ◌∙◌}
use Prim.Native.Nat.{ℕ, ◌<◌}
use mathlib.Core.List.{List, ◌++◌, map, map-append}
use lib.ListN.{length, get_or, drop}
use lib.Seq.{drop-append_seam}
use Rattle.std.proofs.lemmas.List.{length-map}
use Rattle.model.specs.Lists.{written_over}
use Rattle.model.specs.Single.{singles}
use Rattle.model.specs.Grow.{Entry, no_entry}
use Rattle.layout.specs.Tree.{NodeLists, holding, entry_record, entry_span}
use Rattle.layout.proofs.Held.{SameCells, written_same}

module _ {A : Type 0} (part : Entry singles → A) (t u : List (Entry singles)) where
  written-again : length t ≡ length u → (lent : List A) → written_over (map part t) (written_over (map part u) lent) ≡ written_over (map part t) lent
  written-again same lent =
      let size : length (map part t) ≡ length (map part u) = length-map t part ∙ same ∙ sym (length-map u part) in
      ap (λ (l : List A). map part t ++ l) (ap (λ (k : ℕ). drop k (written_over (map part u) lent)) size
      ∙ drop-append_seam (map part u) (drop (length (map part u)) lent) ∙ ap (λ (k : ℕ). drop k lent) (sym size))

  map-front : (back : List (Entry singles)) → map part t ≡ map part u → map part (t ++ back) ≡ map part (u ++ back)
  map-front back e = map-append part t back ∙ ap (λ (l : List A). l ++ map part back) e ∙ sym (map-append part u back)

module _ (t u : List (Entry singles)) (lent : NodeLists) (many : length t ≡ length u) where
  pub held-again : holding t (holding u lent) ≡ holding t lent
  unfolding holding
  held-again = rw (written-again entry_record t u many lent.nodes, written-again entry_span t u many lent.spans)

  pub held_same : (back : List (Entry singles)) → ((i : ℕ) → i < length t → SameCells (get_or t i no_entry) (get_or u i no_entry))
      → holding (t ++ back) lent ≡ holding (u ++ back) lent
  unfolding holding
  held_same back same = rw (
    map-front entry_record t u back (written_same entry_record t u no_entry many (λ i l. (same i l).node)),
    map-front entry_span t u back (written_same entry_span t u no_entry many (λ i l. (same i l).span)),
  )
