-- Entries gathered one after the other, and copied back with blanks behind them. Assumes nothing.
use mathlib.Core.Path.{◌≡◌, refl, sym, ap, ◌∙◌}
use Prim.Native.Nat.{ℕ, zero, suc, ◌+◌, ◌-◌, ◌≤◌, ◌<◌}
use native.Mathlib.Numerals.{add-one}
use native.Mathlib.Omega.{arith}
use mathlib.Core.Bool.{Bool, false}
use mathlib.Core.List.{List, [], ◌∷◌, ◌++◌, map, map-append}
use lib.ListN.{length, get_or, set, take, drop, replicate}
use lib.Seq.{take-append-add, take-suc, length-take-le}
use Rattle.std.proofs.lemmas.List.{length-map, get_or-map, take-replicate, drop-replicate}
use Rattle.model.specs.Lists.{written_over}
use Rattle.model.specs.Single.{singles}
use Rattle.model.specs.Grow.{Entry, no_entry}
use Rattle.layout.specs.Records.{no_record, no_span_record}
use Rattle.layout.specs.Tree.{NodeLists, node_lists, holding, HasRoom, put, entry_record, entry_span}
use Rattle.layout.specs.declared.MaNode.{MaNode}
use Rattle.layout.specs.declared.Span.{Span}
use Rattle.layout.proofs.Held.{room-fewer, put-more, holding-none}
use Rattle.compact.specs.Moves.{record_from, entry_from, entries_from}

-- ---- the first entries are gathered
module _ (x : NodeLists) (splits : List Bool) (places order : List ℕ) where
  abbrev entry_of : ℕ → Entry singles
  entry_of i = entry_from x (get_or splits i false) places i

  pub length-entries : length (entries_from x splits places order) ≡ length order
  unfolding entries_from
  length-entries = length-map order entry_of

  pub entry-at : (q : ℕ) → q < length order → get_or (entries_from x splits places order) q no_entry ≡ entry_of (get_or order q 0)
  unfolding entries_from
  entry-at q lt = get_or-map entry_of order q 0 no_entry lt

  pub gathered_none : (y : NodeLists) → y ≡ holding (entries_from x splits places []) y
  unfolding entries_from
  gathered_none y = sym (holding-none y)

  pub gathered-more : (q : ℕ) (y z : NodeLists) → HasRoom (length order) y → q < length order → z ≡ holding (entries_from x splits places (take q order)) y
      → let i = get_or order q 0 in
      node_lists (set z.nodes q (record_from (get_or x.nodes i no_record) (get_or splits i false) places)) (set z.spans q (get_or x.spans i no_span_record))
      ≡ holding (entries_from x splits places (take (q + 1) order)) y
  unfolding entries_from put
  gathered-more q y z room lt held =
      let i : ℕ = get_or order q 0 in
      let t : List (Entry singles) = map entry_of (take q order) in
      let many : length t ≡ q = length-map (take q order) entry_of ∙ length-take-le q order (omega arith) in
      let more : map entry_of (take (q + 1) order) ≡ t ++ (entry_of i ∷ []) =
      rw add-one (ap (map entry_of) (take-suc order q 0 lt) ∙ map-append entry_of (take q order) (i ∷ [])) in
      ap (λ (l : NodeLists). put q (entry_of i) l) held
      ∙ ap (λ (k : ℕ). put k (entry_of i) (holding t y)) (sym many)
      ∙ put-more t y (entry_of i) (room-fewer room (omega arith))
      ∙ ap (λ (s : List (Entry singles)). holding s y) (sym more)

-- ---- copied back from a blank list
map-replicate : {A B : Type 0} (f : A → B) (n : ℕ) (a : A) → map f (replicate n a) ≡ replicate n (f a)
map-replicate f zero a = refl
map-replicate {A} {B} f (suc n) a = ap (λ (l : List B). f a ∷ l) (map-replicate f n a)

copied : {A : Type 0} (f : Entry singles → A) (t : List (Entry singles)) (count size : ℕ) (l : List A) → length t ≤ count → count ≤ size
    → written_over (take count (written_over (map f t) (replicate size (f no_entry)))) l ≡ written_over (map f (t ++ replicate (count - length t) no_entry)) l
copied {A} f t count size l few most =
    let b : A = f no_entry in
    let more : ℕ = count - length t in
    let long : length (map f t) ≡ length t = length-map t f in
    let whole : count ≡ length (map f t) + more = omega arith in
    let tail : List A = drop (length (map f t)) (replicate size b) in
    let all : map f (t ++ replicate more no_entry) ≡ map f t ++ replicate more b = map-append f t (replicate more no_entry) ∙ ap (λ (r : List A). map f t ++ r) (map-replicate f more no_entry) in
    let front : take count (map f t ++ tail) ≡ map f t ++ replicate more b =
    ap (λ (k : ℕ). take k (map f t ++ tail)) whole ∙ take-append-add (map f t) tail more
    ∙ ap (λ (r : List A). map f t ++ r) (ap (take more) (drop-replicate (length (map f t)) size b) ∙ take-replicate more (size - length (map f t)) b (omega arith)) in
    rw (front, all)

-- the lists, with blanks behind the entries
pub copied-back : (t : List (Entry singles)) (n count size : ℕ) (x : NodeLists) → length t ≡ n → n ≤ count → count ≤ size → {z : NodeLists} {blank : MaNode} {empty : Span}
    → blank ≡ entry_record no_entry → empty ≡ entry_span no_entry → z ≡ holding t (node_lists (replicate size blank) (replicate size empty))
    → node_lists (written_over (take count z.nodes) x.nodes) (written_over (take count z.spans) x.spans) ≡ holding (t ++ replicate (count - n) no_entry) x
unfolding holding
copied-back t n count size x many few most zeros none e =
    let nodes = copied entry_record t count size x.nodes (omega arith) most in
    let spans = copied entry_span t count size x.spans (omega arith) most in
    rw (e, zeros, none, ← many, nodes, spans)
