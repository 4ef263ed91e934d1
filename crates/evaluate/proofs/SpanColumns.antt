-- The properties of a span's rows, read from the flat list. Assumes nothing.
use mathlib.Core.Path.{◌≡◌, refl, sym, ap, ◌∙◌}
use mathlib.Core.Bool.{Bool, ◌&&◌}
use mathlib.Core.List.{List, [], ◌∷◌, map}
use Prim.Native.Nat.{ℕ, zero, suc, ◌+◌, ◌-◌, ◌*◌, ◌≤◌, ◌<◌}
use native.Mathlib.Omega.{arith}
use lib.IntN.{ℤ, pos}
use lib.ListN.{length, get_or}
use lib.Seq.{slice, slice_empty, slice-cons}
use Rattle.model.specs.Lists.{range, all, eq_z}
use Rattle.model.specs.Rows.{Row, prop_of, rows_of}
use Rattle.model.specs.Promise.{no_row}
use Rattle.model.proofs.Places.{length_rows_of, property-at}
use Rattle.candidates.specs.Column.{column}
use Rattle.evaluate.specs.Order.{equal_columns}
use Rattle.evaluate.specs.Evaluated.{span_rows}

module _ {A : Type 0} (f : Row → A) (g : ℕ → A) (l : List Row) (end : ℕ) (fits : end ≤ length l) (same : (i : ℕ) → i < end → f (get_or l i no_row) ≡ g i) where
  map-span : (n first : ℕ) → first + n ≡ end → map f (slice first end l) ≡ map g (range first n)
  map-span zero first e = let z : first ≡ end = omega arith in rw (z, slice_empty end l)
  map-span (suc n) first e =
      let h : first < end = omega arith in
      ap (map f) (slice-cons first end l no_row h fits)
      ∙ (λ i. same first h i ∷ map-span n (suc first) (omega arith) i)

all_map : {A : Type 0} (p : A → Bool) (l : List A) → all p l ≡ all (λ (b : Bool). b) (map p l)
all_map p [] = refl
all_map p (x ∷ xs) = ap (λ (b : Bool). p x && b) (all_map p xs)

module _ (ps : List ℤ) (tok : List ℕ) (first end rows : ℕ) (rs : List ℤ) (order : first ≤ end) (inside : end ≤ rows) where
  abbrev mine : List Row
  mine = span_rows first end ps tok rows rs

  span-map : {A : Type 0} (f : Row → A) (g : ℕ → A) → ((i : ℕ) → i < end → f (get_or (rows_of rows ps tok rs) i no_row) ≡ g i)
      → map f mine ≡ map g (range first (end - first))
  span-map f g same =
      let fits : end ≤ length (rows_of rows ps tok rs) = omega (arith, length_rows_of rows ps tok rs) in
      let e : first + (end - first) ≡ end = omega arith in
      map-span f g (rows_of rows ps tok rs) end fits same (end - first) first e

  cell_at : (q i : ℕ) → q < 24 → i < end → prop_of (get_or (rows_of rows ps tok rs) i no_row) q ≡ get_or ps (i * 24 + q) (pos 0)
  cell_at q i k h = property-at rows ps tok rs i q (omega arith) k

  -- a property's values
  pub span-column : (q : ℕ) → q < 24 → map (λ (r : Row). prop_of r q) mine ≡ column ps q first end
  unfolding column
  span-column q k = span-map (λ (r : Row). prop_of r q) (λ (row : ℕ). get_or ps (row * 24 + q) (pos 0)) (λ i h. cell_at q i k h)

  -- two properties that are equal in each row
  pub span_equal : (a b : ℕ) → a < 24 → b < 24 → all (λ (r : Row). eq_z (prop_of r a) (prop_of r b)) mine ≡ equal_columns ps first end a b
  unfolding equal_columns
  span_equal a b ha hb =
      let p : Row → Bool = λ (r : Row). eq_z (prop_of r a) (prop_of r b) in
      let g : ℕ → Bool = λ (row : ℕ). eq_z (get_or ps (row * 24 + a) (pos 0)) (get_or ps (row * 24 + b) (pos 0)) in
      all_map p mine
      ∙ ap (all (λ (b : Bool). b)) (span-map p g (λ i h. rw (cell_at a i ha h, cell_at b i hb h)))
      ∙ sym (all_map g (range first (end - first)))
