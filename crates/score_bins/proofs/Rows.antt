-- The span's rows as chunks of its parts of the flat lists. Assumes nothing.
use mathlib.Core.Path.{◌≡◌, sym, ap, ◌∙◌}
use mathlib.Core.List.{List, [], ◌∷◌, ◌++◌}
use Prim.Native.Nat.{ℕ, ◌+◌, ◌-◌, ◌*◌, ◌≤◌, ◌<◌}
use native.Mathlib.Nat.{add-mul, mul-le-mul_right}
use native.Mathlib.Omega.{arith}
use lib.ListN.{length, get_or, take, drop, length-take, length-drop, length-append}
use lib.Seq.{take_at, drop_at, drop-drop, get_or-take, get_or-drop}

-- what comes after n chunks of m
pub record Chunk {A : Type 0} (d : A) (m : ℕ) (xs : List A) (n : ℕ) (x ys : List A) : Type 0 where
  pub there : n * m + m ≤ length xs
  pub at : (i : ℕ) → i < m → get_or x i d ≡ get_or xs (n * m + i) d
  pub left : ys ≡ drop ((n + 1) * m) xs

pub chunk : {A : Type 0} (d : A) (m : ℕ) (xs : List A) (n : ℕ) (x ys : List A) → 0 < m → drop (n * m) xs ≡ x ++ ys → length x ≡ m → Chunk d m xs n x ys
chunk d m xs n x ys some e l =
    let next : n * m + m ≡ (n + 1) * m = omega (arith, add-mul n 1 m) in record {
      there = omega (arith, length-drop (n * m) xs, ap length e, length-append x ys);
      at = λ i h.
          ap (λ (l : List _). get_or l i d) (sym (take_at x ys m l)) ∙ get_or-take m (x ++ ys) i d h ∙ ap (λ (l : List _). get_or l i d) (sym e) ∙ get_or-drop (n * m) xs i d;
      left = sym (drop_at x ys m l) ∙ ap (drop m) (sym e) ∙ drop-drop m (n * m) xs ∙ ap (λ (k : ℕ). drop k xs) next;
    }

-- the span's part of a flat list of rows of m
module _ {A : Type 0} (d : A) (m : ℕ) (xs : List A) (first end : ℕ) (order : first ≤ end) where
  pub part_at : (k : ℕ) → k * m + m ≤ end * m - first * m → (i : ℕ) → i < m
      → get_or (take (end * m - first * m) (drop (first * m) xs)) (k * m + i) d ≡ get_or xs ((first + k) * m + i) d
  part_at k h i l =
      let e : first * m + (k * m + i) ≡ (first + k) * m + i = omega (arith, add-mul first k m) in
      get_or-take (end * m - first * m) (drop (first * m) xs) (k * m + i) d (omega arith) ∙ get_or-drop (first * m) xs (k * m + i) d ∙ ap (λ (j : ℕ). get_or xs j d) e

  pub part-length : end * m ≤ length xs → length (take (end * m - first * m) (drop (first * m) xs)) ≡ end * m - first * m
  part-length h = length-take (end * m - first * m) (drop (first * m) xs) ∙ omega (arith, length-drop (first * m) xs, mul-le-mul_right m order)

pub yielded-more : {A : Type 0} (xs : List A) (x : A) → length (xs ++ x ∷ []) ≡ length xs + 1
yielded-more xs x = length-append xs (x ∷ [])
