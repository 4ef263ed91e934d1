-- A walk over the rows of a flat list by whole chunks: what is left from a row on, the next row, and where the walk ends. Assumes nothing.
use mathlib.Core.Path.{◌≡◌, sym, ap, ◌∙◌}
use mathlib.Core.List.{List, ◌++◌}
use Prim.Native.Nat.{ℕ, ◌+◌, ◌-◌, ◌*◌, ◌≤◌, ◌<◌}
use native.Mathlib.Nat.{suc-mul, mul-le-mul_right}
use native.Mathlib.Numerals.{add-one}
use native.Mathlib.Decide.{dec_lt}
use native.Mathlib.Omega.{arith}
use lib.ListN.{length, get_or, take, drop, length-append, length-take, length-drop, get_or-append}
use lib.Seq.{get_or-take, get_or-drop, drop-drop, drop_at}

part_end : (p n width : ℕ) → p < n → p * width + width ≤ n * width
part_end p n width h = omega (arith, mul-le-mul_right width h, suc-mul p width)

module _ {A : Type 0} (width : ℕ) (cells : List A) (end : ℕ) where
  -- the rows from `row` to `end`, of `width` cells each
  abbrev pub left_from : ℕ → List A
  left_from row = drop (row * width) (take (end * width) cells)

  -- the next chunk is this row, and the later rows are left
  pub record NextRow (row : ℕ) (chunk rest : List A) : Type 0 where
    pub below : row < end
    pub cell : (p : ℕ) (z : A) → p < width → get_or chunk p z ≡ get_or cells (row * width + p) z
    pub more : rest ≡ left_from (row + 1)

  module _ (some : 0 < width) (there : end * width ≤ length cells) where
    left-length : (row : ℕ) → length (left_from row) ≡ end * width - row * width
    left-length row = simp (length-drop, length-take) (omega arith)

    pub next_row : (row : ℕ) (chunk before rest : List A) → row ≤ end → before ≡ left_from row → before ≡ chunk ++ rest → length chunk ≡ width → NextRow row chunk rest
    next_row row chunk before rest h left is whole =
        record {
          below = below;
          cell = λ p z l. sym (get_or-append chunk rest z p (omega (arith, whole))) ∙ ap (λ (x : List A). get_or x p z) (sym is ∙ left)
              ∙ get_or-drop (row * width) (take (end * width) cells) p z ∙ get_or-take (end * width) cells (row * width + p) z (omega (arith, part_end row end width below));
          more = sym (drop_at chunk rest width whole) ∙ ap (drop width) (sym is ∙ left) ∙ drop-drop width (row * width) (take (end * width) cells)
              ∙ ap (λ (k : ℕ). drop k (take (end * width) cells)) (let e = suc-mul row width in rw add-one (omega arith));
        }
      where
        long : length chunk + length rest ≡ end * width - row * width
        long = sym (length-append chunk rest) ∙ ap length (sym is ∙ left) ∙ left-length row

        below : row < end
        below = elim (dec_lt row end) [
          | yes l ↦ l
          | no l ↦ (let same : row ≡ end = omega arith in absurd (omega (arith, ap (λ (k : ℕ). k * width) same, long, whole)))
        ]

    pub no_row : (row : ℕ) (before : List A) → row ≤ end → before ≡ left_from row → length before < width → row ≡ end
    no_row row before h left short = elim (dec_lt row end) [
      | yes l ↦ absurd (omega (arith, part_end row end width l, ap length left, left-length row))
      | no l ↦ omega arith
    ]
