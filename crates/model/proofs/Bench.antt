-- The starred rows of document 01's bench table, by computation. Assumes nothing.
use mathlib.Core.Path.{◌≡◌, refl, sym, ap, ap₂, ◌∙◌}
use mathlib.Core.List.{List, [], ◌∷◌}
use mathlib.Core.Bool.{false}
use lib.IntN.{pos}
use lib.Ieee.{Float, fin}
use Rattle.model.specs.Single.{single_of}
use Rattle.model.specs.Bench.{Cell, whole, bits, given, wanted, shown_pruning, half, ten}
use Rattle.model.proofs.Computing.{everything}

-- the rows whose bits are worked out are computed on their own, each to a number written out
ten_bits : single_of 10 ≡ fin false 5 (pos 1)
unfolding everything
ten_bits = refl

nine_bits : single_of 9 ≡ fin false 9 (pos 0)
unfolding everything
nine_bits = refl

folds : shown_pruning (single_of 1) ten ≡ whole (pos 1) ∷ bits (fin false 5 (pos 1)) ∷ []
unfolding everything
folds = refl

keeps : shown_pruning half ten ≡ whole (pos 3) ∷ bits (fin false 9 (pos 0)) ∷ []
unfolding everything
keeps = refl

row : {a b : List Cell} {c d : List (List Cell)} → a ≡ b → c ≡ d → a ∷ c ≡ b ∷ d
row e f = ap₂ (λ (x : List Cell) (xs : List (List Cell)). x ∷ xs) e f

fold_row : shown_pruning (single_of 1) ten ≡ whole (pos 1) ∷ bits (single_of 10) ∷ []
fold_row = folds ∙ ap (λ (x : Float). whole (pos 1) ∷ bits x ∷ []) (sym ten_bits)

keep_row : shown_pruning half ten ≡ whole (pos 3) ∷ bits (single_of 9) ∷ []
keep_row = keeps ∙ ap (λ (x : Float). whole (pos 3) ∷ bits x ∷ []) (sym nine_bits)

pub bench : given ≡ wanted
unfolding everything
bench =
    row refl (row refl (row refl (row refl (row refl (row refl (row refl (row refl (row refl (row refl
    (row fold_row (row keep_row (row refl (row refl refl)))))))))))))
