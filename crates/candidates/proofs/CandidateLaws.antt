-- What holds of the candidates: at most 32, and ascending. Assumes nothing.
use mathlib.Core.Path.{◌≡◌}
use mathlib.Core.List.{List}
use Prim.Native.Nat.{ℕ, ◌-◌, ◌*◌, ◌/◌, ◌≤◌, ◌<◌, min}
use native.Mathlib.Omega.{arith}
use lib.IntN.{ℤ, pos}
use lib.Signed.{◌<ℤ◌}
use lib.ListN.{length, get_or}
use Rattle.model.specs.Candidates.{stride, every, distinct, candidates_of}
use Rattle.distinct.proofs.Distinct.{distinct-ascending}
use Rattle.distinct.proofs.Turns.{pairwise_at}
use Rattle.candidates.proofs.QuantileLaws.{place_inside, place_rises, length-quantiles, quantile-at}

-- ---- of a column
module _ (most : ℕ) (column : List ℤ) where
  abbrev probed : List ℤ
  probed = distinct (every (stride (length column)) 0 column)

  abbrev number : ℕ
  number = min (length probed - 1) (min most 32)

  pub candidates-count : length (candidates_of most column) ≡ min (length probed - 1) (min most 32)
  unfolding candidates_of
  candidates-count = length-quantiles (length probed - 1) number probed

  candidate-at : (k : ℕ) → k < length (candidates_of most column) → get_or (candidates_of most column) k (pos 0) ≡ get_or probed (k * (length probed - 1) / number) (pos 0)
  unfolding candidates_of
  candidate-at k h = quantile-at (length probed - 1) number probed k (omega (arith, candidates-count))

  pub candidates-few : length (candidates_of most column) ≤ 32
  candidates-few = omega (arith, candidates-count)

  pub candidates_at_most : length (candidates_of most column) ≤ most
  candidates_at_most = omega (arith, candidates-count)

  pub candidates-ascending : (i j : ℕ) → i < j → j < length (candidates_of most column) → get_or (candidates_of most column) i (pos 0) <ℤ get_or (candidates_of most column) j (pos 0)
  candidates-ascending i j lt h =
      let d = length probed - 1 in
      let inside : j * d / number < d = place_inside d number j (omega arith) (omega (arith, candidates-count)) in
      let rises : i * d / number < j * d / number = place_rises d number i j (omega arith) lt (omega (arith, candidates-count)) in
      rw (candidate-at i (omega arith), candidate-at j h)
      (pairwise_at (λ x y. x <ℤ y) probed (pos 0) (distinct-ascending (every (stride (length column)) 0 column)) (i * d / number) (j * d / number) rises (omega arith))
