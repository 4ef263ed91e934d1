-- `score_sides::window_costs` meets its contract. The extra bits are at most 61 × 65,536, so their casts to an f32 are exact. Assumes nothing.
use mathlib.Core.Path.{◌≡◌}
use mathlib.Core.List.{List}
use lib.ListN.{length}
use lib.Ieee.{Float}
use Prim.Native.Nat.{ℕ, ◌≤◌, ◌+◌}
use native.Mathlib.Omega.{arith}
use Rattle.model.specs.Cost.{extra_from}
use Rattle.cost.proofs.Sums.{single_exact, extra_le_rows}
use Rattle.score_sides.specs.Sides.{rest, SideCounted}
use Rattle.score_sides.proofs.Sweeps.{few-left, extra-sides, costs-join}
use Rattle.score_sides.proofs.window_costs.Goals as goal

-- both sides' extra bits
pub record Bits (left node : List ℕ) (first extra result : ℕ) : Type 0 where
  pub le : result ≡ extra_from first left
  pub both : result + extra_from first (rest node left) ≡ extra
  pub small : extra ≤ 3997696

bits : (left node : List ℕ) (logs : List Float) (first extra result : ℕ) → SideCounted left node logs → first + length left ≤ 256 → extra ≡ extra_from first node → result ≡ extra_from first left
    → Bits left node first extra result
bits left node logs first extra result h tokens whole le =
    let sides = extra-sides first node left h.long h.under in
    let few = extra_le_rows first node (omega (arith, h.long)) in
    record { le = le; both = omega arith; small = omega (arith, h.small) }

pub extra_bits-le-requires : goal.extra_bits-le-requires
extra_bits-le-requires c = (c.requires.left_bound.0, few-left _ _ _ c.requires.side_counted)

pub int_to_float-result : goal.int_to_float-result
int_to_float-result c = single_exact _ (omega (arith, bits _ _ _ _ _ _ c.requires.side_counted c.requires.left_bound.0 c.requires.left_bound.1 c.extra_bits-le.ensures))

pub overflow_sub-result : goal.overflow_sub-result
overflow_sub-result c = omega (arith, bits _ _ _ _ _ _ c.requires.side_counted c.requires.left_bound.0 c.requires.left_bound.1 c.extra_bits-le.ensures)

pub int_to_float-result-2 : goal.int_to_float-result-2
int_to_float-result-2 c = single_exact _ (omega (arith, bits _ _ _ _ _ _ c.requires.side_counted c.requires.left_bound.0 c.requires.left_bound.1 c.extra_bits-le.ensures))

pub returns : goal.returns
returns c = let b = bits _ _ _ _ _ _ c.requires.side_counted c.requires.left_bound.0 c.requires.left_bound.1 c.extra_bits-le.ensures in
    costs-join _ _ _ _ _ _ _ _ c.window_entropies-bits.ensures b.le (omega (arith, b))
