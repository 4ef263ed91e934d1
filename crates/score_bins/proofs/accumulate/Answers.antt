-- `score_bins::accumulate` meets its contract: the cells passed have their sums. Assumes nothing.
use mathlib.Core.Path.{◌≡◌, refl, sym, ap, ◌∙◌}
use mathlib.Core.List.{List}
use Prim.Native.Nat.{ℕ, ◌≤◌, ◌-◌, ◌+◌}
use native.Mathlib.Omega.{arith}
use lib.ListN.{get_or, set, length-set}
use Rattle.score_bins.specs.Bins.{summed}
use Rattle.score_bins.proofs.Tallies.{summed-none, summed-more}
use Rattle.score_bins.proofs.accumulate.Goals as goal

pub loop-i-init : goal.loop-i-init
loop-i-init c = let none : c.args.stride - c.args.stride ≡ 0 = omega arith in (refl, rw none (sym (summed-none _ _)), refl)

turn : (stride i : ℕ) (c cells : List ℕ) → stride ≤ i → cells ≡ summed stride (i - stride) c → set cells i (get_or cells i 0 + get_or cells (i - stride) 0) ≡ summed stride (i + 1 - stride) c
turn stride i c cells h e =
    let n = i - stride in
    let at : i ≡ stride + n = omega arith in
    let next : n + 1 ≡ i + 1 - stride = omega arith in
    ap (λ (k : ℕ). set cells k (get_or cells k 0 + get_or cells n 0)) at
    ∙ ap (λ (d : List ℕ). set d (stride + n) (get_or d (stride + n) 0 + get_or d n 0)) e
    ∙ sym (summed-more stride n c) ∙ ap (λ (m : ℕ). summed stride m c) next

pub loop-i-preserved : goal.loop-i-preserved
loop-i-preserved c =
    let inv = c.loop-i.invariant in
    (inv.0, turn _ _ _ c.loop-i.cells c.loop-i.auto.i inv.1, length-set c.loop-i.cells c.loop-i.i _ ∙ inv.2)
