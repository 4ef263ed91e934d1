-- `evaluate::is_repeated` meets its contract. Assumes nothing.
use mathlib.Core.Path.{sym, ap, ◌∙◌}
use Prim.Native.Nat.{◌<◌}
use native.Mathlib.Omega.{arith}
use Rattle.evaluate.specs.Order.{twin_is}
use Rattle.evaluate.proofs.Orders.{twin-low}
use Rattle.evaluate.proofs.is_repeated.Goals as goal

pub bounds-planned-twin : goal.bounds-planned-twin
bounds-planned-twin c = let low : c.in-Some.twin < 24 = twin-low c.args.prop c.in-Some.twin (sym c.twin_of.ensures ∙ ap twin_is c.in-Some.is) in
    omega (arith, c.requires)
