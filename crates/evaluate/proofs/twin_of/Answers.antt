-- `evaluate::twin_of` meets its contract. Assumes nothing.
use native.Mathlib.Omega.{arith}
use Rattle.evaluate.proofs.Orders.{twin-next, twin-two, twin-none}
use Rattle.evaluate.proofs.twin_of.Goals as goal

pub returns-in-17 : goal.returns-in-17
returns-in-17 c = twin-next c.args.prop c.in-17.is

pub returns-in-6 : goal.returns-in-6
returns-in-6 c = twin-two c.args.prop (omega arith) (omega arith)

pub returns-in_default : goal.returns-in_default
returns-in_default c = twin-none c.args.prop (λ n. omega arith) (λ l h. omega arith)

pub returns-in_default-2 : goal.returns-in_default-2
returns-in_default-2 c = twin-none c.args.prop (λ n. omega arith) (λ l h. omega arith)
