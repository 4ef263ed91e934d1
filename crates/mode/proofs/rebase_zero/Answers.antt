-- `mode::rebase_zero` meets its contract: the mode of the span, and then the tokens of its rows. Assumes nothing.
use mathlib.Core.Path.{◌∙◌}
use native.Mathlib.Omega.{arith}
use mir.Syntax.{w32}
use mir.ValLaws.{to_z-of_z}
use Rattle.mode.proofs.Modes.{mode_differs}
use Rattle.mode.proofs.Within.{span-is, rezeroed-within, low-within}
use Rattle.mode.proofs.rebase_zero.Goals as goal

pub retoken-requires-clause-each : goal.retoken-requires-clause-each
retoken-requires-clause-each c =
    let mode-is = to_z-of_z w32 c.span_mode-mode.result (record { sfits = c.span_mode-mode.type_inv }) ∙ c.span_mode-mode.ensures.answer in
    rw mode-is (mode_differs _)

pub returns-clause-answer : goal.returns-clause-answer
returns-clause-answer c =
    let mode-is = to_z-of_z w32 c.span_mode-mode.result (record { sfits = c.span_mode-mode.type_inv }) ∙ c.span_mode-mode.ensures.answer in
    rw (mode-is, span-is c.args.first c.args.end c.args.res.now c.requires.span.ordered)

pub returns-clause-tokens : goal.returns-clause-tokens
returns-clause-tokens c =
    let mode-is = to_z-of_z w32 c.span_mode-mode.result (record { sfits = c.span_mode-mode.type_inv }) ∙ c.span_mode-mode.ensures.answer in
    let span = span-is c.args.first c.args.end c.args.res.now c.requires.span.ordered in
    rw (c.retoken.ensures.tokens, mode-is, span) (rezeroed-within _ c.args.first c.args.end c.args.res.now c.args.tok.now c.requires.span c.requires.tokens)

pub returns-clause-low : goal.returns-clause-low
returns-clause-low c = low-within c.args.first c.args.end c.args.tok.now c.retoken.new.tok (omega arith) (omega arith) (λ i from below. c.retoken.ensures.low i from (omega arith))
