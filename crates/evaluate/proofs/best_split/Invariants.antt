-- `evaluate::best_split` meets its contract. Each way on has its law. Assumes nothing.
use Rattle.score_windows.specs.Windows.{preds_of}
use Rattle.evaluate.proofs.Turns.{Turn}
use Rattle.evaluate.proofs.best_split.Given as goal

abbrev pub invariant-loop-prop : goal.invariant-loop-prop
invariant-loop-prop l = Turn l.span.props.now l.span.tok.now l.span.first l.span.end (preds_of l.sides.lanes.now) l.job.logs.now l.node.alphabet l.most l.prop-index-end l.initial.counts l.counts l.planned l.best l.prop-index
