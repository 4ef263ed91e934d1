-- `finish::finish_tree` meets its contract: pruning, if the price is above 0, and then settling of what is left, if it is asked for. Assumes nothing.
use mathlib.Core.Path.{refl, sym, ap, subst, ◌∙◌}
use mathlib.Core.Bool.{true}
use borrow.Author.Rules.{rules}
use lib.Ieee.{of_bits}
use Rattle.layout.specs.Lent.{lists_in}
use Rattle.model.specs.Settle.{settled}
use Rattle.rows.specs.Flat.{Changed}
use Rattle.rows.specs.Lent.{flat_in}
use Rattle.rows.proofs.Shapes.{given-back}
use Rattle.model.proofs.Tests.{and-true}
use Rattle.lent.specs.Fitting.{uses_of}
use Rattle.settle.proofs.Settling.{settleable}
use Rattle.finish.specs.Finished.{Cut, cut_tree}
use Rattle.finish.proofs.Finishing.{cut-pruned, cut-kept, grew-holds, clear-counts, cut-leaves, kept-room, settled-lists, left-alone, behind, finished-lists}
use Rattle.finish.proofs.finish_tree.Goals as goal
use Rattle.finish.proofs.finish_tree.Goals.{then-price, else-price}

pub prune_tree-kept-requires : goal.prune_tree-kept-requires
prune_tree-kept-requires c =
    let asked = c.requires in
    record { tree = asked.state.tree; lent = asked.lent; holds = grew-holds asked.grew }

pub settle_leaves-requires : goal.settle_leaves-requires
unfolding of_bits
settle_leaves-requires c =
    let s = c.args.job.settings in
    let asked = c.requires in
    let g = asked.grew in
    let cut : Cut s.prune_leaf_bits asked.state.tree c.args.grown.bits asked.lent (lists_in c.if-price.at) c.if-price.kept = elim c.if-price.branch [
      | then-price w ↦ cut-pruned {price = s.prune_leaf_bits} w.if-price.true (w.prune_tree-kept.ensures.lists asked.state.tree asked.lent (grew-holds g)) (ap lists_in w.at-is) w.kept-is
      | else-price w ↦ cut-kept {price = s.prune_leaf_bits} w.if-price.false (grew-holds g) (ap lists_in w.at-is) w.kept-is
    ] in
    let on = and-true _ c.uses_modes.result c.if-s-uses_modes.true in
    let told = c.uses_modes.ensures ∙ ap (uses_of s) c.view.ensures in
    settleable (cut-leaves g cut (sym told ∙ on.1)) c.args.counts.now (kept-room g cut) (clear-counts g)

pub returns-then-s-uses_modes-clause-finished : goal.returns-then-s-uses_modes-clause-finished
unfolding of_bits
returns-then-s-uses_modes-clause-finished c lent st seeds given g =
    let s = c.args.job.settings in
    let cut : Cut s.prune_leaf_bits st.tree c.args.grown.bits lent (lists_in c.if-price.at) c.if-price.kept = elim c.if-price.branch [
      | then-price w ↦ cut-pruned {price = s.prune_leaf_bits} w.if-price.true (w.prune_tree-kept.ensures.lists st.tree lent (grew-holds g)) (ap lists_in w.at-is) w.kept-is
      | else-price w ↦ cut-kept {price = s.prune_leaf_bits} w.if-price.false (grew-holds g) (ap lists_in w.at-is) w.kept-is
    ] in
    let on = and-true s.settle c.uses_modes.result c.if-s-uses_modes.true in
    let uses = sym (c.uses_modes.ensures ∙ ap (uses_of s) c.view.ensures) ∙ on.1 in
    let rows = c.settle_leaves.ensures.rows (cut_tree s.prune_leaf_bits st.tree) (behind g cut) (cut-leaves g cut uses) in
    finished-lists g cut c.args.flat_bits
    (settled-lists g cut on.0 uses
    (subst (Changed (settled true (cut_tree s.prune_leaf_bits st.tree)) (flat_in c.args.rows.now)) (given-back c.settle_leaves.ensures.lent (search rules)) rows))
    refl refl refl refl

pub returns-else-s-uses_modes-clause-finished : goal.returns-else-s-uses_modes-clause-finished
unfolding of_bits
returns-else-s-uses_modes-clause-finished c lent st seeds given g =
    let s = c.args.job.settings in
    let cut : Cut s.prune_leaf_bits st.tree c.args.grown.bits lent (lists_in c.if-price.at) c.if-price.kept = elim c.if-price.branch [
      | then-price w ↦ cut-pruned {price = s.prune_leaf_bits} w.if-price.true (w.prune_tree-kept.ensures.lists st.tree lent (grew-holds g)) (ap lists_in w.at-is) w.kept-is
      | else-price w ↦ cut-kept {price = s.prune_leaf_bits} w.if-price.false (grew-holds g) (ap lists_in w.at-is) w.kept-is
    ] in
    let told = c.uses_modes.ensures ∙ ap (uses_of s) c.view.ensures in
    finished-lists g cut c.args.flat_bits (left-alone g cut (rw told at c.if-s-uses_modes.false)) refl refl refl refl
