-- `compact::move_nodes` meets its contract: by way of blank records. Assumes nothing.
use Rattle.std.proofs.Common.{◌≡◌, length}
use lib.Ieee.{of_bits}
use Rattle.model.specs.Grow.{no_entry}
use Rattle.layout.specs.Lent.{lists_in}
use Rattle.layout.specs.Tree.{entry_record, entry_span}
use Rattle.compact.proofs.Moving.{length-entries, copied-back}
use Rattle.compact.proofs.move_nodes.Goals as goal

pub returns-clause-lists : goal.returns-clause-lists
unfolding of_bits
returns-clause-lists c =
    let to = c.args.new_order in
    let (cost, (pred, offset)) = c.default.ensures in
    let blank : c.leaf-blank.result ≡ entry_record no_entry = rw (c.leaf-blank.ensures, cost, pred, offset) in
    let (first, end) = c.default-spans.ensures in
    let empty : c.default-spans.result ≡ entry_span no_entry = rw (first, end) in
    rw (c.copy_front.ensures, c.copy_front-2.ensures)
    (copied-back _ _ (length to.splits.now) 8191 (lists_in c.args.at.now) (length-entries _ _ _ to.order.now) c.requires.few c.requires.most blank empty c.gather.ensures)
