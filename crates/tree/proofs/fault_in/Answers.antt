-- `tree::fault_in` meets its contract: a count beyond the list is found first, then what stands in the list's front. Assumes nothing.
use Rattle.std.proofs.Common.{length}
use Rattle.std.proofs.lemmas.List.{length-map}
use borrow.Author.Tests.{le-ltb}
use Rattle.layout.specs.Records.{stored_of}
use Rattle.tree.proofs.Entries.{tree-is}
use Rattle.tree.proofs.fault_in.Goals as goal

pub returns : goal.returns
returns c = let a = c.args in
    rw (length-map a.nodes.now stored_of, le-ltb (length a.nodes.now) a.count c.if-nodes-count.false, tree-is a.nodes.now a.count) c.fault_of.ensures
