-- `symbol_reader::read_symbols` meets its contract: each refusal is the definition's, and the nodes written are the tree that was read. Assumes nothing.
use Rattle.std.proofs.Common.{sym}
use Rattle.symbol_reader.proofs.Refusals.{bad, cramped, granted}
use Rattle.symbol_reader.proofs.read_symbols.Goals as goal

pub returns-in_default : goal.returns-in_default
returns-in_default c = sym (bad c.args.symbols.now c.args.nodes.now c.in_default.ensures)

pub returns-then-nodes-n : goal.returns-then-nodes-n
returns-then-nodes-n c = sym (cramped c.args.symbols.now c.args.nodes.now c.in-Some.count c.in-Some.ensures c.if-nodes-n.true)

pub returns : goal.returns
returns c = sym (granted c.args.symbols.now c.args.nodes.now c.in-Some.count c.in-Some.ensures c.if-nodes-n.false c.write_nodes.new.nodes c.write_nodes.ensures)
