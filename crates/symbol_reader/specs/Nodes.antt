-- The node with which a list of symbols begins, as the code tells and reads it (document 02, c and d). Assumes nothing.
use Rattle.std.specs.Prelude.{ℕ, ◌+◌, Bool, true, false, List, map, length}
use Rattle.std.proofs.Math.Option.{Option, none, some}
use Rattle.model.specs.Meter.{Meter}
use Rattle.model.specs.Single.{singles}
use Rattle.model.specs.Tree.{split, leaf, Record, no_info, blank_record}
use Rattle.model.specs.Lent.{stored}
use Rattle.model.specs.Symbols.{FirstNode, no_node, first_split, first_leaf, rowless_record, tree_read}
use Rattle.model.specs.Operations.{nodes_in}
use Rattle.model.specs.declared.Symbol.{Symbol}
use Rattle.layout.specs.Records.{record_of}
use Rattle.layout.specs.declared.MaNode.{MaNode}

abbrev pub is_leaf : FirstNode → Bool
is_leaf no_node = false
is_leaf (first_split prop val rest) = false
is_leaf (first_leaf pred offset rest) = true

abbrev pub is_split : FirstNode → Bool
is_split no_node = false
is_split (first_split prop val rest) = true
is_split (first_leaf pred offset rest) = false

-- the node at this depth; if it is a split, its children are the nodes gt and gt + 1
abbrev pub record_read : {M : Meter} → ℕ → ℕ → FirstNode → Record M
record_read gt depth no_node = blank_record
record_read gt depth (first_split prop val rest) = rowless_record (split prop val gt (gt + 1)) no_info depth
record_read {M} gt depth (first_leaf pred offset rest) = rowless_record leaf (record { cost = M.nought; pred = pred; offset = offset }) depth

-- a record of the model, as it is stored
abbrev pub as_stored : Record singles → MaNode
as_stored r = record_of (stored r)

abbrev pub node_read : ℕ → ℕ → FirstNode → MaNode
node_read gt depth first = as_stored (record_read gt depth first)

-- how many nodes a tree has that was read
abbrev pub count_of : Option (List (Record singles)) → Option ℕ
count_of none = none
count_of (some tree) = some (length tree)

-- the records of the tree that symbols are
abbrev pub records_read : List Symbol → List MaNode
records_read symbols = map as_stored (nodes_in (tree_read symbols))
