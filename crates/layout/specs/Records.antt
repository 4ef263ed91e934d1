-- A node record and the model's entry of the node list, and a span record and the model's span: field by field the same (document 01, "The node list is one
-- lent run of records"). Assumes nothing.
use Rattle.std.specs.Prelude.{ℕ, List, cond, eqb, get_or, pos}
use Rattle.std.specs.Float.{nan}
use Rattle.model.specs.Single.{singles}
use Rattle.model.specs.Tree.{Node, split, leaf, Info}
use Rattle.model.specs.Rows as model
use Rattle.model.specs.Lent.{Stored, stored_node}
use Rattle.layout.specs.Values.{info_is}
use Rattle.layout.specs.declared.NodeInfo.{NodeInfo}
use Rattle.layout.specs.declared.MaNode.{MaNode}
use Rattle.layout.specs.declared.Span.{Span}

abbrev pub stored_of : MaNode → Stored singles
stored_of m = record { kind = m.kind; prop = m.prop; val = m.val; gt = m.gt; le = m.le; info = info_is m.info; depth = m.depth }

abbrev pub info_of : Info singles → NodeInfo
info_of i = record { cost = i.cost; pred = i.pred; offset = i.offset }

abbrev pub record_of : Stored singles → MaNode
record_of e = record { kind = e.kind; prop = e.prop; val = e.val; gt = e.gt; le = e.le; info = info_of e.info; depth = e.depth }

-- the node that a record is
abbrev pub node_is : MaNode → Node
node_is m = cond (eqb m.kind 1) (split m.prop m.val m.gt m.le) leaf

-- a leaf as a record
abbrev pub leaf_record : NodeInfo → ℕ → MaNode
leaf_record i depth = record_of (stored_node leaf (info_is i) depth)

-- a record to name where a list has none
abbrev pub no_record : MaNode
no_record = record { kind = 0; prop = 0; val = pos 0; gt = 0; le = 0; info = record { cost = nan; pred = 0; offset = pos 0 }; depth = 0 }

-- node i of a list
abbrev pub node_at : List MaNode → ℕ → Node
node_at nodes i = node_is (get_or nodes i no_record)

-- its kind, and its children if it is a split
abbrev pub kind_at : List MaNode → ℕ → ℕ
kind_at nodes i = (get_or nodes i no_record).kind

abbrev pub gt_at : List MaNode → ℕ → ℕ
gt_at nodes i = (get_or nodes i no_record).gt

abbrev pub le_at : List MaNode → ℕ → ℕ
le_at nodes i = (get_or nodes i no_record).le

-- ---- spans
abbrev pub span_is : Span → model.Span
span_is s = record { first = s.first; end = s.end }

abbrev pub span_record : model.Span → Span
span_record s = record { first = s.first; end = s.end }

-- a span to name where a list has none
abbrev pub no_span_record : Span
no_span_record = record { first = 0; end = 0 }
