-- Demand 2's words on ISO/IEC 18181-1, about runs of the public operations: lookup, packing and tokens are the standard's, and tokens are read back. (That learning and deepening are
-- the Rust's is what their contracts equate and what is compared by running.) Assumes nothing.
use Rattle.std.specs.Prelude.{ℕ, ◌≤◌, ◌<◌, ◌^◌, ◌≡◌, List, map, length, get_or, ℤ}
use Rattle.std.proofs.Math.Option.{none}
use Rattle.model.specs.Settings.{props_per_row}
use Rattle.model.specs.Standard.{MaTree, leaf_for, unpack_signed, hybrid_bits, read_hybrid, default_config}
use Rattle.model.specs.Tree.{fault_of}
use Rattle.model.specs.Lent.{tree_in}
use Rattle.model.specs.Operations.{accepted, ContextLists}
use Rattle.model.specs.Decoder.{leaf_in, IsTree, DecodersTree}
use Rattle.model.specs.declared.Encoded.{Encoded}
use Rattle.layout.specs.Records.{stored_of}
use Rattle.layout.specs.declared.MaNode.{MaNode}
use Rattle.answers.specs.Answers.{count_in, value_in}
use Rattle.answers.specs.declared.FoundLeaf.{FoundLeaf}
use Rattle.answers.specs.declared.Read.{Read}
use Rattle.ma_tree.specs.Runs.{LookingUp, Numbering, Packing, Encoding, Reading}

pub record Demand2 : Type 0 where
  -- a sound node list is an MA tree of the standard; whatever numbers its leaves are given, a lookup of any 24 properties is accepted, and the leaf that it names is the one that
  -- the standard's walk reaches
  pub looks_up : (nodes : List MaNode) (count : ℕ) (contexts : List ℕ) → count ≤ length nodes → fault_of (tree_in count (map stored_of nodes)) ≡ none
      → (t : MaTree) × IsTree (map stored_of nodes) count contexts t × ((ps : List ℤ) (r : FoundLeaf) → length ps ≡ props_per_row → LookingUp nodes count ps r
      → (r.number ≡ 0) × (leaf_in (tree_in count (map stored_of nodes)) contexts r.leaf ≡ leaf_for ps t) × (r.pred ≡ (leaf_for ps t).predictor))
  -- the contexts written are those that a decoder gives the leaves, so a lookup and then the context list give the context that a decoder uses
  pub numbers : (nodes : List MaNode) (count leaves : ℕ) (x y : ContextLists) → Numbering nodes count x (count_in (accepted leaves)) y
      → (t : MaTree) × DecodersTree (map stored_of nodes) count y.contexts t × ((ps : List ℤ) (r : FoundLeaf) → length ps ≡ props_per_row → LookingUp nodes count ps r
      → get_or y.contexts r.leaf 0 ≡ (leaf_for ps t).context)
  -- the standard's reading of signed numbers gives a packed number back
  pub packs : (value : ℤ) (r : ℕ) → Packing value r → unpack_signed r ≡ value
  -- the standard's reading of a hybrid integer gives the value of a token back, from as many extra bits as it reads
  pub encodes : (value : ℕ) (r : Encoded) → Encoding value r → (hybrid_bits default_config r.token ≡ r.nbits) × (read_hybrid default_config r.token r.bits ≡ value)
  -- what is read is what the standard reads
  pub reads : (token extra value : ℕ) → Reading token extra (value_in (accepted value)) → value ≡ read_hybrid default_config token extra
  -- and a value's token is read back to it
  pub reads_back : (value : ℕ) (e : Encoded) (r : Read) → value < 2 ^ 32 → Encoding value e → Reading e.token e.bits r → r ≡ value_in (accepted value)
