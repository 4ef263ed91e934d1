-- A lookup on records, one node at a time (document 01, "Lookup"): where it begins, a step, and where it ends. Assumes nothing.
use Rattle.std.specs.Prelude.{◌≡◌, ℕ, Bool, cond, not, ◌||◌, List, length, ℤ, eqb, ltb, Result, Ok, Err}
use Rattle.model.specs.Settings.{props_per_row, toks_per_row}
use Rattle.model.specs.Tree.{towards, is_orderly}
use Rattle.model.specs.Operations.{Outcome, refused, accepted, Found as ModelFound}
use Rattle.model.specs.Answered.{refusal_of}
use Rattle.model.specs.declared.Refusal.{Refusal}
use Rattle.model.specs.declared.Refusal.TheVariants.{UnsoundTree, UnevenProperties}
use Rattle.layout.specs.Records.{node_is}
use Rattle.layout.specs.declared.MaNode.{MaNode}
use Rattle.layout.specs.declared.NodeNumber.{NodeNumber}
use Rattle.lookup.specs.declared.Found.{Found}

-- kind 1 is a split, and any other number a leaf
abbrev pub is_split : MaNode → Bool
is_split m = eqb m.kind 1

-- before the first node: 9, then 8 for the count
abbrev pub begun : ℕ → ℕ → List ℤ → Result NodeNumber Refusal
begun room count ps = cond (not (eqb (length ps) props_per_row)) (Err UnevenProperties) (cond (eqb count 0 || ltb room count) (Err (UnsoundTree 0)) (Ok (record { 0 = 0 })))

-- from node i, a split with record m: 8 if it is not in order, else the child that the properties lead to
abbrev pub followed : MaNode → ℕ → ℕ → List ℤ → Result NodeNumber Refusal
followed m i count ps = cond (is_orderly count i m.info.pred (node_is m)) (Ok (record { 0 = towards ps m.prop m.val m.gt m.le })) (Err (UnsoundTree i))

-- from a leaf: 8 if its predictor is none, else the answer
abbrev pub ended : MaNode → ℕ → Result Found Refusal
ended m i = cond (ltb m.info.pred toks_per_row) (Ok (record { leaf = i; pred = m.info.pred })) (Err (UnsoundTree i))

-- the answer in document 01's numbers and values
abbrev pub found_outcome : Result Found Refusal → Outcome ModelFound
found_outcome (Ok f) = accepted (record { leaf = f.leaf; pred = f.pred })
found_outcome (Err cause) = refused (refusal_of cause)

-- what a step asks for: a split's property is one of those handed in
pub record OneRow (ps : List ℤ) : Type 0 where
  pub one : length ps ≡ props_per_row
