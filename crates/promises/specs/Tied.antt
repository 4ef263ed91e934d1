-- The tie between contracts and promises: each public operation asks nothing of its caller, and its contract says of a run just the relation (crate `ma_tree`, Runs) that
-- the promises are drawn from. Every public operation has its line (proofs/Tied): a contract that asked something, or said less or other, would be refused there. Assumes nothing.
use Rattle.std.specs.Prelude.{◌≡◌, ℕ, List, ℤ, Float}
use seplogic.Ra.Ura.{Ura}
use base.Logic.{SProp, emp}
use contract.Monad.{fact}
use contract.Lifetimes.{Lfts}
use Rattle.std.specs.Borrow.{Bor, MutBor}
use denote.Triple.Entry.{Args, Res}
use denote.Triple.Clauses.{Ended, Clauses, Lasts, at_exit}
use Rattle.model.specs.declared.Encoded.{Encoded}
use Rattle.model.specs.declared.Symbol.{Symbol}
use Rattle.refuse.specs.declared.Settings.{Settings}
use Rattle.rows.specs.Flat.{flat}
use Rattle.layout.specs.Waiting.{queue_lists}
use Rattle.layout.specs.declared.MaNode.{MaNode}
use Rattle.layout.specs.declared.Span.{Span}
use Rattle.answers.specs.declared.Count.{Count}
use Rattle.answers.specs.declared.FoundLeaf.{FoundLeaf}
use Rattle.answers.specs.declared.LearnedTree.{LearnedTree}
use Rattle.answers.specs.declared.Read.{Read}
use Rattle.border.specs.Lists.{Records, records, contexts_now}
use Rattle.ma_tree.specs.Runs.{records_now, symbol_lists, Learning, Deepening, LookingUp, Numbering, WritingSymbols, ReadingSymbols, Sampling, Packing, Encoding, Reading}

-- what a run of an operation may be: its arguments at entry, its answer, and the last values of what it was lent to write
abbrev pub Relation : Ended → Type 1
Relation T = (κs : Lfts T.signature.lifetimes) (a : Args T.signature κs) → Res T.signature κs → Lasts T κs a → Type 0

-- the contract asks nothing, and says of a run what the relation says and nothing else
pub record Says {M : Type 1} (𝓤 : Ura M) (T : Ended) (c : Clauses 𝓤 T) (R : Relation T) : Type 2 where
  pub asks : (κs : Lfts T.signature.lifetimes) (a : Args T.signature κs) (g : (c κs a).ghost) → ◌≡◌ {A = SProp 𝓤} ((c κs a).requires g) (emp 𝓤)
  pub says : (κs : Lfts T.signature.lifetimes) (a : Args T.signature κs) (g : (c κs a).ghost) (r : Res T.signature κs) (ws : Lasts T κs a)
      → ◌≡◌ {A = SProp 𝓤} ((c κs a).ensures g r (at_exit T κs a ws)) (fact 𝓤 (R κs a r ws))

-- ---- the relation of each operation, over its parameters in their order; a parameter that is not written has no last value
-- rows' three lists, the queue's three lists and the count space
abbrev pub NumberRefs : Type 0
NumberRefs = MutBor (List ℤ) × (MutBor (List ℕ) × (MutBor (List ℤ) × (MutBor (List ℕ) × (MutBor (List ℤ) × (MutBor (List Float) × (MutBor (List ℕ) × Unit {0}))))))

abbrev pub NumberLists : Type 0
NumberLists = List ℤ × (List ℕ × (List ℤ × (List ℕ × (List ℤ × (List Float × (List ℕ × Unit {0}))))))

abbrev entered : MutBor (List MaNode) → MutBor (List Span) → NumberRefs → Records
entered nodes spans n = records_now nodes spans n.0 n.1.0 n.1.1.0 n.1.1.1.0 n.1.1.1.1.0 n.1.1.1.1.1.0 n.1.1.1.1.1.1.0

abbrev left : List MaNode → List Span → NumberLists → Records
left nodes spans n =
    records (flat n.0 n.1.0 n.1.1.0) nodes spans (queue_lists n.1.1.1.0 n.1.1.1.1.0 n.1.1.1.1.1.0) n.1.1.1.1.1.1.0

abbrev pub LearningRun : MutBor (List MaNode) × (MutBor (List Span) × (Settings × (Bor (List Float) × NumberRefs))) → LearnedTree
    → List MaNode × (List Span × (Unit {0} × (Unit {0} × NumberLists))) → Type 0
LearningRun a r w = Learning a.1.1.0 a.1.1.1.0.now (entered a.0 a.1.0 a.1.1.1.1) r (left w.0 w.1.0 w.1.1.1.1)

abbrev pub DeepeningRun : MutBor (List MaNode) × (MutBor (List Span) × (Settings × (ℕ × (Bor (List Float) × NumberRefs)))) → LearnedTree
    → List MaNode × (List Span × (Unit {0} × (Unit {0} × (Unit {0} × NumberLists)))) → Type 0
DeepeningRun a r w =
    Deepening a.1.1.0 a.1.1.1.1.0.now a.1.1.1.0 (entered a.0 a.1.0 a.1.1.1.1.1) r (left w.0 w.1.0 w.1.1.1.1.1)

abbrev pub LookingUpRun : Bor (List MaNode) × (ℕ × (Bor (List ℤ) × Unit {0})) → FoundLeaf → Type 0
LookingUpRun a r = LookingUp a.0.now a.1.0 a.1.1.0.now r

abbrev pub NumberingRun : Bor (List MaNode) × (ℕ × (MutBor (List ℕ) × (MutBor (List ℕ) × Unit {0}))) → Count → Unit {0} × (Unit {0} × (List ℕ × (List ℕ × Unit {0}))) → Type 0
NumberingRun a r w = Numbering a.0.now a.1.0 (contexts_now a.1.1.0 a.1.1.1.0) r (record { contexts = w.1.1.0; queue = w.1.1.1.0 })

abbrev pub WritingSymbolsRun : Bor (List MaNode) × (ℕ × (MutBor (List Symbol) × (MutBor (List ℕ) × Unit {0}))) → Count
    → Unit {0} × (Unit {0} × (List Symbol × (List ℕ × Unit {0}))) → Type 0
WritingSymbolsRun a r w = WritingSymbols a.0.now a.1.0 (symbol_lists a.1.1.0.now a.1.1.1.0.now) r (symbol_lists w.1.1.0 w.1.1.1.0)

abbrev pub ReadingSymbolsRun : Bor (List Symbol) × (MutBor (List MaNode) × Unit {0}) → Count → Unit {0} × (List MaNode × Unit {0}) → Type 0
ReadingSymbolsRun a r w = ReadingSymbols a.0.now a.1.0.now r w.1.0

abbrev pub SamplingRun : ℕ × (ℕ × (MutBor (List ℕ) × Unit {0})) → Count → Unit {0} × (Unit {0} × (List ℕ × Unit {0})) → Type 0
SamplingRun a r w = Sampling a.0 a.1.0 a.1.1.0.now r w.1.1.0

abbrev pub PackingRun : ℤ × Unit {0} → ℕ → Type 0
PackingRun a r = Packing a.0 r

abbrev pub EncodingRun : ℕ × Unit {0} → Encoded → Type 0
EncodingRun a r = Encoding a.0 r

abbrev pub ReadingRun : ℕ × (ℕ × Unit {0}) → Read → Type 0
ReadingRun a r = Reading a.0 a.1.0 r
