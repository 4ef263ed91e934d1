-- Demand 1 about runs of the public operations: an answer of number 0, or the number and place of the first of the conditions of document 01 ("Which number comes back") and of document 02 that holds, and
-- then every lent list as it was. That an accepted tree is finished and sound is part of demand 3 (`Kept`). Assumes nothing.
use Rattle.std.specs.Prelude.{ℕ, ◌≤◌, ◌≡◌, List, map, ℤ, Float}
use Rattle.std.proofs.Math.Option.{Option, none, some}
use Rattle.model.specs.Profile.{single}
use Rattle.model.specs.Refuse.{Refusal, learn_refusal, deepen_refusal, lookup_refusal, contexts_refusal, write_refusal, read_refusal, sample_refusal, token_refusal}
use Rattle.model.specs.Operations.{ContextLists, SymbolLists}
use Rattle.model.specs.Symbols.{tree_read}
use Rattle.model.specs.declared.Symbol.{Symbol}
use Rattle.refuse.specs.Given.{settings_of}
use Rattle.refuse.specs.declared.Settings.{Settings}
use Rattle.layout.specs.Records.{stored_of}
use Rattle.layout.specs.declared.MaNode.{MaNode}
use Rattle.answers.specs.declared.Count.{Count}
use Rattle.answers.specs.declared.FoundLeaf.{FoundLeaf}
use Rattle.answers.specs.declared.LearnedTree.{LearnedTree}
use Rattle.answers.specs.declared.Read.{Read}
use Rattle.border.specs.Lists.{Records, lent_in}
use Rattle.ma_tree.specs.Runs.{Learning, Deepening, LookingUp, Numbering, WritingSymbols, ReadingSymbols, Sampling, Reading}

-- number and place of an answer are the refusal's, which is one of 1 to 11, and the lists are as they were; or both are 0 where nothing is refused
abbrev pub Told : {L : Type 0} → Option Refusal → ℕ → ℕ → L → L → Type 0
Told none number place x y = (number ≡ 0) × (place ≡ 0)
Told (some f) number place x y = (number ≡ f.number) × (place ≡ f.place) × (1 ≤ number) × (number ≤ 11) × (y ≡ x)

-- an answer alone
abbrev pub Answered : Option Refusal → ℕ → ℕ → Type 0
Answered o number place = Told {L = Unit {0}} o number place tt tt

pub record Demand1 : Type 0 where
  pub learns : (s : Settings) (logs : List Float) (x y : Records) (r : LearnedTree) → Learning s logs x r y
      → Told (learn_refusal single (settings_of s) logs (lent_in x)) r.number r.place x y
  pub deepens : (s : Settings) (logs : List Float) (count : ℕ) (x y : Records) (r : LearnedTree) → Deepening s logs count x r y
      → Told (deepen_refusal single (settings_of s) logs count (lent_in x)) r.number r.place x y
  pub looks_up : (nodes : List MaNode) (count : ℕ) (ps : List ℤ) (r : FoundLeaf) → LookingUp nodes count ps r
      → Answered (lookup_refusal (map stored_of nodes) count ps) r.number r.place
  pub numbers : (nodes : List MaNode) (count : ℕ) (x y : ContextLists) (r : Count) → Numbering nodes count x r y
      → Told (contexts_refusal (map stored_of nodes) count x.contexts x.queue) r.number r.place x y
  pub writes_symbols : (nodes : List MaNode) (count : ℕ) (x y : SymbolLists) (r : Count) → WritingSymbols nodes count x r y
      → Told (write_refusal (map stored_of nodes) count x.symbols x.queue) r.number r.place x y
  pub reads_symbols : (symbols : List Symbol) (x y : List MaNode) (r : Count) → ReadingSymbols symbols x r y
      → Told (read_refusal (tree_read symbols) (map stored_of x)) r.number r.place x y
  pub samples : (rows target : ℕ) (x y : List ℕ) (r : Count) → Sampling rows target x r y → Told (sample_refusal rows target x) r.number r.place x y
  pub reads : (token extra : ℕ) (r : Read) → Reading token extra r → Answered (token_refusal token extra) r.number r.place
