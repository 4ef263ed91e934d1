-- What each public operation ensures of a run, acceptance and each refusal alike: its answer, and what every lent list holds at exit. A contract of src/ is one of these
-- relations, and the promises (crate `promises`) are drawn from the same. Assumes nothing.
use Rattle.std.specs.Prelude.{◌≡◌, ℕ, List, map, ℤ, Float}
use Rattle.std.specs.Borrow.{MutBor}
use Rattle.model.specs.Pack.{packed}
use Rattle.model.specs.Token.{encoded_of}
use Rattle.model.specs.declared.Encoded.{Encoded}
use Rattle.model.specs.Profile.{single}
use Rattle.model.specs.declared.Symbol.{Symbol}
use Rattle.model.specs.Operations.{ContextLists, SymbolLists, learn, deepen, lookup, leaf_contexts, write_symbols, read_symbols, sample, token_answer}
use Rattle.refuse.specs.Given.{settings_of}
use Rattle.refuse.specs.declared.Settings.{Settings}
use Rattle.layout.specs.Records.{stored_of}
use Rattle.layout.specs.declared.MaNode.{MaNode}
use Rattle.layout.specs.declared.Span.{Span}
use Rattle.answers.specs.Answers.{value_in, found_in, count_in, learned_in}
use Rattle.answers.specs.declared.Count.{Count}
use Rattle.answers.specs.declared.FoundLeaf.{FoundLeaf}
use Rattle.answers.specs.declared.LearnedTree.{LearnedTree}
use Rattle.answers.specs.declared.Read.{Read}
use Rattle.border.specs.Lists.{Records, records_with, lent_in, learn_records, deepen_records}

-- what the lists lent to learning or deepening hold, in the order of the parameters
abbrev pub records_now : MutBor (List MaNode) → MutBor (List Span) → MutBor (List ℤ) → MutBor (List ℕ) → MutBor (List ℤ)
    → MutBor (List ℕ) → MutBor (List ℤ) → MutBor (List Float) → MutBor (List ℕ) → Records
records_now nodes spans props tok res words values gains counts =
    records_with nodes.now spans.now props tok res words values gains counts

-- ---- learning and deepening: settings s, logarithms and lists x are handed in, the answer is r, and the lists are left as y
pub record Learning (s : Settings) (logs : List Float) (x : Records) (r : LearnedTree) (y : Records) : Type 0 where
  pub answers : r ≡ learned_in (learn single (settings_of s) logs (lent_in x)).outcome
  pub leaves : lent_in y ≡ (learn single (settings_of s) logs (lent_in x)).lent
  -- the same, every record and every number, also those that belong to no whole waiting leaf
  pub leaves_whole : y ≡ (learn_records (settings_of s) logs x).lent

-- the seed is the first `count` nodes
pub record Deepening (s : Settings) (logs : List Float) (count : ℕ) (x : Records) (r : LearnedTree) (y : Records) : Type 0 where
  pub answers : r ≡ learned_in (deepen single (settings_of s) logs count (lent_in x)).outcome
  pub leaves : lent_in y ≡ (deepen single (settings_of s) logs count (lent_in x)).lent
  pub leaves_whole : y ≡ (deepen_records (settings_of s) logs count x).lent

-- ---- lookup of a row's properties, and contexts, in the tree of the first `count` nodes
abbrev pub LookingUp : List MaNode → ℕ → List ℤ → FoundLeaf → Type 0
LookingUp nodes count ps r = r ≡ found_in (lookup (map stored_of nodes) count ps)

pub record Numbering (nodes : List MaNode) (count : ℕ) (x : ContextLists) (r : Count) (y : ContextLists) : Type 0 where
  pub answers : r ≡ count_in (leaf_contexts (map stored_of nodes) count x).outcome
  pub leaves : y ≡ (leaf_contexts (map stored_of nodes) count x).lent

-- ---- the tree of the first `count` nodes as symbols; and the tree that symbols are, in a node list
abbrev pub symbol_lists : List Symbol → List ℕ → SymbolLists
symbol_lists symbols queue = record { symbols = symbols; queue = queue }

pub record WritingSymbols (nodes : List MaNode) (count : ℕ) (x : SymbolLists) (r : Count) (y : SymbolLists) : Type 0 where
  pub answers : r ≡ count_in (write_symbols (map stored_of nodes) count x).outcome
  pub leaves : y ≡ (write_symbols (map stored_of nodes) count x).lent

pub record ReadingSymbols (symbols : List Symbol) (x : List MaNode) (r : Count) (y : List MaNode) : Type 0 where
  pub answers : r ≡ count_in (read_symbols symbols (map stored_of x)).outcome
  pub leaves : map stored_of y ≡ (read_symbols symbols (map stored_of x)).lent

-- ---- even sampling of so many rows into a list
pub record Sampling (rows target : ℕ) (x : List ℕ) (r : Count) (y : List ℕ) : Type 0 where
  pub answers : r ≡ count_in (sample rows target x).outcome
  pub leaves : y ≡ (sample rows target x).lent

-- ---- packing, the token of a value, and the value of a token
abbrev pub Packing : ℤ → ℕ → Type 0
Packing value r = r ≡ packed value

abbrev pub Encoding : ℕ → Encoded → Type 0
Encoding value r = r ≡ encoded_of value

abbrev pub Reading : ℕ → ℕ → Read → Type 0
Reading token extra r = r ≡ value_in (token_answer token extra)
