-- An accepted run of a public operation is the model's operation, with its answer and its lists. Assumes nothing.
use mathlib.Core.Path.{◌≡◌, sym, ap}
use mathlib.Core.List.{List, map}
use mathlib.Core.Option.{Option, none, some}
use Prim.Native.Nat.{ℕ}
use lib.IntN.{ℤ}
use lib.Ieee.{Float}
use Rattle.model.specs.Single.{singles}
use Rattle.model.specs.Profile.{single}
use Rattle.model.specs.Symbols.{tree_read}
use Rattle.model.specs.Lent.{Lent}
use Rattle.model.specs.Refuse.{Refusal, learn_refusal, deepen_refusal, lookup_refusal, contexts_refusal, write_refusal, read_refusal}
use Rattle.model.specs.Operations.{accepted, After, unless, outcome_of, Tree, Found, learn, deepen, lookup, ContextLists, leaf_contexts, SymbolLists, write_symbols, read_symbols}
use Rattle.model.specs.declared.Symbol.{Symbol}
use Rattle.refuse.specs.Given.{settings_of}
use Rattle.refuse.specs.declared.Settings.{Settings}
use Rattle.layout.specs.Records.{stored_of}
use Rattle.layout.specs.declared.MaNode.{MaNode}
use Rattle.answers.specs.Answers.{learned_in, found_in, count_in}
use Rattle.answers.specs.declared.Count.{Count}
use Rattle.answers.specs.declared.FoundLeaf.{FoundLeaf}
use Rattle.answers.specs.declared.LearnedTree.{LearnedTree}
use Rattle.border.specs.Lists.{Records, lent_in}
use Rattle.ma_tree.specs.Runs.{Learning, Deepening, LookingUp, Numbering, WritingSymbols, ReadingSymbols}
use Rattle.promises.specs.Demand3.{answered}
use Rattle.promises.proofs.Numbered.{Numbered, no_nought, learn-numbered, deepen-numbered, lookup-numbered, contexts-numbered, write-numbered, read-numbered}

-- ---- an accepted answer says that nothing was refused, and what was answered
module _ {L : Type 0} (entry exit : L) where
  tree-told : (answer : Tree singles) (o : Option Refusal) (a : Tree singles) → Numbered o → answered a ≡ learned_in (unless o entry answer exit).outcome
      → (unless o entry answer exit).outcome ≡ accepted a
  tree-told answer none a h e = ap (λ (r : LearnedTree). accepted (record { nodes = r.nodes; leaves = r.leaves; bits = r.bits; flat = r.flat })) (sym e)
  tree-told answer (some r) a h e = absurd (no_nought r h (ap (λ (l : LearnedTree). l.number) e))

  counted : (answer : ℕ) (o : Option Refusal) (n : ℕ) → Numbered o → count_in (accepted n) ≡ count_in (unless o entry answer exit).outcome
      → (unless o entry answer exit).outcome ≡ accepted n
  counted answer none n h e = ap (λ (c : Count). accepted c.count) (sym e)
  counted answer (some f) n h e = absurd (no_nought f h (ap (λ (c : Count). c.number) e))

leaf-told : (o : Option Refusal) (answer f : Found) → Numbered o → found_in (accepted f) ≡ found_in (outcome_of o answer) → outcome_of o answer ≡ accepted f
leaf-told none answer f h e = ap (λ (r : FoundLeaf). accepted (record { leaf = r.leaf; pred = r.pred })) (sym e)
leaf-told (some r) answer f h e = absurd (no_nought r h (ap (λ (l : FoundLeaf). l.number) e))

-- ---- the operations
ran : {A L : Type 0} (a : A) (y : L) (w : After A L) → w.outcome ≡ accepted a → y ≡ w.lent → w ≡ record { outcome = accepted a; lent = y }
ran a y w told left = λ i. record { outcome = told i; lent = sym left i }

abbrev pub Ran : Tree singles → Records → After (Tree singles) (Lent singles)
Ran a y = record { outcome = accepted a; lent = lent_in y }

pub learnt : (s : Settings) (logs : List Float) (x y : Records) (a : Tree singles) → Learning s logs x (answered a) y → learn single (settings_of s) logs (lent_in x) ≡ Ran a y
unfolding learn learn_refusal
learnt s logs x y a run = ran a (lent_in y) (learn single (settings_of s) logs (lent_in x))
    (tree-told (lent_in x) _ _ (learn_refusal single (settings_of s) logs (lent_in x)) a (learn-numbered (settings_of s) logs (lent_in x)) run.answers) run.leaves

pub deepened : (s : Settings) (logs : List Float) (count : ℕ) (x y : Records) (a : Tree singles) → Deepening s logs count x (answered a) y
    → deepen single (settings_of s) logs count (lent_in x) ≡ Ran a y
unfolding deepen deepen_refusal
deepened s logs count x y a run = ran a (lent_in y) (deepen single (settings_of s) logs count (lent_in x))
    (tree-told (lent_in x) _ _ (deepen_refusal single (settings_of s) logs count (lent_in x)) a (deepen-numbered (settings_of s) logs count (lent_in x)) run.answers) run.leaves

pub looked_up : (nodes : List MaNode) (count : ℕ) (ps : List ℤ) (f : Found) → LookingUp nodes count ps (found_in (accepted f)) → lookup (map stored_of nodes) count ps ≡ accepted f
unfolding lookup lookup_refusal
looked_up nodes count ps f run = leaf-told (lookup_refusal (map stored_of nodes) count ps) _ f (lookup-numbered (map stored_of nodes) count ps) run

pub numbered : (nodes : List MaNode) (count leaves : ℕ) (x y : ContextLists) → Numbering nodes count x (count_in (accepted leaves)) y
    → leaf_contexts (map stored_of nodes) count x ≡ record { outcome = accepted leaves; lent = y }
unfolding leaf_contexts
numbered nodes count leaves x y run =
    let o = contexts_refusal (map stored_of nodes) count x.contexts x.queue in
    ran leaves y (leaf_contexts (map stored_of nodes) count x) (counted x _ _ o leaves (contexts-numbered (map stored_of nodes) count x.contexts x.queue) run.answers) run.leaves

pub written : (nodes : List MaNode) (count n : ℕ) (x y : SymbolLists) → WritingSymbols nodes count x (count_in (accepted n)) y
    → write_symbols (map stored_of nodes) count x ≡ record { outcome = accepted n; lent = y }
unfolding write_symbols
written nodes count n x y run =
    let o = write_refusal (map stored_of nodes) count x.symbols x.queue in
    ran n y (write_symbols (map stored_of nodes) count x) (counted x _ _ o n (write-numbered (map stored_of nodes) count x.symbols x.queue) run.answers) run.leaves

pub read : (symbols : List Symbol) (count : ℕ) (x y : List MaNode) → ReadingSymbols symbols x (count_in (accepted count)) y
    → read_symbols symbols (map stored_of x) ≡ record { outcome = accepted count; lent = map stored_of y }
unfolding read_symbols
read symbols count x y run =
    let o = read_refusal (tree_read symbols) (map stored_of x) in
    ran count (map stored_of y) (read_symbols symbols (map stored_of x)) (counted (map stored_of x) _ _ o count (read-numbered (tree_read symbols) (map stored_of x)) run.answers) run.leaves
