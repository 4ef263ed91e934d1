-- The public operations on trees and rows: what each answers, and what each lent list holds afterwards (document 01, "Which number comes back"; document 02, c).
-- A refusal leaves each lent list as it was. Packing and the token of a value, which refuse nothing, stand in Pack and Token. Assumes nothing.
use Rattle.std.specs.Prelude.{ℕ, List, [], map, length, get_or, replicate, ℤ}
use Rattle.std.proofs.Math.Option.{Option, none, some}
use Rattle.model.specs.Lists.{written_over}
use Rattle.model.specs.Meter.{Meter}
use Rattle.model.specs.Settings.{Settings}
use Rattle.model.specs.Token.{value_of}
use Rattle.model.specs.Tree.{Record, blank_record, nodes_of, leaf_reached}
use Rattle.model.specs.Contexts.{contexts_of}
use Rattle.model.specs.Symbols.{symbols_of, tree_read}
use Rattle.model.specs.Learn.{Result, leaf_count, learned}
use Rattle.model.specs.Deepen.{deepened}
use Rattle.model.specs.Sampling.{even_sample}
use Rattle.model.specs.Profile.{Profile, job_of}
use Rattle.model.specs.Lent.{Stored, stored, Lent, rows_in, uses_modes, tree_in, lent_after}
use Rattle.model.specs.Refuse.{Refusal, learn_refusal, deepen_refusal, lookup_refusal, contexts_refusal, write_refusal, read_refusal, sample_refusal, token_refusal}
use Rattle.model.specs.declared.Symbol.{Symbol}

pub data Outcome (A : Type 0) : Type 0 where
  refused : Refusal → Outcome A
  accepted : A → Outcome A

-- an outcome, and what the lent lists hold at exit
pub record After (A L : Type 0) : Type 0 where
  pub outcome : Outcome A
  pub lent : L

-- a refusal leaves the lists as they were at entry
abbrev pub unless : {A L : Type 0} → Option Refusal → L → A → L → After A L
unless (some r) entry answer exit = record { outcome = refused r; lent = entry }
unless none entry answer exit = record { outcome = accepted answer; lent = exit }

-- ---- learning and deepening
-- the answer: node count, leaf count, estimated bits, flat bits
pub record Tree (M : Meter) : Type 0 where
  pub nodes : ℕ
  pub leaves : ℕ
  pub bits : M.Total
  pub flat : M.Total

abbrev pub tree_of : {M : Meter} → Result M → Tree M
tree_of r = record { nodes = r.count; leaves = r.leaves; bits = r.bits; flat = r.flat }

module _ (P : Profile) (t : Settings P.meter) (logs : List P.meter.Cost) where
  unfoldable pub learn : Lent P.meter → After (Tree P.meter) (Lent P.meter)
  learn x =
      let r = learned (job_of P t logs (uses_modes t x)) t.limit (rows_in x) in
      let answer = tree_of r in
      let exit = lent_after r x in
      unless (learn_refusal P t logs x) x answer exit

  -- the seed is the first `count` nodes of the lent list
  unfoldable pub deepen : ℕ → Lent P.meter → After (Tree P.meter) (Lent P.meter)
  deepen count x =
      let r = deepened (job_of P t logs (uses_modes t x)) t.limit (tree_in count x.nodes) (rows_in x) in
      let answer = tree_of r in
      let exit = lent_after r x in
      unless (deepen_refusal P t logs count x) x answer exit

-- ---- lookup: the leaf's number and predictor
pub record Found : Type 0 where
  pub leaf : ℕ
  pub pred : ℕ

abbrev pub outcome_of : {A : Type 0} → Option Refusal → A → Outcome A
outcome_of (some r) answer = refused r
outcome_of none answer = accepted answer

unfoldable pub lookup : {M : Meter} → List (Stored M) → ℕ → List ℤ → Outcome Found
lookup nodes count ps =
    let tree = tree_in count nodes in
    let i = leaf_reached (nodes_of tree) ps in
    let answer : Found = record { leaf = i; pred = (get_or tree i blank_record).info.pred } in
    outcome_of (lookup_refusal nodes count ps) answer

-- ---- leaf contexts: how many there are; the contexts written, the queue space zero
pub record ContextLists : Type 0 where
  pub contexts : List ℕ
  pub queue : List ℕ

unfoldable pub leaf_contexts : {M : Meter} → List (Stored M) → ℕ → ContextLists → After ℕ ContextLists
leaf_contexts nodes count x =
    let tree = nodes_of (tree_in count nodes) in
    let answer = leaf_count tree in
    let exit : ContextLists = record { contexts = written_over (contexts_of tree) x.contexts; queue = replicate (length x.queue) 0 } in
    unless (contexts_refusal nodes count x.contexts x.queue) x answer exit

-- ---- symbols: how many there are; the symbols written, the queue space zero
pub record SymbolLists : Type 0 where
  pub symbols : List Symbol
  pub queue : List ℕ

unfoldable pub write_symbols : {M : Meter} → List (Stored M) → ℕ → SymbolLists → After ℕ SymbolLists
write_symbols nodes count x =
    let said = symbols_of (tree_in count nodes) in
    let answer = length said in
    let exit : SymbolLists = record { symbols = written_over said x.symbols; queue = replicate (length x.queue) 0 } in
    unless (write_refusal nodes count x.symbols x.queue) x answer exit

-- the tree that symbols are: how many nodes it has; its records written
abbrev pub nodes_in : {M : Meter} → Option (List (Record M)) → List (Record M)
nodes_in none = []
nodes_in (some tree) = tree

unfoldable pub read_symbols : {M : Meter} → List Symbol → List (Stored M) → After ℕ (List (Stored M))
read_symbols symbols nodes =
    let read = tree_read symbols in
    let answer = length (nodes_in read) in
    let exit = written_over (map stored (nodes_in read)) nodes in
    unless (read_refusal read nodes) nodes answer exit

-- ---- even sampling: how many are picked; their row numbers
unfoldable pub sample : ℕ → ℕ → List ℕ → After ℕ (List ℕ)
sample rows target out =
    let picked = even_sample rows target in
    let answer = length picked in
    let exit = written_over picked out in
    unless (sample_refusal rows target out) out answer exit

-- ---- value of a token
unfoldable pub token_answer : ℕ → ℕ → Outcome ℕ
token_answer t extra = outcome_of (token_refusal t extra) (value_of t extra)
