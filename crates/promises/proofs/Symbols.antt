-- What document 02, c, says of runs of writing and reading symbols, from the model's laws and the contracts. Assumes nothing.
use mathlib.Core.Path.{◌≡◌, refl, sym, ap, ◌∙◌}
use mathlib.Core.List.{List, [], map}
use mathlib.Core.Option.{some}
use Prim.Native.Nat.{ℕ}
use native.Mathlib.Omega.{arith}
use lib.ListN.{length, take, length-map}
use lib.Seq.{take_all}
use lib.Ieee.{Float}
use Rattle.model.specs.Settings.{Settings}
use Rattle.model.specs.Single.{singles}
use Rattle.model.specs.Profile.{single, job_of}
use Rattle.model.specs.Tree.{Record}
use Rattle.model.specs.Deepen.{deepened as deepened_tree}
use Rattle.model.specs.Symbols.{tree_read}
use Rattle.model.specs.Lent.{Lent, rows_in, uses_modes, tree_in, lent_after}
use Rattle.model.specs.Operations.{accepted, After, Tree, deepen, write_symbols, read_symbols}
use Rattle.model.specs.Promise.{Unpruned}
use Rattle.model.specs.SymbolsKept.{SymbolsKept}
use Rattle.model.specs.declared.Symbol.{Symbol}
use Rattle.model.proofs.Accepted.{write-passed, deepened_from, deepen-accepted}
use Rattle.model.proofs.NodeEntries.{tree-written}
use Rattle.model.proofs.OperationLaws.{read-accepted}
use Rattle.model.proofs.Rowless.{read-rowless}
use Rattle.model.proofs.StandardLookup.{sound_is_standard}
use Rattle.model.proofs.StandardContexts.{contexts_are_standard}
use Rattle.model.proofs.StandardSymbols.{symbols_are_standard, read_is_standard}
use Rattle.model.proofs.SymbolRuns.{symbols-kept}
use Rattle.refuse.specs.Given.{settings_of}
use Rattle.layout.specs.Records.{stored_of}
use Rattle.layout.specs.declared.MaNode.{MaNode}
use Rattle.answers.specs.Answers.{count_in}
use Rattle.answers.specs.declared.Count.{Count}
use Rattle.border.specs.Lists.{lent_in}
use Rattle.promises.specs.Symbols.{Symbols}
use Rattle.promises.proofs.Ran.{deepened, looked_up, numbered, written, read}

-- what an accepted operation answers and leaves, a run of it does
told : {L : Type 0} (w : After ℕ L) (n : ℕ) (exit : L) {r : Count} {y : L} → w ≡ record { outcome = accepted n; lent = exit } → r ≡ count_in w.outcome → y ≡ w.lent
    → (r ≡ count_in (accepted n)) × (y ≡ exit)
told w n exit e answer left = (answer ∙ ap (λ (v : After ℕ _). count_in v.outcome) e, left ∙ ap (λ (v : After ℕ _). v.lent) e)

-- a tree that was read of symbols, deepened with no rows and unpruned, stays
undeepened : (t : Settings singles) (logs : List Float) (symbols : List Symbol) (tree : List (Record singles)) (count : ℕ) (x y : Lent singles) (a : Tree singles)
    → tree_read symbols ≡ some tree → Unpruned single t → tree_in count x.nodes ≡ tree → x.props ≡ [] → deepen single t logs count x ≡ record { outcome = accepted a; lent = y }
    → (a.nodes ≡ length tree) × (tree_in (length tree) y.nodes ≡ tree)
unfolding lent_after
undeepened t logs symbols tree count x y a is unpruned here bare e =
    let j = job_of single t logs (uses_modes t x) in
    let none_given : rows_in x ≡ [] = rw bare refl in
    let same : deepened_from single t logs count x ≡ deepened_tree j t.limit tree [] = rw (here, none_given) refl in
    let (n, records) = read-rowless j t.limit symbols tree is unpruned in
    let (_, _, _, ea, ey) = deepen-accepted single t logs x y count a e in
    let whole = tree-written tree x.nodes (length tree) (omega arith) ∙ take_all (length tree) tree (omega arith) in
    (ap (λ (b : Tree singles). b.nodes) ea ∙ rw same n, rw (ey, same, records) whole)

abbrev kept : SymbolsKept singles
kept = symbols-kept singles

pub symbols : Symbols
symbols = record {
  transmits = λ nodes count n x y contexts run.
      let e = written nodes count n x y run in
      let (_, faultless, _, _, _, _) = write-passed (map stored_of nodes) count x y n e in
      let (t, is) = sound_is_standard (map stored_of nodes) count faultless contexts in
      (t, is, symbols_are_standard (map stored_of nodes) count n x y e contexts t is);
  decodes = λ nodes count n leaves x y v w run numbers.
      let (t, d) = contexts_are_standard (map stored_of nodes) count v w leaves (numbered nodes count leaves v w numbers) in
      (t, d, symbols_are_standard (map stored_of nodes) count n x y (written nodes count n x y run) w.contexts t d.is-tree);
  written_read = λ nodes count n x y room z r run fits again.
      let (accepts, is) = kept.written_read (map stored_of nodes) count n x y (map stored_of room) (written nodes count n x y run) (omega (arith, length-map room stored_of)) in
      let (answer, left) = told (read_symbols (take n y.symbols) (map stored_of room)) count _ accepts again.answers again.leaves in
      (answer, left, rw (← left) at is);
  reads = λ symbols count room z run. kept.reads symbols (map stored_of room) (map stored_of z) count (read symbols count room z run);
  reads_standard = λ symbols count room z contexts run.
      let e = read symbols count room z run in
      let (t, is) = sound_is_standard (map stored_of z) count (kept.reads symbols (map stored_of room) (map stored_of z) count e).sound contexts in
      (t, is, read_is_standard symbols (map stored_of room) (map stored_of z) count e contexts t is);
  rowless = λ symbols count room z run s logs x y a unpruned here bare deep.
      let e = read symbols count room z run in
      let got = read-accepted symbols (map stored_of room) (map stored_of z) count e in
      let lent = ap (λ (l : List MaNode). tree_in count (map stored_of l)) here ∙ got.written in
      let (n, same) = undeepened (settings_of s) logs symbols got.tree count (lent_in x) (lent_in y) a got.is_read unpruned lent bare (deepened s logs count x y a deep) in
      (n ∙ sym got.answer, ap (λ (k : ℕ). tree_in k (map stored_of y.nodes)) got.answer ∙ same ∙ sym got.written);
  read_written = λ symbols count room z x y r run fits queue again.
      told (write_symbols (map stored_of z) count x) (length symbols) _
      (kept.read_written symbols (map stored_of room) (map stored_of z) count x (read symbols count room z run) fits queue) again.answers again.leaves;
  looked_up = looked_up;
  numbered = numbered;
}
