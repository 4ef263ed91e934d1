-- Small laws of the operations: what holds of each accepted answer and its lent lists. Assumes nothing.
use mathlib.Core.Path.{◌≡◌, refl, sym, ap, ◌∙◌}
use Prim.Native.Nat.{ℕ, suc, ◌+◌, ◌*◌, ◌/◌, ◌-◌, ◌≤◌, ◌<◌, min, max}
use native.Mathlib.Omega.{arith}
use mathlib.Core.List.{List, map}
use mathlib.Core.Option.{some}
use lib.ListN.{length, get_or, take, drop, replicate, length-map}
use lib.Seq.{length-take-le, take_at, take-length}
use Rattle.model.specs.Lists.{written_over}
use Rattle.model.specs.Meter.{Meter}
use Rattle.model.specs.Settings.{Settings}
use Rattle.model.specs.Standard.{symbol}
use Rattle.model.specs.Rows.{no_span}
use Rattle.model.specs.Tree.{Record, blank_record, nodes_of}
use Rattle.model.specs.Learn.{Result, leaf_count}
use Rattle.model.specs.Contexts.{contexts_of}
use Rattle.model.specs.Symbols.{symbols_of, tree_read}
use Rattle.model.specs.Sampling.{even_sample}
use Rattle.model.specs.Profile.{Profile, job_of}
use Rattle.model.specs.Lent.{Stored, stored, Lent, no_waiting, rows_in, uses_modes, tree_in, lent_after}
use Rattle.model.specs.Refuse.{sample_refusal}
use Rattle.model.specs.Operations.{accepted, Tree, tree_of, learn, deepen, ContextLists, leaf_contexts, SymbolLists, write_symbols, read_symbols, sample}
use Rattle.model.specs.Promise.{span_at, record_at, Unpruned}
use Rattle.model.specs.declared.Symbol.{Symbol}
use Rattle.model.proofs.Lawful.{Lawful}
use Rattle.model.proofs.Places.{length-each, each_at}
use Rattle.model.proofs.Results.{ResultLaws}
use Rattle.model.proofs.Accepted.{learn-accepted, deepen-accepted, contexts-passed, write-passed, read-passed}
use Rattle.model.proofs.Written.{length-written, get_d_written, get_d_unwritten}
use Rattle.model.proofs.NodeEntries.{length-tree, tree-written, entry-written, record_written}
use Rattle.model.proofs.AtExit.{AsLong, Fits, tree_at, as_long}
use Rattle.model.proofs.Vacated.{EntriesOf, learned-entries, deepened-entries}
use Rattle.model.proofs.Tally.{tree-count}
use Rattle.model.proofs.Sound.{same_length, has_root, sound}
use Rattle.model.proofs.ContextNumbers.{Numbers, contexts-number}
use Rattle.model.proofs.Demand3.{learned-fits, deepened-fits}

-- ---- learning and deepening
abbrev pub entry_at : {M : Meter} → Lent M → ℕ → Stored M
entry_at x k = get_or x.nodes k (stored blank_record)

-- After acceptance the answer counts the tree's nodes and leaves, each list is as long as before, queue and count space hold zeros, vacated entries are blank,
-- and entries past those written are unchanged
pub record AfterAcceptance (P : Profile) (t : Settings P.meter) (x : Lent P.meter) (most : ℕ) (a : Tree P.meter) (y : Lent P.meter) : Type 0 where
  pub leaf_count_lem : a.leaves ≡ leaf_count (nodes_of (tree_in a.nodes y.nodes))
  pub node_count : a.nodes + 1 ≡ 2 * a.leaves
  pub lengths : AsLong x y
  pub queue : y.queue ≡ replicate (length x.queue) no_waiting
  pub counts : y.counts ≡ replicate (length x.counts) 0
  -- how many entries were written: those of the tree, and those vacated by pruning
  pub written : ℕ
  pub range : (a.nodes ≤ written) × (written ≤ most)
  -- fields that a written leaf has no use for hold 0
  pub clean : (k : ℕ) → k < written → entry_at y k ≡ stored (record_at y k)
  pub vacated : (k : ℕ) → a.nodes ≤ k → k < written → (entry_at y k ≡ stored blank_record) × (span_at y k ≡ no_span)
  pub unchanged : (k : ℕ) → written ≤ k → (entry_at y k ≡ entry_at x k) × (span_at y k ≡ span_at x k)
  pub unpruned : Unpruned P t → written ≡ a.nodes

after-of : (P : Profile) (t : Settings P.meter) (logs : List P.meter.Cost) (x : Lent P.meter) {most : ℕ} {r : Result P.meter} → Fits (uses_modes t x) x most r → EntriesOf (job_of P t logs (uses_modes t x)) r
    → AfterAcceptance P t x most (tree_of r) (lent_after r x)
unfolding lent_after
after-of P t logs x {r = r} f e =
    let tree = take r.count r.records in
    let nodes = tree-count (nodes_of tree) (sound tree f.kept.sound).rooted (has_root tree f.kept.sound) in
    let entry = entry-written r.records x.nodes in
    let n = length-map r.records stored in
    record {
      leaf_count_lem = e.leaves ∙ ap (λ (l : List (Record P.meter)). leaf_count (nodes_of l)) (sym (tree_at f));
      node_count = omega (arith, e.leaves, same_length tree, length-take-le r.count r.records f.kept.inside);
      lengths = as_long f;
      queue = refl;
      counts = refl;
      written = length r.records;
      range = (f.kept.inside, f.kept.few);
      clean = λ k h. entry k h ∙ ap stored (sym (record_written r.records x.nodes k h));
      vacated = λ k h l. let b = e.blank k h in (entry k l ∙ ap stored b.0, get_d_written r.spans x.spans no_span k (omega (arith, f.kept.paired)) ∙ b.1);
      unchanged = λ k h. (get_d_unwritten (map stored r.records) x.nodes (stored blank_record) k (omega arith), get_d_unwritten r.spans x.spans no_span k (omega (arith, f.kept.paired)));
      unpruned = e.unpruned;
    }

module _ (P : Profile) (law : Lawful P) (laws : ResultLaws law.bounds) (t : Settings P.meter) (logs : List P.meter.Cost) (x y : Lent P.meter) where
  pub learn-after : (a : Tree P.meter) → learn P t logs x ≡ record { outcome = accepted a; lent = y } → AfterAcceptance P t x (2 * t.limit - 1) a y
  learn-after a e =
      let (p, ea, ey) = learn-accepted P t logs x y a e in
      rw (ea, ey) (after-of P t logs x (learned-fits P law laws t logs x p) (learned-entries (job_of P t logs (uses_modes t x)) t.limit (rows_in x)))

  pub deepen-after : (count : ℕ) (a : Tree P.meter) → deepen P t logs count x ≡ record { outcome = accepted a; lent = y } → AfterAcceptance P t x (max (2 * t.limit - 1) count) a y
  deepen-after count a e =
      let (p, s, sound, ea, ey) = deepen-accepted P t logs x y count a e in
      rw (ea, ey) (after-of P t logs x (deepened-fits P law laws t logs x p count s sound) (deepened-entries (job_of P t logs (uses_modes t x)) t.limit (tree_in count x.nodes) (rows_in x)))

-- ---- leaf contexts
-- The answer is the number of leaves, and the contexts written number them; entries past them are unchanged, the queue space holds zeros
pub record ContextsWritten {M : Meter} (nodes : List (Stored M)) (count : ℕ) (x : ContextLists) (leaves : ℕ) (y : ContextLists) : Type 0 where
  pub answer : leaves ≡ leaf_count (nodes_of (tree_in count nodes))
  pub numbers : Numbers (nodes_of (tree_in count nodes)) (take count y.contexts)
  pub past : (i : ℕ) → count ≤ i → get_or y.contexts i 0 ≡ get_or x.contexts i 0
  pub as_long : length y.contexts ≡ length x.contexts
  pub queue : y.queue ≡ replicate (length x.queue) 0

pub contexts-accepted : {M : Meter} (nodes : List (Stored M)) (count : ℕ) (x y : ContextLists) (leaves : ℕ)
    → leaf_contexts nodes count x ≡ record { outcome = accepted leaves; lent = y } → ContextsWritten nodes count x leaves y
contexts-accepted nodes count x y leaves e =
    let tree = tree_in count nodes in
    let contexts = contexts_of (nodes_of tree) in
    let (inside, faultless, room, answer, exit) = contexts-passed nodes count x y leaves e in
    let numbers = contexts-number (nodes_of tree) (sound tree faultless).rooted (has_root tree faultless) in
    let n : length contexts ≡ count = numbers.as_long ∙ same_length tree ∙ length-tree count nodes inside in
    rw exit (record {
      answer = answer;
      numbers = rw (take_at contexts (drop (length contexts) x.contexts) count n) numbers;
      past = λ i l. get_d_unwritten contexts x.contexts 0 i (omega arith);
      as_long = length-written contexts x.contexts (omega arith);
      queue = refl;
    })

-- ---- symbols
-- The answer is how many symbols the tree has, and these are written; those past them are unchanged, the queue space holds zeros
pub record SymbolsPut {M : Meter} (nodes : List (Stored M)) (count : ℕ) (x : SymbolLists) (n : ℕ) (y : SymbolLists) : Type 0 where
  pub answer : n ≡ length (symbols_of (tree_in count nodes))
  pub written : take n y.symbols ≡ symbols_of (tree_in count nodes)
  pub past : (i : ℕ) → n ≤ i → get_or y.symbols i (symbol 0 0) ≡ get_or x.symbols i (symbol 0 0)
  pub as_long : length y.symbols ≡ length x.symbols
  pub queue : y.queue ≡ replicate (length x.queue) 0

pub write-accepted : {M : Meter} (nodes : List (Stored M)) (count : ℕ) (x y : SymbolLists) (n : ℕ)
    → write_symbols nodes count x ≡ record { outcome = accepted n; lent = y } → SymbolsPut nodes count x n y
write-accepted nodes count x y n e =
    let said = symbols_of (tree_in count nodes) in
    let (inside, faultless, room, _, answer, exit) = write-passed nodes count x y n e in
    rw (exit, answer) (record {
      answer = refl;
      written = take_at said (drop (length said) x.symbols) (length said) refl;
      past = λ i l. get_d_unwritten said x.symbols (symbol 0 0) i l;
      as_long = length-written said x.symbols room;
      queue = refl;
    })

-- The answer is how many nodes the tree has that the symbols are, and its records are written; entries past them are unchanged
pub record TreeGot {M : Meter} (symbols : List Symbol) (nodes : List (Stored M)) (n : ℕ) (y : List (Stored M)) : Type 0 where
  pub tree : List (Record M)
  pub is_read : tree_read symbols ≡ some tree
  pub room : length tree ≤ length nodes
  pub answer : n ≡ length tree
  pub written : tree_in n y ≡ tree
  pub clean : (k : ℕ) → k < n → get_or y k (stored blank_record) ≡ stored (get_or tree k blank_record)
  pub past : (k : ℕ) → n ≤ k → get_or y k (stored blank_record) ≡ get_or nodes k (stored blank_record)
  pub as_long : length y ≡ length nodes

pub read-accepted : {M : Meter} (symbols : List Symbol) (nodes y : List (Stored M)) (n : ℕ)
    → read_symbols symbols nodes ≡ record { outcome = accepted n; lent = y } → TreeGot symbols nodes n y
read-accepted {M} symbols nodes y n e = let (t, is_read, room, answer, exit) = read-passed symbols nodes y n e in got t is_read room answer exit
  where
    got : (t : List (Record M)) → tree_read symbols ≡ some t → length t ≤ length nodes → n ≡ length t → y ≡ written_over (map stored t) nodes → TreeGot symbols nodes n y
    got t is_read room answer exit =
        let m = length-map t stored in
        rw (answer, exit) (record {
          tree = t;
          is_read = is_read;
          room = room;
          answer = refl;
          written = tree-written t nodes (length t) (omega arith) ∙ take-length t;
          clean = entry-written t nodes;
          past = λ k l. get_d_unwritten (map stored t) nodes (stored blank_record) k (omega arith);
          as_long = length-written (map stored t) nodes (omega arith);
        })

-- ---- even sampling
-- the row numbers picked: so many, evenly spread, ascending; entries past them are unchanged
pub record Sampled (rows target : ℕ) (out : List ℕ) (picked : ℕ) (y : List ℕ) : Type 0 where
  pub number : picked ≡ min rows target
  pub each : (i : ℕ) → i < picked → get_or y i 0 ≡ i * rows / picked
  pub below : (i : ℕ) → i < picked → get_or y i 0 < rows
  pub ascending : (i : ℕ) → suc i < picked → get_or y i 0 < get_or y (suc i) 0
  pub past : (i : ℕ) → picked ≤ i → get_or y i 0 ≡ get_or out i 0
  pub as_long : length y ≡ length out

module _ (rows target : ℕ) where
  length_even : length (even_sample rows target) ≡ min rows target
  unfolding even_sample
  length_even = length-each (λ (k : ℕ). k * rows / min rows target) 0 (min rows target)

  even_at : (i : ℕ) → i < min rows target → get_or (even_sample rows target) i 0 ≡ i * rows / min rows target
  unfolding even_sample
  even_at i h = each_at (λ (k : ℕ). k * rows / min rows target) (min rows target) i 0 h

pub sample-accepted : (rows target : ℕ) (out y : List ℕ) (picked : ℕ) → sample rows target out ≡ record { outcome = accepted picked; lent = y } → Sampled rows target out picked y
unfolding sample sample_refusal
sample-accepted rows target out y picked e = search (arith, length_even, get_d_written, even_at, get_d_unwritten, length-written)
