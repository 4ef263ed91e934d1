-- Jobs of the stream and how the model answers them. Numbers stand as in the job stream: 32-bit words, floats as their bit patterns. Assumes nothing.
use Prim.Native.Nat.{ℕ, zero, suc, ◌+◌, ◌-◌, ◌%◌, ◌^◌}
use mathlib.Core.Bool.{cond}
use mathlib.Core.List.{List, [], ◌∷◌, ◌++◌, map}
use mathlib.Core.Option.{none}
use lib.ListN.{length, replicate, take, drop}
use lib.Signed.{lt_z}
use lib.IntN.{ℤ, pos, negsuc}
use lib.Dec.{eqb, ltb}
use lib.Ieee.{Float, binary32, binary64, of_bits}
use Rattle.model.specs.Lists.{range}
use Rattle.model.specs.Settings.{Settings, toks_per_row}
use Rattle.model.specs.Pack.{packed}
use Rattle.model.specs.Token.{encoded_of}
use Rattle.model.specs.Rows.{Span, Row}
use Rattle.model.specs.Partition.{above_rows, other_rows}
use Rattle.model.specs.Mode.{mode, zero_token}
use Rattle.model.specs.Candidates.{candidates_of}
use Rattle.model.specs.Score.{Score, nothing, threshold, score_of}
use Rattle.model.specs.Grow.{Entry}
use Rattle.model.specs.Prune.{pruned_tree, pruned_bits}
use Rattle.model.specs.Learn.{result_of}
use Rattle.model.specs.Single.{singles}
use Rattle.model.specs.Profile.{single}
use Rattle.model.specs.Lent.{Stored, record_in, stored, Waiting, Lent}
use Rattle.model.specs.Operations.{Outcome, refused, accepted, After, Tree, Found, ContextLists, SymbolLists, learn, deepen, lookup, leaf_contexts, write_symbols, read_symbols, sample, token_answer}
use Rattle.model.specs.declared.Symbol.{Symbol}

-- a 32-bit word as a signed number, and a list of them
abbrev pub word : ℕ → ℤ
word n = cond (ltb n (2 ^ 31)) (pos n) (negsuc (2 ^ 32 - 1 - n))

abbrev pub words : List ℕ → List ℤ
words = map word

abbrev pub f32 : ℕ → Float
f32 = of_bits binary32

abbrev pub f64 : ℕ → Float
f64 = of_bits binary64

-- x, x + step, .., n numbers in all, and then the rest
abbrev pub run : ℕ → ℕ → ℕ → List ℕ → List ℕ
run zero x step rest = rest
run (suc n) x step rest = x ∷ run n (x + step) step rest

-- a record of nine words
abbrev pub node : ℕ → ℕ → ℕ → ℕ → ℕ → ℕ → ℕ → ℕ → ℕ → Stored singles
node kind prop val gt le cost pred offset depth =
    record { kind = kind; prop = prop; val = word val; gt = gt; le = le; info = record { cost = f32 cost; pred = pred; offset = word offset }; depth = depth }

-- entry i of a node list past the records given
abbrev pub fill_node : ℕ → Stored singles
fill_node v = let w = v % 2 ^ 32 in node (w % 2) (w % 24) w w w (w % 2 ^ 30) (w % 14) w w

abbrev pub fill_nodes : ℕ → ℕ → ℕ → List (Stored singles)
fill_nodes fill first count = map (λ (i : ℕ). fill_node (fill + i)) (range first count)

abbrev pub pair : ℕ → ℕ → Symbol
pair context value = record { context = context; value = value }

abbrev pub fill_pairs : ℕ → ℕ → ℕ → List Symbol
fill_pairs fill first count = map (λ (i : ℕ). pair ((fill + i) % 2 ^ 32) ((fill + i + 1) % 2 ^ 32)) (range first count)

abbrev pub span : ℕ → ℕ → Span
span first end = record { first = first; end = end }

abbrev pub fill_spans : ℕ → ℕ → ℕ → List Span
fill_spans fill first count = map (λ (i : ℕ). span ((fill + i) % 2 ^ 32) ((fill + i + 1) % 2 ^ 32)) (range first count)

abbrev pub fill_waiting : ℕ → Waiting singles
fill_waiting v = record { node = v; depth = v; offer = record { prop = v; val = word v; gain = f32 (v % 2 ^ 30); below = v } }

abbrev pub settings : ℕ → ℕ → ℕ → ℕ → ℕ → ℕ → ℕ → ℕ → ℕ → ℕ → ℕ → Settings singles
settings alphabet limit split_cost price smallest sides candidates weighted allowed modal settling =
    record {
      alphabet = alphabet;
      limit = limit;
      split_cost = f32 split_cost;
      price = f32 price;
      smallest = smallest;
      sides = sides;
      candidates = candidates;
      weighted = eqb weighted 1;
      allowed = allowed;
      modal = eqb modal 1;
      settling = eqb settling 1;
    }

-- the lists lent: rows, a node list of records given and filled up, and `spans`, `queue` and `counts` entries that hold the filling
abbrev pub lent : List ℕ → List ℕ → List ℕ → List (Stored singles) → ℕ → ℕ → ℕ → ℕ → Lent singles
lent props toks res nodes spans queue counts fill =
    record {
      props = words props;
      toks = toks;
      res = words res;
      nodes = nodes;
      spans = fill_spans fill 0 spans;
      queue = replicate queue (fill_waiting fill);
      counts = replicate counts fill;
    }

-- ---- jobs
-- a whole job of the stream, or a single part of the learner
pub data Job : Type 0 where
  learning : Settings singles → List ℕ → Lent singles → Job
  deepening : Settings singles → List ℕ → ℕ → Lent singles → Job
  looking : ℕ → List (Stored singles) → List ℕ → Job
  numbering : ℕ → List (Stored singles) → ContextLists → Job
  writing : ℕ → List (Stored singles) → SymbolLists → Job
  parsing : List Symbol → List (Stored singles) → Job
  sampling : ℕ → ℕ → List ℕ → Job
  packing : List ℕ → Job
  encoding : List ℕ → Job
  reading : List (ℕ × ℕ) → Job
  mode_step : List ℕ → Job
  thresholds : List ℕ → ℕ → Job
  parting : List ℕ → ℕ → Job
  pruning : ℕ → List (Stored singles) → List Span → Job
  scoring : ℕ → List ℕ → List ℕ → List ℕ → List ℕ → List ℕ → Job

pub data Answer : Type 0 where
  grown : After (Tree singles) (Lent singles) → Answer
  found : Outcome Found → Answer
  numbered : After ℕ ContextLists → Answer
  written : After ℕ SymbolLists → Answer
  parsed : After ℕ (List (Stored singles)) → Answer
  sampled : After ℕ (List ℕ) → Answer
  naturals : List ℕ → Answer
  encodings : List (List ℕ) → Answer
  rebased_to : ℤ → List ℕ → Answer
  integers : List ℤ → Answer
  parted : ℕ → List ℤ → Answer
  pruned_to : Float → ℕ → List (Stored singles) → List Span → Answer
  scored : Score singles → Answer

-- a record of the stream as an entry of a tree
abbrev entry : Stored singles → Span → Entry singles
entry r s = record { node = (record_in r).node; info = r.info; span = s; depth = r.depth; offer = none }

abbrev entries : List (Stored singles) → List Span → List (Entry singles)
entries [] ss = []
entries (r ∷ rs) [] = []
entries (r ∷ rs) (s ∷ ss) = entry r s ∷ entries rs ss

-- pruning alone: the estimated bits, and all entries, vacated ones blank
abbrev pruned_answer : Float → List (Entry singles) → Answer
pruned_answer price tree =
    let r = result_of {M = singles} (record { rows = []; tree = pruned_tree price tree; bits = pruned_bits {M = singles} price tree }) (length tree) (f64 0) in
    pruned_to r.bits r.count (map stored r.records) r.spans

-- rows of one property, and the settings that scoring looks at
abbrev column_rows : List ℕ → List ℕ → List Row
column_rows [] toks = []
column_rows (v ∷ vs) toks = record { props = word v ∷ []; toks = take toks_per_row toks; res = pos 0 } ∷ column_rows vs (drop toks_per_row toks)

abbrev with_alphabet : ℕ → Settings singles
with_alphabet alphabet = settings alphabet 0 0 0 0 0 0 0 0 0 0

-- number, place and value
abbrev value_words : Outcome ℕ → List ℕ
value_words (accepted v) = 0 ∷ 0 ∷ v ∷ []
value_words (refused r) = r.number ∷ r.place ∷ 0 ∷ []

-- what the model answers
abbrev pub answer_to : Job → Answer
answer_to (learning t logs x) = grown (learn single t (map f32 logs) x)
answer_to (deepening t logs count x) = grown (deepen single t (map f32 logs) count x)
answer_to (looking count nodes ps) = found (lookup nodes count (words ps))
answer_to (numbering count nodes x) = numbered (leaf_contexts nodes count x)
answer_to (writing count nodes x) = written (write_symbols nodes count x)
answer_to (parsing symbols nodes) = parsed (read_symbols symbols nodes)
answer_to (sampling rows target out) = sampled (sample rows target out)
answer_to (packing vs) = naturals (map (λ (v : ℕ). packed (word v)) vs)
answer_to (encoding vs) = encodings (map (λ (v : ℕ). let e = encoded_of v in e.token ∷ e.nbits ∷ e.bits ∷ []) vs)
answer_to (reading ts) = encodings (map (λ (t : ℕ × ℕ). value_words (token_answer t.0 t.1)) ts)
answer_to (mode_step rs) = let m = mode (words rs) in rebased_to m (map (λ (r : ℕ). zero_token m (word r)) rs)
answer_to (thresholds column most) = integers (candidates_of most (words column))
answer_to (parting column val) =
    let above = above_rows (lt_z (word val)) (words column) in
    parted (length above) (above ++ other_rows (lt_z (word val)) (words column))
answer_to (pruning price nodes spans) = pruned_answer (f32 price) (entries nodes spans)
answer_to (scoring alphabet column toks preds cands logs) =
    scored (score_of {M = singles} (with_alphabet alphabet) (map f32 logs) preds 0 (column_rows column toks) (words cands))

-- ---- answers as the stream writes them
-- an acceptance, and the lists at exit
abbrev pub tree : ℕ → ℕ → ℕ → ℕ → Lent singles → Answer
tree nodes leaves bits flat x = grown (record { outcome = accepted (record { nodes = nodes; leaves = leaves; bits = f64 bits; flat = f64 flat }); lent = x })

abbrev pub refused_tree : ℕ → ℕ → Lent singles → Answer
refused_tree number place x = grown (record { outcome = refused (record { number = number; place = place }); lent = x })

abbrev pub leaf_at : ℕ → ℕ → Answer
leaf_at leaf pred = found (accepted (record { leaf = leaf; pred = pred }))

abbrev pub no_leaf_at : ℕ → ℕ → Answer
no_leaf_at number place = found (refused (record { number = number; place = place }))

-- 0 for the number: accepted
abbrev outcome : ℕ → ℕ → ℕ → Outcome ℕ
outcome number place n = cond (eqb number 0) (accepted n) (refused (record { number = number; place = place }))

abbrev pub contexts_are : ℕ → ℕ → ℕ → List ℕ → List ℕ → Answer
contexts_are number place n contexts queue = numbered (record { outcome = outcome number place n; lent = record { contexts = contexts; queue = queue } })

abbrev pub symbols_are : ℕ → ℕ → ℕ → List Symbol → List ℕ → Answer
symbols_are number place n symbols queue = written (record { outcome = outcome number place n; lent = record { symbols = symbols; queue = queue } })

abbrev pub tree_is : ℕ → ℕ → ℕ → List (Stored singles) → Answer
tree_is number place n nodes = parsed (record { outcome = outcome number place n; lent = nodes })

abbrev pub sample_is : ℕ → ℕ → ℕ → List ℕ → Answer
sample_is number place n out = sampled (record { outcome = outcome number place n; lent = out })

-- the winning threshold, its cost, and how many rows are at or under it
abbrev pub best_at : ℕ → ℕ → ℕ → Answer
best_at val cost below = scored (threshold (word val) (f32 cost) below)

abbrev pub none_scored : Answer
none_scored = scored nothing
