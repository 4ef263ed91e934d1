-- The starred rows of document 01's bench table, as one table: what the definitions give, and what the paper says. Assumes nothing.
use Rattle.std.specs.Prelude.{ℕ, false, List, [], ◌∷◌, ◌++◌, map, length, get_or, replicate, ℤ, pos, negsuc, Float}
use Rattle.std.proofs.Math.Option.{none}
use Rattle.std.specs.Int.Signed.{lt_z}
use Rattle.std.specs.Float.{fin}
use Rattle.model.specs.Settings.{Settings}
use Rattle.model.specs.Pack.{packed}
use Rattle.model.specs.Token.{encoded_of}
use Rattle.model.specs.Rows.{no_span}
use Rattle.model.specs.Partition.{above_rows, other_rows}
use Rattle.model.specs.Mode.{mode}
use Rattle.model.specs.Candidates.{stride, candidates_of}
use Rattle.model.specs.Tree.{Node, split, leaf, Record, blank_record}
use Rattle.model.specs.Grow.{Entry}
use Rattle.model.specs.Prune.{pruned_tree, pruned_bits}
use Rattle.model.specs.Single.{singles, single_of}
use Rattle.model.specs.Profile.{single}
use Rattle.model.specs.Lent.{Stored, record_in, stored_node, stored, Lent, no_waiting}
use Rattle.model.specs.Operations.{Outcome, refused, accepted, After, Tree, ContextLists, learn, leaf_contexts, sample}

-- an entry of the table: a whole number, or a number of bits
pub data Cell : Type 0 where
  whole : ℤ → Cell
  bits : Float → Cell

abbrev pub naturals : List ℕ → List Cell
naturals = map (λ (n : ℕ). whole (pos n))

abbrev pub integers : List ℤ → List Cell
integers = map whole

abbrev pub ints : List ℕ → List ℤ
ints = map pos

-- token, extra-bit count, extra bits
abbrev pub encoded : ℕ → List ℕ
encoded v = let e = encoded_of v in e.token ∷ e.nbits ∷ e.bits ∷ []

-- ---- no rows, only predictor 5
abbrev pub only_five : Settings singles
only_five =
    record {
      alphabet = 1;
      limit = 1;
      split_cost = fin false 0 (pos 0);
      price = fin false 0 (pos 0);
      smallest = 0;
      sides = 0;
      candidates = 0;
      weighted = false;
      allowed = 32;
      modal = false;
      settling = false;
    }

abbrev pub no_rows : Lent singles
no_rows =
    record { props = []; toks = []; res = []; nodes = stored blank_record ∷ []; spans = no_span ∷ []; queue = no_waiting ∷ []; counts = replicate 4152 7 }

-- node count, leaf count, both bit totals; then node 0: 1 for a leaf, its predictor and offset
abbrev pub shown_learning : After (Tree singles) (Lent singles) → List Cell
shown_learning a = go a.outcome
  where
    first : Record singles
    first = record_in (get_or a.lent.nodes 0 (stored blank_record))

    kind : Node → ℕ
    kind leaf = 1
    kind (split prop val gt le) = 0

    go : Outcome (Tree singles) → List Cell
    go (refused r) = []
    go (accepted t) =
        whole (pos t.nodes) ∷ whole (pos t.leaves) ∷ bits t.bits ∷ bits t.flat
        ∷ whole (pos (kind first.node)) ∷ whole (pos first.info.pred) ∷ whole first.info.offset ∷ []

-- ---- pruning
abbrev pub entry : Node → ℕ → ℕ → ℕ → Entry singles
entry n depth cost pred =
    record { node = n; info = record { cost = single_of cost; pred = pred; offset = pos 0 }; span = no_span; depth = depth; offer = none }

-- root cost 10, leaves 4 and 5
abbrev pub ten : List (Entry singles)
ten = entry (split 0 (pos 0) 1 2) 0 10 0 ∷ entry leaf 1 4 1 ∷ entry leaf 1 5 2 ∷ []

-- how many nodes are left, and the estimated bits
abbrev pub shown_pruning : Float → List (Entry singles) → List Cell
shown_pruning price tree = whole (pos (length (pruned_tree price tree))) ∷ bits (pruned_bits {M = singles} price tree) ∷ []

-- 0 splits to 1 and 2, 1 splits to 3 and 4; beside node k stands k as its predictor. Its splits cost too much to be folded
abbrev pub five : List (Entry singles)
five = entry (split 0 (pos 0) 1 2) 0 99 0 ∷ entry (split 0 (pos 9) 3 4) 1 99 1 ∷ entry leaf 1 1 2 ∷ entry leaf 2 1 3 ∷ entry leaf 2 1 4 ∷ []

abbrev pub stored_of : List (Entry singles) → List (Stored singles)
stored_of = map (λ (e : Entry singles). stored_node e.node e.info e.depth)

abbrev pub preds_of : List (Entry singles) → List ℕ
preds_of = map (λ (e : Entry singles). e.info.pred)

abbrev pub half : Float
half = fin false 1 (negsuc 0)

-- ---- the other operations
abbrev pub shown_contexts : After ℕ ContextLists → List ℕ
shown_contexts a = a.lent.contexts

abbrev pub shown_sample : After ℕ (List ℕ) → List ℕ
shown_sample a = a.lent

-- ---- the table
-- what the definitions give
abbrev pub given : List (List Cell)
given =
    naturals (encoded 15 ++ encoded 16 ++ encoded 4294967295)
    ∷ naturals (map packed (pos 0 ∷ negsuc 0 ∷ pos 1 ∷ negsuc 2147483647 ∷ []))
    ∷ integers (mode (ints (5 ∷ 3 ∷ 5 ∷ 3 ∷ [])) ∷ mode (ints (7 ∷ 4102 ∷ [])) ∷ mode (ints (7 ∷ 4103 ∷ [])) ∷ [])
    ∷ integers (candidates_of 32 (ints (10 ∷ 20 ∷ 30 ∷ [])))
    ∷ integers (candidates_of 1 (ints (10 ∷ 20 ∷ 30 ∷ [])))
    ∷ integers (candidates_of 0 (ints (10 ∷ 20 ∷ 30 ∷ [])))
    ∷ naturals (map stride (2047 ∷ 2048 ∷ 3072 ∷ 4096 ∷ []))
    ∷ (integers (above_rows (lt_z (pos 5)) (ints (1 ∷ 9 ∷ 2 ∷ 8 ∷ [])) ++ other_rows (lt_z (pos 5)) (ints (1 ∷ 9 ∷ 2 ∷ 8 ∷ [])))
    ++ naturals (length (above_rows (lt_z (pos 5)) (ints (1 ∷ 9 ∷ 2 ∷ 8 ∷ []))) ∷ []))
    ∷ naturals (shown_sample (sample 5 3 (7 ∷ 7 ∷ 7 ∷ [])))
    ∷ shown_learning (learn single only_five (fin false 0 (pos 0) ∷ []) no_rows)
    ∷ shown_pruning (single_of 1) ten
    ∷ shown_pruning half ten
    ∷ naturals (shown_contexts (leaf_contexts (stored_of five) 5 (record { contexts = replicate 5 7; queue = replicate 5 7 })))
    ∷ naturals (preds_of (pruned_tree (single_of 1) five))
    ∷ []

-- what document 01 says
abbrev pub wanted : List (List Cell)
wanted =
    -- 15 gives token 15; 16 gives 16 with 2 extra bits of 0; 4,294,967,295 gives 127, 29 bits, 536,870,911
    naturals (15 ∷ 0 ∷ 0 ∷ 16 ∷ 2 ∷ 0 ∷ 127 ∷ 29 ∷ 536870911 ∷ [])
    -- packing 0, -1, 1, -2,147,483,648: 0, 1, 2, 4,294,967,295
    ∷ naturals (0 ∷ 1 ∷ 2 ∷ 4294967295 ∷ [])
    -- residuals 5, 3, 5, 3: mode 3. 7 and 4,102: 7. 7 and 4,103: 0
    ∷ integers (ints (3 ∷ 7 ∷ 0 ∷ []))
    -- values 10, 20, 30: candidates 10, 20; with limit 1, 10; with limit 0, none
    ∷ integers (ints (10 ∷ 20 ∷ []))
    ∷ integers (ints (10 ∷ []))
    ∷ []
    -- stride at 2,047 rows 1; 2,048, 3; 3,072, 3; 4,096, 5
    ∷ naturals (1 ∷ 3 ∷ 3 ∷ 5 ∷ [])
    -- column 1, 9, 2, 8 above 5: 8, 9, 2, 1, two first
    ∷ naturals (8 ∷ 9 ∷ 2 ∷ 1 ∷ 2 ∷ [])
    -- even sampling 3 of 5: 0, 1, 3
    ∷ naturals (0 ∷ 1 ∷ 3 ∷ [])
    -- no rows, only predictor 5: one leaf, predictor 5, offset 0, both bit totals 0
    ∷ (whole (pos 1) ∷ whole (pos 1) ∷ bits (fin false 0 (pos 0)) ∷ bits (fin false 0 (pos 0)) ∷ whole (pos 1) ∷ whole (pos 5) ∷ whole (pos 0) ∷ [])
    -- root cost 10, leaves 4 and 5: price 1 folds (10), price 0.5 keeps (9)
    ∷ (whole (pos 1) ∷ bits (single_of 10) ∷ [])
    ∷ (whole (pos 3) ∷ bits (single_of 9) ∷ [])
    -- 0 splits to 1 and 2, 1 splits to 3 and 4: contexts of 2, 3, 4 are 0, 1, 2; pruned without folds the order is 0, 1, 3, 4, 2
    ∷ naturals (4294967295 ∷ 4294967295 ∷ 0 ∷ 1 ∷ 2 ∷ [])
    ∷ naturals (0 ∷ 1 ∷ 3 ∷ 4 ∷ 2 ∷ [])
    ∷ []
