-- Which number comes back, and the named place (document 01, "Which number comes back"; document 02): the first condition that holds. Assumes nothing.
use Rattle.std.specs.Prelude.{ℕ, zero, suc, ◌+◌, ◌-◌, ◌*◌, ◌%◌, min, max, Bool, true, false, cond, not, ◌&&◌, ◌||◌, List, length, take, drop, ℤ, eqb, leb, ltb}
use Rattle.std.proofs.Math.Option.{Option, none, some}
use Rattle.model.specs.Lists.{all, is_empty}
use Rattle.model.specs.Meter.{Meter}
use Rattle.model.specs.Settings.{Settings, props_per_row, toks_per_row, max_rows, max_leaves}
use Rattle.model.specs.Token.{readable}
use Rattle.model.specs.Cost.{usable}
use Rattle.model.specs.Tree.{Record, fault_of, fault_on_way}
use Rattle.model.specs.Symbols.{symbols_of}
use Rattle.model.specs.Profile.{Profile}
use Rattle.model.specs.Lent.{Stored, Lent, row_count, has_residuals, tree_in}
use Rattle.model.specs.declared.Symbol.{Symbol}

-- the number, and the named place, else 0
pub record Refusal : Type 0 where
  pub number : ℕ
  pub place : ℕ

-- the refusal with this number if the test holds, else the next
abbrev pub refuse_if : Bool → ℕ → Option Refusal → Option Refusal
refuse_if b n next = cond b (some (record { number = n; place = 0 })) next

-- the same, where a place is named
abbrev pub refuse_at : Option ℕ → ℕ → Option Refusal → Option Refusal
refuse_at none n next = next
refuse_at (some p) n next = some (record { number = n; place = p })

-- this refusal if there is one, else the next
abbrev pub refuse_with : Option Refusal → Option Refusal → Option Refusal
refuse_with none next = next
refuse_with (some r) next = some r

-- ---- learning and deepening
-- 1: a setting outside its range
unfoldable pub is_outside : (P : Profile) → Settings P.meter → Bool
is_outside P t =
    not (leb 1 t.alphabet && (leb t.alphabet 256
    && (leb 1 t.limit && (leb t.limit max_leaves
    && (P.price_fits t.split_cost && (P.price_fits t.price
    && (leb t.smallest max_rows && (leb t.sides 14 && leb t.candidates 32))))))))

-- 2: no predictor is left
unfoldable pub has_no_predictor : {M : Meter} → Settings M → Bool
has_no_predictor t = is_empty (usable t)

-- 3: properties not a multiple of 24, too many rows, tokens not 14 per row, or residuals neither none nor one per row
unfoldable pub is_uneven : {M : Meter} → Lent M → Bool
is_uneven x =
    not (eqb (length x.props % props_per_row) 0) || (ltb max_rows (row_count x)
    || (not (eqb (length x.toks) (toks_per_row * row_count x))
    || not (eqb (length x.res) 0 || eqb (length x.res) (row_count x))))

-- 4: of n rows from row i on, the lowest with a token not below the alphabet
unfoldable pub bad_row_from : ℕ → ℕ → ℕ → List ℕ → Option ℕ
bad_row_from alphabet zero i toks = none
bad_row_from alphabet (suc n) i toks =
    let further = bad_row_from alphabet n (suc i) (drop toks_per_row toks) in
    cond (all (λ (t : ℕ). ltb t alphabet) (take toks_per_row toks)) further (some i)

-- 5: modal offsets on, residuals given, at least one row, alphabet below 128
unfoldable pub is_short_alphabet : {M : Meter} → Settings M → Lent M → Bool
is_short_alphabet t x = t.modal && (has_residuals x && (ltb 0 (row_count x) && ltb t.alphabet 128))

-- 6: logarithms shorter than rows + 1, or one of entries 1 to rows out of range
unfoldable pub is_bad_logs : (P : Profile) → List P.meter.Cost → Lent P.meter → Bool
is_bad_logs P logs x = ltb (length logs) (row_count x + 1) || not (P.logs_fit (take (row_count x) (drop 1 logs)))

-- 4,096 + max(56A, 14A + sA(c + 2)) numbers
abbrev pub counts_wanted : {M : Meter} → Settings M → ℕ
counts_wanted t = let a = t.alphabet in 4096 + max (56 * a) (14 * a + max t.sides 1 * a * (t.candidates + 2))

-- 7: node or span list below 2 × limit - 1 entries, queue below the limit, or count space too small
unfoldable pub is_short_of_room : {M : Meter} → Settings M → Lent M → Bool
is_short_of_room t x =
    ltb (length x.nodes) (2 * t.limit - 1) || (ltb (length x.spans) (2 * t.limit - 1)
    || (ltb (length x.queue) t.limit || ltb (length x.counts) (counts_wanted t)))

-- 7 of deepening, for a seed of `count` nodes
unfoldable pub is_short_of_seed_room : {M : Meter} → ℕ → Lent M → Bool
is_short_of_seed_room count x =
    ltb (length x.nodes) count || (ltb (length x.spans) count || ltb (length x.counts) (row_count x + 2 * count))

-- what an operation asks besides conditions 1 to 7
pub record Besides : Type 0 where
  -- a refusal straight after condition 3, or none
  pub after3 : Option Refusal
  -- the last part of condition 7: more room is asked for than there is
  pub short : Bool
  -- a refusal after condition 7, or none
  pub after7 : Option Refusal

-- no more than room
abbrev pub room_besides : Bool → Besides
room_besides short = record { after3 = none; short = short; after7 = none }

-- nothing
abbrev pub nothing_besides : Besides
nothing_besides = room_besides false

-- conditions 1 to 7, and what is asked besides
unfoldable pub refused_before : (P : Profile) → Settings P.meter → List P.meter.Cost → Lent P.meter → Besides → Option Refusal
refused_before P t logs x asked =
    refuse_if (is_outside P t) 1
    (refuse_if (has_no_predictor t) 2
    (refuse_if (is_uneven x) 3
    (refuse_with asked.after3
    (refuse_at (bad_row_from t.alphabet (row_count x) 0 x.toks) 4
    (refuse_if (is_short_alphabet t x) 5
    (refuse_if (is_bad_logs P logs x) P.logs_number
    (refuse_if (is_short_of_room t x || asked.short) 7 asked.after7)))))))

-- the refusal of learning, if any
unfoldable pub learn_refusal : (P : Profile) → Settings P.meter → List P.meter.Cost → Lent P.meter → Option Refusal
learn_refusal P t logs x = refused_before P t logs x nothing_besides

-- deepening asks besides for the room of a seed of `count` nodes, which stand at the front of the node list, and that it is a sound tree
abbrev pub seed_besides : {M : Meter} → ℕ → Lent M → Besides
seed_besides count x =
    record { after3 = none; short = is_short_of_seed_room count x; after7 = refuse_at (fault_of (tree_in count x.nodes)) 8 none }

-- the refusal of deepening, if any
unfoldable pub deepen_refusal : (P : Profile) → Settings P.meter → List P.meter.Cost → ℕ → Lent P.meter → Option Refusal
deepen_refusal P t logs count x = refused_before P t logs x (seed_besides count x)

-- ---- the other operations
module _ {M : Meter} where
  -- 9, then 8: count zero or beyond the list, or a node on the way
  unfoldable pub lookup_refusal : List (Stored M) → ℕ → List ℤ → Option Refusal
  lookup_refusal nodes count ps =
      refuse_if (not (eqb (length ps) props_per_row)) 9
      (refuse_if (eqb count 0 || ltb (length nodes) count) 8
      (refuse_at (fault_on_way count (tree_in count nodes) ps 0) 8 none))

  -- the node to name of the tree of the first `count` nodes, as for deepening; 0 also when the count exceeds the list
  abbrev pub fault_in : ℕ → List (Stored M) → Option ℕ
  fault_in count nodes = cond (ltb (length nodes) count) (some 0) (fault_of (tree_in count nodes))

  -- 8; then 7
  unfoldable pub contexts_refusal : List (Stored M) → ℕ → List ℕ → List ℕ → Option Refusal
  contexts_refusal nodes count contexts queue =
      refuse_at (fault_in count nodes) 8 (refuse_if (ltb (length contexts) count || ltb (length queue) count) 7 none)

  -- 8 as contexts do; then 7: the symbols, or a queue of the node count, don't fit (document 02, c)
  unfoldable pub write_refusal : List (Stored M) → ℕ → List Symbol → List ℕ → Option Refusal
  write_refusal nodes count symbols queue =
      refuse_at (fault_in count nodes) 8
      (refuse_if (ltb (length symbols) (length (symbols_of (tree_in count nodes))) || ltb (length queue) count) 7 none)

  -- 11: the symbols are no tree; then 7: its nodes don't fit (document 02, c)
  unfoldable pub read_refusal : Option (List (Record M)) → List (Stored M) → Option Refusal
  read_refusal none nodes = refuse_if true 11 none
  read_refusal (some tree) nodes = refuse_if (ltb (length nodes) (length tree)) 7 none

-- 3, then 7: output shorter than min(rows, target)
unfoldable pub sample_refusal : ℕ → ℕ → List ℕ → Option Refusal
sample_refusal rows target out = refuse_if (ltb max_rows rows) 3 (refuse_if (ltb (length out) (min rows target)) 7 none)

-- 10: a token over 127, or extra bits too large for their count
unfoldable pub token_refusal : ℕ → ℕ → Option Refusal
token_refusal t extra = refuse_if (not (readable t extra)) 10 none
