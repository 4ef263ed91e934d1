-- Every refusal's number is one of 1 to 11: the conditions one after another. So an answer of number 0 is no refusal's. Assumes nothing.
use mathlib.Core.Path.{◌≡◌}
use mathlib.Core.Bool.{Bool, true, false, not, ◌||◌}
use mathlib.Core.List.{List}
use mathlib.Core.Option.{Option, none, some}
use Prim.Native.Nat.{ℕ, ◌≤◌, min}
use native.Mathlib.Omega.{arith}
use lib.Dec.{T, lit≤, leb, leb→le, eqb, ltb}
use lib.ListN.{length}
use lib.IntN.{ℤ}
use lib.Ieee.{Float}
use Rattle.model.specs.Settings.{Settings, props_per_row, max_rows}
use Rattle.model.specs.Single.{singles}
use Rattle.model.specs.Profile.{single}
use Rattle.model.specs.Token.{readable}
use Rattle.model.specs.Tree.{Record, fault_of, fault_on_way}
use Rattle.model.specs.Symbols.{symbols_of}
use Rattle.model.specs.declared.Symbol.{Symbol}
use Rattle.model.specs.Lent.{Stored, Lent, row_count, tree_in}
use Rattle.model.specs.Refuse.{Refusal, refuse_if, refuse_at, refuse_with, is_outside, has_no_predictor, is_uneven, bad_row_from, is_short_alphabet, is_bad_logs, is_short_of_room, Besides, nothing_besides, refused_before, seed_besides}
use Rattle.model.specs.Refuse.{learn_refusal, deepen_refusal, lookup_refusal, fault_in, contexts_refusal, write_refusal, read_refusal, sample_refusal, token_refusal}

-- the number of a refusal, and 1 if there is none
abbrev number_of : Option Refusal → ℕ
number_of none = 1
number_of (some r) = r.number

pub record Numbered (o : Option Refusal) : Type 0 where
  pub above : 1 ≤ number_of o
  pub below : number_of o ≤ 11

pub no_nought : (r : Refusal) → Numbered (some r) → 0 ≡ r.number → ⊥
no_nought r h e = omega (arith, h.above, e)

unrefused : Numbered none
unrefused = record { above = lit≤ tt; below = lit≤ tt }

-- a number from 1 to 11, by computation
module _ (n : ℕ) (low : T (leb 1 n)) (high : T (leb n 11)) where
  numbered_if : (b : Bool) {next : Option Refusal} → Numbered next → Numbered (refuse_if b n next)
  numbered_if true rest = record { above = leb→le 1 n low; below = leb→le n 11 high }
  numbered_if false rest = rest

  numbered-at : (place : Option ℕ) {next : Option Refusal} → Numbered next → Numbered (refuse_at place n next)
  numbered-at none rest = rest
  numbered-at (some p) rest = record { above = leb→le 1 n low; below = leb→le n 11 high }

numbered_with : {o next : Option Refusal} → Numbered o → Numbered next → Numbered (refuse_with o next)
numbered_with {o = none} h rest = rest
numbered_with {o = some r} h rest = h

before : (t : Settings singles) (logs : List Float) (x : Lent singles) (b : Besides) → Numbered b.after3 → Numbered b.after7 → Numbered (refused_before single t logs x b)
unfolding refused_before
before t logs x b h rest =
    numbered_if 1 tt tt (is_outside single t) (numbered_if 2 tt tt (has_no_predictor t) (numbered_if 3 tt tt (is_uneven x) (numbered_with h (numbered-at 4 tt tt (bad_row_from t.alphabet (row_count x) 0 x.toks)
    (numbered_if 5 tt tt (is_short_alphabet t x) (numbered_if 6 tt tt (is_bad_logs single logs x) (numbered_if 7 tt tt (is_short_of_room t x || b.short) rest)))))))

pub learn-numbered : (t : Settings singles) (logs : List Float) (x : Lent singles) → Numbered (learn_refusal single t logs x)
unfolding learn_refusal
learn-numbered t logs x = before t logs x nothing_besides unrefused unrefused

pub deepen-numbered : (t : Settings singles) (logs : List Float) (count : ℕ) (x : Lent singles) → Numbered (deepen_refusal single t logs count x)
unfolding deepen_refusal
deepen-numbered t logs count x = before t logs x (seed_besides count x) unrefused (numbered-at 8 tt tt (fault_of (tree_in count x.nodes)) unrefused)

pub lookup-numbered : (nodes : List (Stored singles)) (count : ℕ) (ps : List ℤ) → Numbered (lookup_refusal nodes count ps)
unfolding lookup_refusal
lookup-numbered nodes count ps =
    numbered_if 9 tt tt (not (eqb (length ps) props_per_row)) (numbered_if 8 tt tt (eqb count 0 || ltb (length nodes) count) (numbered-at 8 tt tt (fault_on_way count (tree_in count nodes) ps 0) unrefused))

pub contexts-numbered : (nodes : List (Stored singles)) (count : ℕ) (contexts queue : List ℕ) → Numbered (contexts_refusal nodes count contexts queue)
unfolding contexts_refusal
contexts-numbered nodes count contexts queue =
    numbered-at 8 tt tt (fault_in count nodes) (numbered_if 7 tt tt (ltb (length contexts) count || ltb (length queue) count) unrefused)

pub write-numbered : (nodes : List (Stored singles)) (count : ℕ) (symbols : List Symbol) (queue : List ℕ) → Numbered (write_refusal nodes count symbols queue)
unfolding write_refusal
write-numbered nodes count symbols queue =
    numbered-at 8 tt tt (fault_in count nodes)
    (numbered_if 7 tt tt (ltb (length symbols) (length (symbols_of (tree_in count nodes))) || ltb (length queue) count) unrefused)

pub read-numbered : (tree : Option (List (Record singles))) (nodes : List (Stored singles)) → Numbered (read_refusal tree nodes)
unfolding read_refusal
read-numbered none nodes = numbered_if 11 tt tt true unrefused
read-numbered (some tree) nodes = numbered_if 7 tt tt (ltb (length nodes) (length tree)) unrefused

pub sample-numbered : (rows target : ℕ) (out : List ℕ) → Numbered (sample_refusal rows target out)
unfolding sample_refusal
sample-numbered rows target out = numbered_if 3 tt tt (ltb max_rows rows) (numbered_if 7 tt tt (ltb (length out) (min rows target)) unrefused)

pub token-numbered : (token extra : ℕ) → Numbered (token_refusal token extra)
unfolding token_refusal
token-numbered token extra = numbered_if 10 tt tt (not (readable token extra)) unrefused
