-- What an accepted operation says of the checks, and that a refusal leaves the lent lists as they were. Assumes nothing.
use mathlib.Core.Path.{◌≡◌, refl, sym, ap, subst}
use Prim.Native.Nat.{ℕ, zero, suc, ◌*◌, ◌≤◌, ◌<◌}
use native.Mathlib.Omega.{arith}
use mathlib.Core.Bool.{Bool, false}
use mathlib.Core.List.{List, [], ◌∷◌, ◌++◌, map}
use mathlib.Core.Option.{Option, none, some}
use lib.ListN.{length, take, drop, replicate, take-append-drop, length-drop}
use lib.Dec.{T, ltb}
use Rattle.model.specs.Lists.{all, written_over}
use Rattle.model.specs.Meter.{Meter}
use Rattle.model.specs.Settings.{Settings, toks_per_row}
use Rattle.model.specs.Profile.{Profile, job_of}
use Rattle.model.specs.Learn.{Result, leaf_count, learned}
use Rattle.model.specs.Deepen.{deepened}
use Rattle.model.specs.Tree.{Record, nodes_of, fault_of}
use Rattle.model.specs.Contexts.{contexts_of}
use Rattle.model.specs.Symbols.{symbols_of, tree_read}
use Rattle.model.specs.Operations.{Outcome, refused, accepted, After, unless, Tree, tree_of, learn, deepen, ContextLists, leaf_contexts, SymbolLists, write_symbols, read_symbols, sample}
use Rattle.model.specs.Refuse.{Refusal, Besides, is_outside, has_no_predictor, is_uneven, bad_row_from, is_short_alphabet, is_bad_logs, is_short_of_room, is_short_of_seed_room, refused_before, learn_refusal, deepen_refusal, contexts_refusal, write_refusal, read_refusal, sample_refusal}
use Rattle.model.specs.Lent.{Stored, stored, Lent, row_count, rows_in, uses_modes, tree_in, lent_after}
use Rattle.model.specs.Accepting.{InRange, Even, Rooms, SeedRooms, Passed}
use Rattle.model.specs.declared.Symbol.{Symbol}
use Rattle.model.proofs.Invariant.{none_is_no_some}
use Rattle.model.proofs.Tests.{and_both, neither, holds, not-below, passed, named, unasked, unnamed}

-- ---- read off the checks
pub in_range : (P : Profile) (t : Settings P.meter) → is_outside P t ≡ false → InRange P t
unfolding is_outside
in_range P t e = search arith

even : {M : Meter} (x : Lent M) → is_uneven x ≡ false → Even x
unfolding is_uneven
even x e = search arith

all_append : {A : Type 0} (p : A → Bool) (xs ys : List A) → T (all p xs) → T (all p ys) → T (all p (xs ++ ys))
all_append p [] ys s t = t
all_append p (x ∷ xs) ys s t = let u = (and_both (p x) (all p xs)).0 s in (and_both (p x) (all p (xs ++ ys))).1 (u.0, all_append p xs ys u.1 t)

-- 4
tokens-below : (alphabet n i : ℕ) (toks : List ℕ) → length toks ≡ toks_per_row * n → bad_row_from alphabet n i toks ≡ none → T (all (λ (t : ℕ). ltb t alphabet) toks)
unfolding bad_row_from
tokens-below alphabet zero i [] h e = tt
tokens-below alphabet zero i (t ∷ ts) h e = absurd (omega arith)
tokens-below alphabet (suc n) i toks h e =
    let fits : ℕ → Bool = λ (t : ℕ). ltb t alphabet in
    let u = unnamed (all fits (take toks_per_row toks)) (bad_row_from alphabet n (suc i) (drop toks_per_row toks)) i e in
    subst (λ (l : List ℕ). T (all fits l)) (take-append-drop toks_per_row toks) (all_append fits (take toks_per_row toks) (drop toks_per_row toks) u.0 (tokens-below alphabet n (suc i) (drop toks_per_row toks) (omega (arith, length-drop toks_per_row toks)) u.1))

-- 5: where residuals are given there is a row
wide_enough : {M : Meter} (t : Settings M) (x : Lent M) → Even x → T (uses_modes t x) → is_short_alphabet t x ≡ false → 128 ≤ t.alphabet
unfolding is_short_alphabet
wide_enough t x lists u e = search arith

-- 6
logs_in : (P : Profile) (logs : List P.meter.Cost) (x : Lent P.meter) → is_bad_logs P logs x ≡ false → (row_count x < length logs) × T (P.logs_fit (take (row_count x) (drop 1 logs)))
unfolding is_bad_logs
logs_in P logs x e = let h = simp (neither, holds, not-below) at e in (omega arith, h.1)

-- 7
rooms_in : {M : Meter} (t : Settings M) (x : Lent M) → is_short_of_room t x ≡ false → Rooms t x
unfolding is_short_of_room
rooms_in t x e = let h = simp (neither, not-below) at e in omega arith

pub seed_rooms_in : {M : Meter} (count : ℕ) (x : Lent M) → is_short_of_seed_room count x ≡ false → SeedRooms count x
unfolding is_short_of_seed_room
seed_rooms_in count x e = let h = simp (neither, not-below) at e in omega arith

pub passed-all : (P : Profile) (t : Settings P.meter) (logs : List P.meter.Cost) (x : Lent P.meter) (b : Besides)
    → refused_before P t logs x b ≡ none → Passed P t logs x × (b.after3 ≡ none) × (b.short ≡ false) × (b.after7 ≡ none)
unfolding refused_before has_no_predictor is_short_alphabet
passed-all P t logs x b e =
    let h = simp (passed, named, unasked, neither) at e in
    let lists = even x h.1.1.0 in
    let further = h.1.1.1.1 in
    let logs-good = logs_in P logs x further.1.1.0 in
    let rooms = further.1.1.1 in (
      record {
        settings = in_range P t h.0;
        predictor = h.1.0;
        lists = lists;
        tokens = tokens-below t.alphabet (row_count x) 0 x.toks lists.toks further.0;
        modal = λ u. wide_enough t x lists u further.1.0;
        logs_enough = logs-good.0;
        logs_fit_lem = logs-good.1;
        rooms = rooms_in t x rooms.0.0;
      },
      h.1.1.1.0,
      rooms.0.1,
      rooms.1,
    )

-- ---- learning and deepening
-- the results that are written into the lists
abbrev pub learned_from : (P : Profile) → Settings P.meter → List P.meter.Cost → Lent P.meter → Result P.meter
learned_from P t logs x = learned (job_of P t logs (uses_modes t x)) t.limit (rows_in x)

abbrev pub deepened_from : (P : Profile) → Settings P.meter → List P.meter.Cost → ℕ → Lent P.meter → Result P.meter
deepened_from P t logs count x = deepened (job_of P t logs (uses_modes t x)) t.limit (tree_in count x.nodes) (rows_in x)

-- an operation's outcome and lists at exit, taken apart
module _ {A L : Type 0} (entry : L) (answer : A) (exit y : L) where
  outcome-of : (z : After A L) (o : Outcome A) → z ≡ record { outcome = o; lent = y } → (z.outcome ≡ o) × (y ≡ z.lent)
  outcome-of z o e = (ap (λ (w : After A L). w.outcome) e, sym (ap (λ (w : After A L). w.lent) e))

  pub accepted-by : (o : Option Refusal) (a : A) → unless o entry answer exit ≡ record { outcome = accepted a; lent = y } → (o ≡ none) × (a ≡ answer) × (y ≡ exit)
  accepted-by none a e = let h = outcome-of (unless none entry answer exit) (accepted a) e in (refl, (cc), h.1)
  accepted-by (some r) a e = let h = outcome-of (unless (some r) entry answer exit) (accepted a) e in let z : ◌≡◌ {A = ℕ} 0 1 = cc in absurd (omega arith)

  pub refused-by : (o : Option Refusal) (r : Refusal) → unless o entry answer exit ≡ record { outcome = refused r; lent = y } → (o ≡ some r) × (y ≡ entry)
  refused-by none r e = let h = outcome-of (unless none entry answer exit) (refused r) e in let z : ◌≡◌ {A = ℕ} 0 1 = cc in absurd (omega arith)
  refused-by (some s) r e = let h = outcome-of (unless (some s) entry answer exit) (refused r) e in ((cc), h.1)

module _ (P : Profile) (t : Settings P.meter) (logs : List P.meter.Cost) (x y : Lent P.meter) where
  pub learn-accepted : (a : Tree P.meter) → learn P t logs x ≡ record { outcome = accepted a; lent = y }
      → Passed P t logs x × (a ≡ tree_of (learned_from P t logs x)) × (y ≡ lent_after (learned_from P t logs x) x)
  unfolding learn learn_refusal
  learn-accepted a e = search (arith, passed-all)

  -- a refusal is the first condition that holds, and each list reads as before
  pub learn-refused : (r : Refusal) → learn P t logs x ≡ record { outcome = refused r; lent = y } → (learn_refusal P t logs x ≡ some r) × (y ≡ x)
  unfolding learn
  learn-refused r e = let z = learned_from P t logs x in refused-by x (tree_of z) (lent_after z x) y (learn_refusal P t logs x) r e

  pub deepen-accepted : (count : ℕ) (a : Tree P.meter) → deepen P t logs count x ≡ record { outcome = accepted a; lent = y }
      → Passed P t logs x × SeedRooms count x × (fault_of (tree_in count x.nodes) ≡ none) × (a ≡ tree_of (deepened_from P t logs count x)) × (y ≡ lent_after (deepened_from P t logs count x) x)
  unfolding deepen deepen_refusal
  deepen-accepted count a e = search (arith, passed-all, seed_rooms_in)

  pub deepen-refused : (count : ℕ) (r : Refusal) → deepen P t logs count x ≡ record { outcome = refused r; lent = y } → (deepen_refusal P t logs count x ≡ some r) × (y ≡ x)
  unfolding deepen
  deepen-refused count r e = let z = deepened_from P t logs count x in refused-by x (tree_of z) (lent_after z x) y (deepen_refusal P t logs count x) r e

-- ---- the other operations that lend lists
pub contexts-refused : {M : Meter} (nodes : List (Stored M)) (count : ℕ) (x y : ContextLists) (r : Refusal)
    → leaf_contexts nodes count x ≡ record { outcome = refused r; lent = y } → (contexts_refusal nodes count x.contexts x.queue ≡ some r) × (y ≡ x)
unfolding leaf_contexts
contexts-refused nodes count x y r e = refused-by x _ _ y (contexts_refusal nodes count x.contexts x.queue) r e

-- the tree is sound, the lists have room, and this is written into them
pub contexts-passed : {M : Meter} (nodes : List (Stored M)) (count : ℕ) (x y : ContextLists) (leaves : ℕ)
    → leaf_contexts nodes count x ≡ record { outcome = accepted leaves; lent = y }
    → (count ≤ length nodes) × (fault_of (tree_in count nodes) ≡ none) × (count ≤ length x.contexts) × (leaves ≡ leaf_count (nodes_of (tree_in count nodes)))
    × (y ≡ record { contexts = written_over (contexts_of (nodes_of (tree_in count nodes))) x.contexts; queue = replicate (length x.queue) 0 })
unfolding leaf_contexts contexts_refusal
contexts-passed nodes count x y leaves e = search arith

pub write-refused : {M : Meter} (nodes : List (Stored M)) (count : ℕ) (x y : SymbolLists) (r : Refusal)
    → write_symbols nodes count x ≡ record { outcome = refused r; lent = y } → (write_refusal nodes count x.symbols x.queue ≡ some r) × (y ≡ x)
unfolding write_symbols
write-refused nodes count x y r e = refused-by x _ _ y (write_refusal nodes count x.symbols x.queue) r e

-- the tree is sound, the lists have room, and its symbols are written into them
pub write-passed : {M : Meter} (nodes : List (Stored M)) (count : ℕ) (x y : SymbolLists) (n : ℕ)
    → write_symbols nodes count x ≡ record { outcome = accepted n; lent = y }
    → (count ≤ length nodes) × (fault_of (tree_in count nodes) ≡ none) × (length (symbols_of (tree_in count nodes)) ≤ length x.symbols) × (count ≤ length x.queue)
    × (n ≡ length (symbols_of (tree_in count nodes))) × (y ≡ record { symbols = written_over (symbols_of (tree_in count nodes)) x.symbols; queue = replicate (length x.queue) 0 })
unfolding write_symbols write_refusal
write-passed nodes count x y n e = search arith

pub read-refused : {M : Meter} (symbols : List Symbol) (nodes y : List (Stored M)) (r : Refusal)
    → read_symbols symbols nodes ≡ record { outcome = refused r; lent = y } → (read_refusal (tree_read symbols) nodes ≡ some r) × (y ≡ nodes)
unfolding read_symbols
read-refused symbols nodes y r e = refused-by nodes _ _ y (read_refusal (tree_read symbols) nodes) r e

-- symbols that are not refused are a tree, which has room
tree-there : {M : Meter} (read : Option (List (Record M))) (nodes : List (Stored M)) → read_refusal read nodes ≡ none → (t : List (Record M)) × (read ≡ some t) × (length t ≤ length nodes)
unfolding read_refusal
tree-there none nodes e = absurd (none_is_no_some _ (sym e))
tree-there (some t) nodes e = (t, refl, (simp (passed, not-below) at e).0)

-- and this is written into the list
pub read-passed : {M : Meter} (symbols : List Symbol) (nodes y : List (Stored M)) (n : ℕ) → read_symbols symbols nodes ≡ record { outcome = accepted n; lent = y }
    → (t : List (Record M)) × (tree_read symbols ≡ some t) × (length t ≤ length nodes) × (n ≡ length t) × (y ≡ written_over (map stored t) nodes)
unfolding read_symbols
read-passed symbols nodes y n e =
    let (clear, answer, exit) = accepted-by nodes _ _ y (read_refusal (tree_read symbols) nodes) n e in
    let (t, q, room) = tree-there (tree_read symbols) nodes clear in
    (t, q, room, rw q at answer, rw q at exit)

pub sample-refused : (rows target : ℕ) (out y : List ℕ) (r : Refusal)
    → sample rows target out ≡ record { outcome = refused r; lent = y } → (sample_refusal rows target out ≡ some r) × (y ≡ out)
unfolding sample
sample-refused rows target out y r e = refused-by out _ _ y (sample_refusal rows target out) r e
