-- What the checks' answers say of learning and deepening: a refusal is the model's, and after a pass the facts that the work on the rows goes by hold.
-- Assumes nothing.
use mathlib.Core.Path.{◌≡◌, refl, sym, ◌∙◌}
use mathlib.Core.Logic.{inl, inr}
use mathlib.Core.Bool.{Bool, true, false, ◌||◌}
use mathlib.Core.List.{List}
use mathlib.Core.Option.{Option, none, some, or_else}
use Prim.Native.Nat.{ℕ}
use native.Mathlib.Omega.{arith}
use lib.Dec.{ltb, ltb→lt}
use lib.Ieee.{Float}
use Rattle.model.specs.Settings as model
use Rattle.model.specs.Single.{singles}
use Rattle.model.specs.Profile.{Profile, single}
use Rattle.model.specs.Tree.{fault_of}
use Rattle.model.specs.Lent.{Lent, row_count, tree_in, lent_after}
use Rattle.model.specs.Refuse.{Refusal, refuse_if, refuse_at, refuse_with, is_short_of_room, is_short_of_seed_room, Besides, room_besides, refused_before, learn_refusal, seed_besides, deepen_refusal}
use Rattle.model.specs.Operations.{refused, accepted, outcome_of, learn, tree_of}
use Rattle.model.specs.Accepting.{SeedRooms, Passed}
use Rattle.model.proofs.Accepted.{seed_rooms_in, learned_from, learn-accepted}
use Rattle.model.proofs.Bounded.{logs-within}
use Rattle.model.proofs.Tests.{neither, passed, named}
use Rattle.model.proofs.Keeping.{all-at}
use Rattle.refuse.specs.declared.Settings.{Settings}
use Rattle.refuse.specs.Given.{settings_of}
use Rattle.refuse.specs.Accepted.{Accepted}
use Rattle.refuse.proofs.Scan.{logs_at}
use Rattle.refuse.proofs.Answers.{pass_is, refused-is}

-- ---- the end of the model's chain
if_then : (b : Bool) (n : ℕ) (next last : Option Refusal) → or_else (refuse_if b n next) last ≡ refuse_if b n (or_else next last)
unfolding or_else
if_then true n next last = refl
if_then false n next last = refl

at-then : (o : Option ℕ) (n : ℕ) (next last : Option Refusal) → or_else (refuse_at o n next) last ≡ refuse_at o n (or_else next last)
unfolding or_else
at-then none n next last = refl
at-then (some p) n next last = refl

with_then : (o next last : Option Refusal) → or_else (refuse_with o next) last ≡ refuse_with o (or_else next last)
unfolding or_else
with_then none next last = refl
with_then (some r) next last = refl

-- what is asked besides, but for what follows condition 7
abbrev pub up_to7 : Besides → Besides
up_to7 b = record { after3 = b.after3; short = b.short; after7 = none }

module _ (P : Profile) (t : model.Settings P.meter) (logs : List P.meter.Cost) (x : Lent P.meter) where
  -- conditions 1 to 7, and then the last refusal
  pub before_last : (b : Besides) → refused_before P t logs x b ≡ or_else (refused_before P t logs x (up_to7 b)) b.after7
  unfolding refused_before or_else
  before_last b = simp (if_then, at-then, with_then)

  -- what an operation asks of its own rooms comes last
  room_last : (a short : Bool) → refuse_if (a || short) 7 none ≡ or_else (refuse_if (a || false) 7 none) (refuse_if short 7 none)
  unfolding or_else
  room_last true short = refl
  room_last false short = refl

  pub after_learning : (short : Bool) → refused_before P t logs x (room_besides short) ≡ or_else (learn_refusal P t logs x) (refuse_if short 7 none)
  unfolding refused_before learn_refusal or_else
  after_learning short = rw (room_last (is_short_of_room t x) short) (simp (if_then, at-then))

  -- an operation's own rooms apart, the conditions are those of learning
  before-none : (short : Bool) → refused_before P t logs x (room_besides short) ≡ none → (learn_refusal P t logs x ≡ none) × (short ≡ false)
  unfolding refused_before learn_refusal
  before-none short e = let roomy : short ≡ false = (simp (passed, named, neither) at e).1.1.1.1.1.1.0.1 in (rw roomy at e, roomy)

module _ (s : Settings) (logs : List Float) (x : Lent singles) where
  -- the model's record, from a learning that is not refused
  unrefused : learn_refusal single (settings_of s) logs x ≡ none → Passed single (settings_of s) logs x
  unfolding learn
  unrefused e =
      let r = learned_from single (settings_of s) logs x in
      (learn-accepted single (settings_of s) logs x (lent_after r x) (tree_of r) (rw e)).0

  facts : (rows : ℕ) → rows ≡ row_count x → Passed single (settings_of s) logs x → Accepted s logs x rows
  facts rows e p =
      record {
        row_count = e;
        few = omega arith;
        props = omega arith;
        toks = omega arith;
        res = elim p.lists.res [ inl z ↦ inl z | inr z ↦ inr (z ∙ sym e) ];
        tokens = λ k h. ltb→lt _ _ (all-at (λ (t : ℕ). ltb t s.alphabet) x.toks k 0 h p.tokens);
        log_fits_lem = λ k h l. logs_at logs x p.logs_enough p.logs_fit_lem k h (omega arith);
        logs_small = rw e (logs-within (row_count x) logs p.logs_enough p.logs_fit_lem);
        model = p;
      }

  -- ---- learning
  abbrev pub learning : Option Refusal
  learning = learn_refusal single (settings_of s) logs x

  pub learn-passed : (rows : ℕ) → accepted rows ≡ outcome_of learning (row_count x) → (learning ≡ none) × Accepted s logs x rows
  learn-passed rows e = let h = pass_is learning (row_count x) rows e in (h.0, facts rows h.1 (unrefused h.0))

  pub learn-refused : (r : Refusal) → refused r ≡ outcome_of learning (row_count x) → learning ≡ some r
  learn-refused r e = refused-is learning (row_count x) r e

  -- ---- deepening a seed of `count` nodes
  module _ (count : ℕ) where
    -- conditions 1 to 7
    abbrev pub deepening : Option Refusal
    deepening = refused_before single (settings_of s) logs x (room_besides (is_short_of_seed_room count x))

    -- condition 8
    abbrev pub fault : Option Refusal
    fault = refuse_at (fault_of (tree_in count x.nodes)) 8 none

    pub deepen-then : deepen_refusal single (settings_of s) logs count x ≡ or_else deepening fault
    unfolding deepen_refusal
    deepen-then = before_last single (settings_of s) logs x (seed_besides count x)

    pub deepen-passed : (rows : ℕ) → accepted rows ≡ outcome_of deepening (row_count x)
        → (deepen_refusal single (settings_of s) logs count x ≡ fault) × Accepted s logs x rows × SeedRooms count x
    unfolding or_else
    deepen-passed rows e =
        let h = pass_is deepening (row_count x) rows e in
        let learns = before-none single (settings_of s) logs x (is_short_of_seed_room count x) h.0 in
        (deepen-then ∙ rw h.0, facts rows h.1 (unrefused learns.0), seed_rooms_in count x learns.1)

    pub deepen-refused : (r : Refusal) → refused r ≡ outcome_of deepening (row_count x) → deepen_refusal single (settings_of s) logs count x ≡ some r
    unfolding or_else
    deepen-refused r e = deepen-then ∙ rw (refused-is deepening (row_count x) r e)
