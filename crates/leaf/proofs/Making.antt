-- What the mode step and the evaluation of a span ask for, and what they leave, from what the checks ensure. Assumes nothing.
use mathlib.Core.Path.{◌≡◌, refl, sym, ap, ◌∙◌, subst}
use mathlib.Core.Logic.{◌⊎◌, inl, inr}
use mathlib.Core.Bool.{Bool, true, false, not, ◌&&◌}
use mathlib.Core.List.{List, [], ◌∷◌}
use Prim.Native.Nat.{ℕ, suc, ◌+◌, ◌-◌, ◌*◌, ◌≤◌, ◌<◌}
use native.Mathlib.Decide.{dec_le}
use native.Mathlib.Omega.{arith}
use borrow.Author.Tests.{ltb-true}
use lib.IntN.{ℤ}
use lib.ListN.{length, get_or, set, length-set}
use lib.Seq.{slice, length-slice, get_or-set_same, get_or-set_other}
use Rattle.model.specs.Lists.{is_empty}
use Rattle.model.specs.Settings.{props_per_row, toks_per_row}
use Rattle.model.specs.Rows.{Row, Span, within}
use Rattle.model.specs.Mode.{zero_token, span_mode}
use Rattle.model.proofs.Tests.{and-true}
use Rattle.refuse.specs.Given.{settings_of}
use Rattle.refuse.proofs.Ranges.{given}
use Rattle.refuse.specs.declared.Settings.{Settings}
use Rattle.refuse.specs.declared.Job.{Job}
use Rattle.cost.specs.Counted.{LogsReach}
use Rattle.cost.proofs.Bridge.{logs-fewer}
use Rattle.layout.specs.declared.Leaf.{Leaf}
use Rattle.mode.specs.Column.{rezeroed, mode_at, step_mode, step_tokens}
use Rattle.mode.specs.Lent.{Inside, LowTokens}
use Rattle.mode.proofs.Stepped.{step-mode, step-rows}
use Rattle.rows.specs.Cells.{span}
use Rattle.rows.specs.Flat.{Flat, flat, held_in, row_count, Spanned, SameSize, Changed}
use Rattle.model.proofs.Settled.{put_same}
use Rattle.rows.proofs.Cells.{length-held}
use Rattle.rows.specs.Lent.{flat_with, SameTokensLent}
use Rattle.rows.specs.declared.RowTokens.{RowTokens}
use Rattle.rows.proofs.Shapes.{size_same, shaped_still, count_still, residuals_still, given-back}
use Rattle.evaluate.specs.Evaluated.{Evaluated, Evaluable}
use Rattle.lent.specs.Fitting.{uses_of, Fitting}
use Rattle.settle.proofs.Settling.{stepped-size}
use Rattle.leaf.specs.Made.{settled_at, MadeLeaf}

pub residuals-given : (modal : Bool) (l : List ℤ) → (modal && not (is_empty l)) ≡ true → 0 < length l
residuals-given modal l e = ltb-true 0 (length l) (sym (given l) ∙ (and-true modal (not (is_empty l)) e).1)

-- ---- zero tokens made anew

rezeroed-before : (m : ℤ) (i k : ℕ) (vs : List ℤ) (tok : List ℕ) → k < i * 14 → get_or (rezeroed m i vs tok) k 0 ≡ get_or tok k 0
unfolding rezeroed
rezeroed-before m i k [] tok h = refl
rezeroed-before m i k (v ∷ vs) tok h =
    rezeroed-before m (suc i) k vs (set tok (i * toks_per_row) (zero_token m v)) (omega arith)
    ∙ get_or-set_other tok (i * toks_per_row) k (zero_token m v) 0 (λ e. absurd (omega arith))

-- if the tokens that are made are below 128, all stay below an alphabet of 128 and more
rezeroed-below : (m : ℤ) (i : ℕ) (vs : List ℤ) (tok : List ℕ) (a : ℕ) → 128 ≤ a → (i + length vs) * 14 ≤ length tok
    → ((k : ℕ) → k < length tok → get_or tok k 0 < a) → LowTokens i (i + length vs) (rezeroed m i vs tok)
    → (k : ℕ) → k < length tok → get_or (rezeroed m i vs tok) k 0 < a
unfolding rezeroed
rezeroed-below m i [] tok a h room before low k lt = before k lt
rezeroed-below m i (v ∷ vs) tok a h room before low k lt =
    let t = zero_token m v in
    let next = set tok (i * 14) t in
    let long : length next ≡ length tok = length-set tok (i * 14) t in
    let here : get_or (rezeroed m (suc i) vs next) (i * 14) 0 ≡ t = rezeroed-before m (suc i) (i * 14) vs next (omega arith) ∙ get_or-set_same tok (i * 14) t 0 (omega arith) in
    let small : t < 128 = rw here at (low i (omega arith) (omega arith)) in
    rezeroed-below m (suc i) vs next a h (omega arith) (each t (omega arith)) (λ j from below. low j (omega arith) (omega arith)) k (omega arith)
  where
    each : (t : ℕ) → t < a → (j : ℕ) → j < length (set tok (i * 14) t) → get_or (set tok (i * 14) t) j 0 < a
    each t small j lt = go (dec_le (j + 1) (i * 14)) (dec_le (i * 14 + 1) j) where
      other : (j < i * 14) ⊎ (i * 14 < j) → get_or (set tok (i * 14) t) j 0 < a
      other (inl l) = rw (get_or-set_other tok (i * 14) j t 0 (λ e. absurd (omega arith))) (before j (omega (arith, length-set tok (i * 14) t)))
      other (inr l) = rw (get_or-set_other tok (i * 14) j t 0 (λ e. absurd (omega arith))) (before j (omega (arith, length-set tok (i * 14) t)))

      go : Dec (j + 1 ≤ i * 14) → Dec (i * 14 + 1 ≤ j) → get_or (set tok (i * 14) t) j 0 < a
      go (yes l) d = other (inl (omega arith))
      go (no l) (yes g) = other (inr (omega arith))
      go (no l) (no g) = let e : j ≡ i * 14 = omega arith in rw (e, get_or-set_same tok (i * 14) t 0 (omega (arith, length-set tok (i * 14) t))) small

-- ---- a span of fitting lists

module _ {job : Job} {counts : List ℕ} {x : Flat} {first end : ℕ} (f : Fitting job counts x) (sp : Spanned (span first end) x) where
  abbrev uses : Bool
  uses = uses_of job.settings x

  -- the lists after the mode step
  abbrev y : Flat
  y = flat x.props (step_tokens uses first end x.res x.toks) x.res

  residuals : uses ≡ true → length x.res ≡ row_count x
  residuals e = f.shaped.res (residuals-given job.settings.modal_offsets x.res e)

  inside : uses ≡ true → Inside first end x.res
  inside e = record { ordered = sp.ordered; inside = omega (arith, residuals e, sp.inside); few = omega (arith, residuals e, f.few) }

  wide : uses ≡ true → length x.props ≡ length x.res * props_per_row
  wide e = f.shaped.props ∙ ap (λ (n : ℕ). n * props_per_row) (sym (residuals e))

  size : (b : Bool) → SameSize x (flat x.props (step_tokens b first end x.res x.toks) x.res)
  size true = stepped-size x (record { first = first; end = end })
  size false = size_same x

  pub stepped : Changed (settled_at uses (span first end)) x y
  stepped = record { rows = step-rows x.props x.toks x.res first end uses sp.ordered inside wide; size = size uses }

  pub mode-stepped : step_mode uses first end x.res ≡ span_mode uses (within (span first end) (held_in x))
  mode-stepped = step-mode x.props x.toks x.res first end uses inside wide

  -- the tokens stay below the alphabet
  pub stepped-below : (uses ≡ true → LowTokens first end y.toks) → (k : ℕ) → k < length y.toks → get_or y.toks k 0 < job.settings.alphabet
  stepped-below low = go uses refl low where
    go : (b : Bool) → uses ≡ b → (b ≡ true → LowTokens first end (step_tokens b first end x.res x.toks))
        → (k : ℕ) → k < length (step_tokens b first end x.res x.toks) → get_or (step_tokens b first end x.res x.toks) k 0 < job.settings.alphabet
    go false e l k lt = f.below k lt
    go true e l k lt =
        let vs = slice first end x.res in
        let m = mode_at first end x.res in
        let in_List = (inside e).inside in
        let ordered = sp.ordered in
        let many : length vs ≡ end - first = length-slice first end x.res in_List in
        let last : first + length vs ≡ end = omega arith in
        let toks = f.shaped.toks in
        let long : (first + length vs) * 14 ≤ length x.toks = omega (arith, residuals e) in
        rezeroed-below m first vs x.toks job.settings.alphabet (f.modal e) long f.below
        (rw last (l refl)) k (omega (arith, (stepped-size x (record { first = first; end = end })).toks))

-- lists as long use modes alike
pub uses_still : {x y : Flat} (s : Settings) → SameSize x y → uses_of s x ≡ uses_of s y
uses_still s size = ap (λ (b : Bool). s.modal_offsets && b) (sym (residuals_still size))

-- what holds of lists holds of lists as long whose tokens are below the alphabet
pub fitting_still : {job : Job} {counts : List ℕ} {x y : Flat} → Fitting job counts x → SameSize x y
    → ((k : ℕ) → k < length y.toks → get_or y.toks k 0 < job.settings.alphabet) → Fitting job counts y
fitting_still {job} {counts} {x} {y} f size below =
    let count = count_still size in
    record {
      settings = f.settings;
      some = f.some;
      shaped = shaped_still size f.shaped;
      few = omega (arith, count, f.few);
      below = below;
      modal = λ e. f.modal (uses_still job.settings size ∙ e);
      logs_reach = subst (λ (n : ℕ). LogsReach n job.logs.now) (sym count) f.logs_reach;
      room = f.room;
      zeros = f.zeros;
    }

pub made-fitting : {scored : Bool} {job : Job} {counts : List ℕ} {depth : ℕ} {sp : Span} {x y : Flat} {r : Leaf}
    → Fitting job counts x → MadeLeaf scored job depth sp x y r → Fitting job counts y
made-fitting f m = fitting_still f m.changed.size m.below

-- the span can be evaluated
pub evaluable : {job : Job} {counts : List ℕ} {x : Flat} {first end : ℕ} → Fitting job counts x → Spanned (span first end) x
    → Evaluable x.props x.toks first end job.settings job.logs.now counts
evaluable {job} {counts} {x} {first} {end} f sp =
    let toks = f.shaped.toks in
    let props = f.shaped.props in
    let last = sp.inside in
    let ordered = sp.ordered in
    record {
      settings = f.settings;
      some = f.some;
      tokens = record {
        order = sp.ordered;
        few = omega (arith, f.few);
        there = omega arith;
        below = λ i from below. f.below i (omega arith);
      };
      props = omega arith;
      logs = logs-fewer (end - first) (row_count x) job.logs.now (omega arith) f.logs_reach;
      room = f.room;
      zeros = f.zeros;
    }

-- ---- one after the other

-- the lists after the mode step, as the code has them: its flag, tokens and counts are those above
pub record Stepped (job : Job) (counts : List ℕ) (sp : Span) (x y : Flat) : Type 0 where
  pub changed : Changed (settled_at (uses_of job.settings x) sp) x y
  pub below : (k : ℕ) → k < length y.toks → get_or y.toks k 0 < job.settings.alphabet
  pub fitting : Fitting job counts y
  pub spanned : Spanned sp y

pub after-step : {job : Job} {counts : List ℕ} {x : Flat} {first end : ℕ} → Fitting job counts x → Spanned (span first end) x
    → (uses : Bool) (z : Flat) (counts' : List ℕ) → uses ≡ uses_of job.settings x → z ≡ flat x.props (step_tokens uses first end x.res x.toks) x.res → counts' ≡ counts
    → (uses ≡ true → LowTokens first end z.toks) → Stepped job counts' (span first end) x z
after-step {job} {counts} {x} {first} {end} f sp uses z counts' is made same low =
    let lists : z ≡ y f sp = made ∙ ap (λ (b : Bool). flat x.props (step_tokens b first end x.res x.toks) x.res) is in
    subst (λ (l : Flat). Stepped job counts' (span first end) x l) (sym lists)
    (subst (λ (c : List ℕ). Stepped job c (span first end) x (y f sp)) (sym same)
    (step (λ e. subst (λ (l : Flat). LowTokens first end l.toks) lists (low (is ∙ e)))))
  where
    step : (uses_of job.settings x ≡ true → LowTokens first end (y f sp).toks) → Stepped job counts (span first end) x (y f sp)
    step l =
        let c = stepped f sp in
        let b = stepped-below f sp l in
        record {
          changed = c;
          below = b;
          fitting = fitting_still f c.size b;
          spanned = record { shaped = shaped_still c.size f.shaped; ordered = sp.ordered; inside = omega (arith, sp.inside, count_still c.size) };
        }

-- the evaluation of the rows that the mode step left is the leaf's
pub made : {scored : Bool} {job : Job} {counts : List ℕ} {depth : ℕ} {x y : Flat} {first end : ℕ} {r : Leaf} (mode : ℤ)
    → Spanned (span first end) x → Stepped job counts (span first end) x y → mode ≡ span_mode (uses_of job.settings x) (within (span first end) (held_in x))
    → Evaluated r scored (settings_of job.settings) job.logs.now mode depth (within (span first end) (held_in y)) → MadeLeaf scored job depth (span first end) x y r
made {scored} {job} {counts} {depth} {x} {y} {first} {end} {r} mode sp st is e =
    let all : end ≤ length (held_in x) = omega (arith, sp.inside, length-held x.props x.toks x.res) in
    let mine = ap (within (span first end)) st.changed.rows ∙ put_same (uses_of job.settings x) (held_in x) (span first end) sp.ordered all in
    record {
      changed = st.changed;
      leaf = subst (λ (l : List Row). Evaluated r scored (settings_of job.settings) job.logs.now (span_mode (uses_of job.settings x) (within (span first end) (held_in x))) depth l) mine
          (subst (λ (m : ℤ). Evaluated r scored (settings_of job.settings) job.logs.now m depth (within (span first end) (held_in y))) is e);
      below = st.below;
    }

-- the same of the caller's lists, which hold the properties and the residuals that they held
pub made-back : {scored : Bool} {job : Job} {depth : ℕ} {sp : Span} {x : Flat} {r : Leaf} {y z : RowTokens} {toks : List ℕ} → SameTokensLent y z
    → toks ≡ z.tok.now → MadeLeaf scored job depth sp x (flat_with z) r → MadeLeaf scored job depth sp x (flat y.props.now toks y.res.now) r
made-back {scored} {job} {depth} {sp} {x} {r} same e m = subst (λ (l : Flat). MadeLeaf scored job depth sp x l r) (given-back same e) m
