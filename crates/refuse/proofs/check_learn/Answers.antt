-- Each check settles the next condition of the model's chain, whichever way it goes. Assumes nothing.
use mathlib.Core.Path.{◌≡◌, refl, sym, ap, ◌∙◌}
use mathlib.Core.Bool.{Bool, false, ◌||◌}
use mathlib.Core.List.{List}
use mathlib.Core.Option.{Option, none, some}
use Rattle.std.specs.Prelude as std
use Prim.Native.Nat.{ℕ, ◌/◌}
use lib.ListN.{length}
use lib.Ieee.{Float}
use Rattle.model.specs.Settings.{Settings}
use Rattle.model.specs.Single.{singles}
use Rattle.model.specs.Profile.{single}
use Rattle.model.specs.Lent.{Lent, row_count}
use Rattle.model.specs.Refuse.{Refusal, refuse_if, refuse_at, is_outside, has_no_predictor, is_uneven, bad_row_from, is_short_alphabet, is_bad_logs, is_short_of_room, refused_before, learn_refusal}
use Rattle.refuse.specs.declared.Rooms.{Rooms}
use Rattle.refuse.specs.Given.{settings_of, Holds, Lends, lent_of, lends, found_of}
use Rattle.rows.specs.Flat.{Flat}
use Rattle.rows.specs.Lent.{flat_seen}
use Rattle.model.specs.Operations.{refused, outcome_of}
use Rattle.model.proofs.Accepted.{in_range}
use Rattle.refuse.proofs.Ranges.{whole-rows}
use Rattle.refuse.proofs.Answers.{told, row-found, nothing-found}
use Rattle.refuse.proofs.check_learn.Goals as goal

-- a condition that is settled is settled in the chain
settled : (n : ℕ) (next : Option Refusal) {b v : Bool} → b ≡ v → refuse_if b n next ≡ refuse_if v n next
settled n next e = ap (λ (b : Bool). refuse_if b n next) e

-- ---- the model's chain from a condition on
module _ (t : Settings singles) (logs : List Float) (x : Lent singles) where
  abbrev from_7 : Option Refusal
  from_7 = refuse_if (is_short_of_room t x || false) 7 none

  abbrev from_6 : Option Refusal
  from_6 = refuse_if (is_bad_logs single logs x) 6 from_7

  abbrev from_5 : Option Refusal
  from_5 = refuse_if (is_short_alphabet t x) 5 from_6

  abbrev bad_row : Option ℕ
  bad_row = bad_row_from t.alphabet (row_count x) 0 x.toks

  abbrev from_4 : Option Refusal
  from_4 = refuse_at bad_row 4 from_5

  abbrev from_3 : Option Refusal
  from_3 = refuse_if (is_uneven x) 3 from_4

  abbrev from_2 : Option Refusal
  from_2 = refuse_if (has_no_predictor t) 2 from_3

  abbrev whole : Option Refusal
  whole = learn_refusal single t logs x

  -- ---- the checks, in order: the chain once none of the conditions before holds
  up_to_1 : {v : Bool} → is_outside single t ≡ v → whole ≡ refuse_if v 1 from_2
  unfolding learn_refusal refused_before
  up_to_1 e = settled 1 from_2 e

  up_to_2 : is_outside single t ≡ false → {v : Bool} → has_no_predictor t ≡ v → whole ≡ refuse_if v 2 from_3
  up_to_2 a e = up_to_1 a ∙ settled 2 from_3 e

  up_to_3 : is_outside single t ≡ false → has_no_predictor t ≡ false → {v : Bool} → is_uneven x ≡ v → whole ≡ refuse_if v 3 from_4
  up_to_3 a b e = up_to_2 a b ∙ settled 3 from_4 e

  up_to_4 : is_outside single t ≡ false → has_no_predictor t ≡ false → is_uneven x ≡ false → (o : Option ℕ) → bad_row ≡ o → whole ≡ refuse_at o 4 from_5
  up_to_4 a b d o e = up_to_3 a b d ∙ ap (λ (p : Option ℕ). refuse_at p 4 from_5) e

  up_to_5 : whole ≡ from_5 → {v : Bool} → is_short_alphabet t x ≡ v → whole ≡ refuse_if v 5 from_6
  up_to_5 a e = a ∙ settled 5 from_6 e

  up_to_6 : whole ≡ from_5 → is_short_alphabet t x ≡ false → {v : Bool} → is_bad_logs single logs x ≡ v → whole ≡ refuse_if v 6 from_7
  up_to_6 a b e = up_to_5 a b ∙ settled 6 from_7 e

  up_to_7 : whole ≡ from_5 → is_short_alphabet t x ≡ false → is_bad_logs single logs x ≡ false → {v : Bool} → (is_short_of_room t x || false) ≡ v
      → whole ≡ refuse_if v 7 none
  up_to_7 a b d e = up_to_6 a b d ∙ settled 7 none e

  -- what the search for a row found is the model's bad row
  row_is : is_uneven x ≡ false → (toks : List ℕ) → x.toks ≡ toks → {r : std.Option ℕ} → r ≡ found_of (bad_row_from t.alphabet (length toks / 14) 0 toks) → found_of bad_row ≡ r
  row_is e toks h f = sym (f ∙ rw (← h, (whole-rows x e).1))

-- the lists that are lent have these lengths
lengths : {rows : Flat} {room : Rooms} {x : Lent singles} → Lends rows room x → Holds (length rows.props) (length rows.toks) (length rows.res) x
lengths h = record { props = ap length h.props; toks = ap length h.toks; res = ap length h.res }

-- a refusal of the chain is the check's
refuses : {o : Option Refusal} (r : Refusal) (rows : ℕ) → o ≡ some r → refused r ≡ outcome_of o rows
refuses r rows f = ap (λ (o : Option Refusal). outcome_of o rows) (sym f)

pub returns-then-not-settings_fit : goal.returns-then-not-settings_fit
returns-then-not-settings_fit c = λ x h.
    refuses (record { number = 1; place = 0 }) _ (up_to_1 _ _ x (told (is_outside single _) c.settings_fit.ensures c.if-not-settings_fit.true))

pub returns-then-not-any_usable : goal.returns-then-not-any_usable
returns-then-not-any_usable c = λ x h.
    let a = told (is_outside single _) c.settings_fit.ensures c.if-not-settings_fit.false in
    refuses (record { number = 2; place = 0 }) _ (up_to_2 _ _ x a (told (has_no_predictor _) c.any_usable.ensures c.if-not-any_usable.true))

pub returns-then-not-shape_fits : goal.returns-then-not-shape_fits
returns-then-not-shape_fits c = λ x h.
    let a = told (is_outside single _) c.settings_fit.ensures c.if-not-settings_fit.false in
    let b = told (has_no_predictor _) c.any_usable.ensures c.if-not-any_usable.false in
    refuses (record { number = 3; place = 0 }) _ (up_to_3 _ _ x a b (told (is_uneven x) (c.shape_fits.ensures x (lengths h)) c.if-not-shape_fits.true))

pub first_bad_row-requires : goal.first_bad_row-requires
first_bad_row-requires c =
    let h = lends {M = singles} (flat_seen c.args.rows) c.args.rooms in
    let x : Lent singles = lent_of (flat_seen c.args.rows) c.args.rooms in
    (whole-rows x (told (is_uneven x) (c.shape_fits.ensures x (lengths h)) c.if-not-shape_fits.false)).0

pub returns-in-Some : goal.returns-in-Some
returns-in-Some c = λ x h.
    let t = settings_of c.args.job.settings in
    let a = told (is_outside single _) c.settings_fit.ensures c.if-not-settings_fit.false in
    let b = told (has_no_predictor _) c.any_usable.ensures c.if-not-any_usable.false in
    let d = told (is_uneven x) (c.shape_fits.ensures x (lengths h)) c.if-not-shape_fits.false in
    let row = row-found (bad_row t c.args.job.logs.now x) _ (row_is t c.args.job.logs.now x d _ h.toks c.first_bad_row.ensures ∙ c.in-Some.is) in
    ap (λ (o : Option Refusal). outcome_of o (row_count x)) (sym (up_to_4 t c.args.job.logs.now x a b d (some _) row))

-- after the search for a row

pub returns-then-not-alphabet_fits : goal.returns-then-not-alphabet_fits
returns-then-not-alphabet_fits c = λ x h.
    let t = settings_of c.args.job.settings in
    let a = told (is_outside single _) c.settings_fit.ensures c.if-not-settings_fit.false in
    let b = told (has_no_predictor _) c.any_usable.ensures c.if-not-any_usable.false in
    let l = lengths h in
    let d = told (is_uneven x) (c.shape_fits.ensures x l) c.if-not-shape_fits.false in
    let none-bad = nothing-found (bad_row t c.args.job.logs.now x) (row_is t c.args.job.logs.now x d _ h.toks c.first_bad_row.ensures ∙ c.in_default.is) in
    let e = up_to_4 t c.args.job.logs.now x a b d none none-bad in
    refuses (record { number = 5; place = 0 }) _
    (up_to_5 t c.args.job.logs.now x e (told (is_short_alphabet _ x) (c.alphabet_fits.ensures x (rw (l.props, c.count-count.ensures) refl) l.res) c.if-not-alphabet_fits.true))

pub returns-then-not-logs_fit : goal.returns-then-not-logs_fit
returns-then-not-logs_fit c = λ x h.
    let t = settings_of c.args.job.settings in
    let a = told (is_outside single _) c.settings_fit.ensures c.if-not-settings_fit.false in
    let b = told (has_no_predictor _) c.any_usable.ensures c.if-not-any_usable.false in
    let l = lengths h in
    let d = told (is_uneven x) (c.shape_fits.ensures x l) c.if-not-shape_fits.false in
    let none-bad = nothing-found (bad_row t c.args.job.logs.now x) (row_is t c.args.job.logs.now x d _ h.toks c.first_bad_row.ensures ∙ c.in_default.is) in
    let e = up_to_4 t c.args.job.logs.now x a b d none none-bad in
    let f = told (is_short_alphabet _ x) (c.alphabet_fits.ensures x (rw (l.props, c.count-count.ensures) refl) l.res) c.if-not-alphabet_fits.false in
    refuses (record { number = 6; place = 0 }) _
    (up_to_6 t c.args.job.logs.now x e f (told (is_bad_logs single _ x) (c.logs_fit.ensures x (rw (l.props, c.count-count.ensures) refl)) c.if-not-logs_fit.true))

pub returns-then-not-rooms_fit : goal.returns-then-not-rooms_fit
returns-then-not-rooms_fit c = λ x h.
    let t = settings_of c.args.job.settings in
    let a = told (is_outside single _) c.settings_fit.ensures c.if-not-settings_fit.false in
    let b = told (has_no_predictor _) c.any_usable.ensures c.if-not-any_usable.false in
    let l = lengths h in
    let d = told (is_uneven x) (c.shape_fits.ensures x l) c.if-not-shape_fits.false in
    let none-bad = nothing-found (bad_row t c.args.job.logs.now x) (row_is t c.args.job.logs.now x d _ h.toks c.first_bad_row.ensures ∙ c.in_default.is) in
    let e = up_to_4 t c.args.job.logs.now x a b d none none-bad in
    let f = told (is_short_alphabet _ x) (c.alphabet_fits.ensures x (rw (l.props, c.count-count.ensures) refl) l.res) c.if-not-alphabet_fits.false in
    let g = told (is_bad_logs single _ x) (c.logs_fit.ensures x (rw (l.props, c.count-count.ensures) refl)) c.if-not-logs_fit.false in
    refuses (record { number = 7; place = 0 }) _ (up_to_7 t c.args.job.logs.now x e f g (ap (λ (b : Bool). b || false) (told (is_short_of_room t x) (c.rooms_fit.ensures x h.rooms) c.if-not-rooms_fit.true)))

pub returns : goal.returns
returns c = λ x h.
    let t = settings_of c.args.job.settings in
    let a = told (is_outside single _) c.settings_fit.ensures c.if-not-settings_fit.false in
    let b = told (has_no_predictor _) c.any_usable.ensures c.if-not-any_usable.false in
    let l = lengths h in
    let d = told (is_uneven x) (c.shape_fits.ensures x l) c.if-not-shape_fits.false in
    let none-bad = nothing-found (bad_row t c.args.job.logs.now x) (row_is t c.args.job.logs.now x d _ h.toks c.first_bad_row.ensures ∙ c.in_default.is) in
    let e = up_to_4 t c.args.job.logs.now x a b d none none-bad in
    let f = told (is_short_alphabet _ x) (c.alphabet_fits.ensures x (rw (l.props, c.count-count.ensures) refl) l.res) c.if-not-alphabet_fits.false in
    let g = told (is_bad_logs single _ x) (c.logs_fit.ensures x (rw (l.props, c.count-count.ensures) refl)) c.if-not-logs_fit.false in
    rw (c.count-count.ensures, ← h.props) (ap (λ (o : Option Refusal). outcome_of o (row_count x)) (sym (up_to_7 t c.args.job.logs.now x e f g (ap (λ (b : Bool). b || false) (told (is_short_of_room t x) (c.rooms_fit.ensures x h.rooms) c.if-not-rooms_fit.false)))))

pub rooms_fit-requires : goal.rooms_fit-requires
rooms_fit-requires c = in_range single _ (told (is_outside single _) c.settings_fit.ensures c.if-not-settings_fit.false)
