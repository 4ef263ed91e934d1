-- The rows of a split: a partition, and then the mode step on either part. Assumes nothing.
use mathlib.Core.Path.{◌≡◌, refl, sym, ap, ◌∙◌, subst}
use mathlib.Core.Bool.{Bool}
use mathlib.Core.List.{List, ◌++◌, append_assoc}
use Prim.Native.Nat.{ℕ, ◌+◌, ◌-◌, ◌≤◌}
use native.Mathlib.Omega.{arith}
use lib.ListN.{length, take, drop, length-append}
use lib.Seq.{slice, take_at, drop_at, length-take-le}
use lib.IntN.{ℤ}
use Rattle.model.specs.Rows.{Row, is_above, within}
use Rattle.model.specs.Mode.{span_mode, fresh}
use Rattle.model.specs.Partition.{above_rows, other_rows}
use Rattle.model.specs.Accepting.{rows_below}
use Rattle.model.proofs.Fresh.{span_mode-fresh, length-fresh}
use Rattle.refuse.specs.Given.{settings_of}
use Rattle.refuse.specs.declared.Job.{Job}
use Rattle.layout.specs.declared.Leaf.{Leaf}
use Rattle.layout.specs.declared.Span as layout
use Rattle.layout.specs.Records.{span_is}
use Rattle.rows.specs.Cells.{span}
use Rattle.rows.specs.Flat.{Flat, held_in}
use Rattle.rows.specs.Parted.{Partitioned, parted}
use Rattle.rows.proofs.Cells.{length-held}
use Rattle.rows.proofs.Shapes.{size-then, count_still, shaped_still}
use Rattle.rows.proofs.Sides.{sides-fill, place-is, below_few, gt-spanned, le-spanned}
use Rattle.evaluate.specs.Evaluated.{Evaluated}
use Rattle.lent.specs.Fitting.{uses_of, LeafFits}
use Rattle.leaf.specs.Made.{settled_at, MadeLeaf}
use Rattle.grow.specs.Parts.{divided, RowsFit, RowsSplit}
use Rattle.leaf.proofs.Making.{uses_still, made-fitting}
use Rattle.grow.proofs.Parting.{parted-fitting}

-- ---- four parts end to end, of which the second or the third is changed
module _ {A : Type 0} (f : List A → List A) (p a b d : List A) (first at end : ℕ) (pn : length p ≡ first) (an : first + length a ≡ at) (bn : at + length b ≡ end) where
  upto-at : length (p ++ a) ≡ at
  upto-at = omega (arith, length-append p a)

  upto-end : length (p ++ a ++ b) ≡ end
  upto-end = omega (arith, length-append (p ++ a) b, upto-at)

  slice-second : slice first at (p ++ a ++ b ++ d) ≡ a
  slice-second = ap (λ (l : List A). slice first at l) (append_assoc (p ++ a) b d) ∙ ap (drop first) (take_at (p ++ a) (b ++ d) at upto-at) ∙ drop_at p a first pn

  slice_third : slice at end (p ++ a ++ b ++ d) ≡ b
  slice_third = ap (drop at) (take_at (p ++ a ++ b) d end upto-end) ∙ drop_at (p ++ a) b at upto-at

  second-changed : take first (p ++ a ++ b ++ d) ++ f (slice first at (p ++ a ++ b ++ d)) ++ drop at (p ++ a ++ b ++ d) ≡ p ++ f a ++ b ++ d
  second-changed =
      let front : take first (p ++ a ++ b ++ d) ≡ p =
      ap (take first) (append_assoc (p ++ a) b d ∙ append_assoc p a (b ++ d)) ∙ take_at p (a ++ (b ++ d)) first pn in
      let back : drop at (p ++ a ++ b ++ d) ≡ b ++ d = ap (drop at) (append_assoc (p ++ a) b d) ∙ drop_at (p ++ a) (b ++ d) at upto-at in
      rw (slice-second, front, back) (sym (append_assoc (p ++ f a) b d))

  third_changed : take at (p ++ a ++ b ++ d) ++ f (slice at end (p ++ a ++ b ++ d)) ++ drop end (p ++ a ++ b ++ d) ≡ p ++ a ++ f b ++ d
  third_changed =
      let front : take at (p ++ a ++ b ++ d) ≡ p ++ a = ap (take at) (append_assoc (p ++ a) b d) ∙ take_at (p ++ a) (b ++ d) at upto-at in
      let back : drop end (p ++ a ++ b ++ d) ≡ d = drop_at (p ++ a ++ b) d end upto-end in
      rw (slice_third, front, back)

-- ---- the parts of a split, one after the other: x is partitioned into y, gt made in y leaves `mid`, le made in `mid` leaves z
module _ {job : Job} {counts : List ℕ} {prop at : ℕ} {val : ℤ} {first end : ℕ} {x y : Flat}
    (fits : RowsFit job counts prop (span first end) x) (done : Partitioned prop val (span first end) x y at) where
  -- where le's rows begin, from how many they are
  module _ {below : ℕ} (is : below ≡ rows_below prop val (within (span first end) (held_in x))) where
    pub below_inside : below ≤ end
    below_inside = omega (arith, below_few fits.divisible done)

    pub placed : Partitioned prop val (span first end) x y (end - below)
    placed =
        let ordered = fits.divisible.spanned.ordered in
        let from = done.at in
        let middle : at ≡ end - below = omega (arith, place-is fits.divisible done, below_few fits.divisible done) in
        subst (Partitioned prop val (span first end) x y) middle done

  pub gt-fits : LeafFits y first at job counts
  gt-fits = record { fitting = parted-fitting fits.fitting done; spanned = gt-spanned fits.divisible done }

  module _ {scored : Bool} {depth : ℕ} {mid : Flat} {gt : Leaf} (gt-made : MadeLeaf scored job depth (span first at) y mid gt) where
    pub le-fits : LeafFits mid at end job counts
    le-fits =
        let was = le-spanned fits.divisible done in
        let size = gt-made.changed.size in
        record {
          fitting = made-fitting gt-fits.fitting gt-made;
          spanned = record { shaped = shaped_still size was.shaped; ordered = was.ordered; inside = omega (arith, count_still size, was.inside) };
        }

    module _ {z : Flat} {le : Leaf} (le-made : MadeLeaf scored job depth (span at end) mid z le) where
      abbrev rows : List Row
      rows = held_in x

      abbrev uses : Bool
      uses = uses_of job.settings x

      abbrev above : List Row
      above = above_rows (is_above prop val) (within (span first end) rows)

      abbrev others : List Row
      others = other_rows (is_above prop val) (within (span first end) rows)

      front : length (take first rows) ≡ first
      front = length-take-le first rows (omega (arith, fits.divisible.spanned.ordered, fits.divisible.spanned.inside, length-held x.props x.toks x.res))

      gt-end : first + length above ≡ at
      gt-end = sym done.at

      le-end : at + length others ≡ end
      le-end = omega (arith, sides-fill fits.divisible done, gt-end, fits.divisible.spanned.ordered)

      fresh-end : first + length (fresh uses above) ≡ at
      fresh-end = omega (arith, length-fresh uses above, gt-end)

      rows-y : held_in y ≡ take first rows ++ above ++ others ++ drop end rows
      unfolding parted
      rows-y = done.changed.rows

      uses-y : uses_of job.settings y ≡ uses
      uses-y = sym (uses_still job.settings done.changed.size)

      uses-mid : uses_of job.settings mid ≡ uses
      uses-mid = sym (uses_still job.settings gt-made.changed.size) ∙ uses-y

      rows-mid : held_in mid ≡ take first rows ++ fresh uses above ++ others ++ drop end rows
      rows-mid =
          gt-made.changed.rows
          ∙ ap (λ (u : Bool). settled_at u (span first at) (held_in y)) uses-y
          ∙ ap (settled_at uses (span first at)) rows-y
          ∙ second-changed (fresh uses) (take first rows) above others (drop end rows) first at end front gt-end le-end

      rows-z : held_in z ≡ divided uses prop val (span first end) rows
      unfolding divided
      rows-z =
          le-made.changed.rows
          ∙ ap (λ (u : Bool). settled_at u (span at end) (held_in mid)) uses-mid
          ∙ ap (settled_at uses (span at end)) rows-mid
          ∙ third_changed (fresh uses) (take first rows) (fresh uses above) others (drop end rows) first at end front fresh-end le-end

      gt-mine : within (span first at) (held_in y) ≡ above
      gt-mine = ap (within (span first at)) rows-y ∙ slice-second (fresh uses) (take first rows) above others (drop end rows) first at end front gt-end le-end

      le-mine : within (span at end) (held_in mid) ≡ others
      le-mine = ap (within (span at end)) rows-mid ∙ slice_third (fresh uses) (take first rows) (fresh uses above) others (drop end rows) first at end front fresh-end le-end

      -- what was evaluated, with the flag and the rows told in x's terms
      told : {r : Leaf} (u : Bool) (mine known : List Row) → u ≡ uses → mine ≡ known → Evaluated r scored (settings_of job.settings) job.logs.now (span_mode u mine) depth (fresh u mine)
          → Evaluated r scored (settings_of job.settings) job.logs.now (span_mode uses (fresh uses known)) depth (fresh uses known)
      told {r} u mine known p q e =
          subst (λ (m : ℤ). Evaluated r scored (settings_of job.settings) job.logs.now m depth (fresh uses known)) (sym (span_mode-fresh uses known))
          (subst (λ (l : List Row). Evaluated r scored (settings_of job.settings) job.logs.now (span_mode uses l) depth (fresh uses l)) q
          (subst (λ (b : Bool). Evaluated r scored (settings_of job.settings) job.logs.now (span_mode b mine) depth (fresh b mine)) p e))

      pub rows_split : (a b : layout.Span) → span_is a ≡ span first at → span_is b ≡ span at end
          → RowsSplit scored job counts depth prop val (span first end) x z (record { gt = record { span = a; leaf = gt }; le = record { span = b; leaf = le }; depth = depth })
      rows_split a b front-is back-is = record {
        gt_rows = front-is ∙ ap (span first) (sym fresh-end);
        le_rows = back-is ∙ ap (λ (m : ℕ). span m end) (sym fresh-end);
        changed = record { rows = rows-z; size = size-then done.changed.size (size-then gt-made.changed.size le-made.changed.size) };
        gt = told (uses_of job.settings y) (within (span first at) (held_in y)) above uses-y gt-mine gt-made.leaf;
        le = told (uses_of job.settings mid) (within (span at end) (held_in mid)) others uses-mid le-mine le-made.leaf;
        fitting = made-fitting le-fits.fitting le-made;
        depth_is = refl;
      }
