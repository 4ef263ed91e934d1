-- What flat bits ask of fitting lists, and that the count space comes back. Assumes nothing.
use mathlib.Core.Path.{◌≡◌, refl, sym, ap, ◌∙◌}
use mathlib.Core.List.{List, ◌∷◌, ◌++◌}
use Prim.Native.Nat.{ℕ, zero, suc, ◌*◌, ◌≤◌}
use native.Mathlib.Omega.{arith}
use lib.IntN.{ℤ}
use lib.ListN.{length, take, drop, replicate, take-append-drop}
use Rattle.model.specs.Lists.{is_empty}
use Rattle.refuse.specs.Given.{settings_of}
use Rattle.refuse.specs.declared.Job.{Job}
use Rattle.cost.proofs.Bridge.{usable-is}
use Rattle.flat.specs.Flat.{FlatFits}
use Rattle.rows.specs.Flat.{Flat, flat}
use Rattle.lent.specs.Fitting.{Fitting}

take-zeros : (n m : ℕ) → n ≤ m → take {A = ℕ} n (replicate m 0) ≡ replicate n 0
take-zeros zero m h = refl
take-zeros (suc n) zero h = absurd (omega arith)
take-zeros (suc n) (suc m) h = ap (λ (l : List ℕ). 0 ∷ l) (take-zeros n m (omega arith))

module _ {job : Job} {counts : List ℕ} {x : Flat} (f : Fitting job counts x) where
  abbrev wide : ℕ
  wide = 56 * job.settings.alphabet

  pub enough : wide ≤ length counts
  enough = omega (arith, f.room)

  pub front-empty : take wide counts ≡ replicate wide 0
  front-empty = ap (take wide) f.zeros ∙ take-zeros wide (length counts) enough

  pub flat-asked : (res : List ℤ) → FlatFits (flat x.props x.toks res) job.settings.alphabet job.settings.allow_wp job.settings.allowed_preds job.logs.now (take wide counts)
  flat-asked res =
      record {
        rows_fit = record { few = f.few; toks = omega (arith, f.shaped.toks); below = λ i h. f.below i (omega (arith, f.shaped.toks)) };
        tokens = f.settings.alphabet.1;
        reach = f.logs_reach;
        some = ap is_empty (usable-is (settings_of job.settings)) ∙ f.some;
        empty = front-empty;
      }

  -- the part that was lent comes back empty
  pub counts-back : (part : List ℕ) → part ≡ replicate wide 0 → part ++ drop wide counts ≡ counts
  counts-back part e = ap (λ (l : List ℕ). l ++ drop wide counts) (e ∙ sym front-empty) ∙ take-append-drop wide counts
