-- Learning starts in the invariant. Assumes nothing.
use mathlib.Core.Path.{◌≡◌, refl, sym, ap, ◌∙◌}
use Prim.Native.Nat.{ℕ, zero, suc, ◌<◌}
use native.Mathlib.Nat.{not-suc-le-zero}
use native.Mathlib.Omega.{arith}
use mathlib.Core.Bool.{true, false≢true}
use mathlib.Core.List.{List, map}
use lib.ListN.{length, take}
use lib.Seq.{take_all}
use Rattle.model.specs.Lists.{count_if, keep}
use Rattle.model.specs.Rows.{Row}
use Rattle.model.specs.Mode.{fresh}
use Rattle.model.specs.Grow.{leaf_over}
use Rattle.model.specs.Learn.{root_state}
use Rattle.model.specs.Promise.{key}
use Rattle.model.proofs.Counting.{count_map, count-keep}
use Rattle.model.proofs.Fresh.{fresh-key, fresh-twice, length-fresh}
use Rattle.model.specs.Meter.{Meter}
use Rattle.model.specs.Job.{Job}
use Rattle.model.specs.Family.{meets}
use Rattle.model.specs.Kept.{no_seeds, Invariant}

none_inside : {A : Type 0} (k : ℕ) → suc k < 1 → A
none_inside k h = absurd (not-suc-le-zero {n = k} (omega arith))

module _ {M : Meter} where
  module _ (j : Job M) (rows : List Row) where
    whole : take (length rows) (fresh j.uses rows) ≡ fresh j.uses rows
    whole = take_all (length rows) (fresh j.uses rows) (omega (arith, length-fresh j.uses rows))

    pub root_keeps : Invariant j.uses no_seeds rows (root_state j rows)
    unfolding root_state leaf_over meets
    root_keeps = record {
      family = record {
        forward = elim [ zero ↦ λ h. tt | suc k ↦ λ h. none_inside k h ];
        one_parent = elim [ zero ↦ λ b c h. absurd h | suc a ↦ λ b c h. absurd h ];
        two_children = elim [ zero ↦ tt | suc a ↦ tt ];
      };
      rooted = omega arith;
      bounds = elim [ zero ↦ λ h. omega (arith, length-fresh j.uses rows) | suc k ↦ λ h. none_inside k h ];
      own = λ k t. refl;
      endless = λ k q. absurd (false≢true q);
      laid = λ i k hi hk ne. absurd (ne (omega arith));
      holds = elim [
        | zero ↦ λ h o p. ap (λ (l : List Row). count_if p (map (key j.uses) l)) whole ∙ ap (count_if p) (fresh-key j.uses rows) ∙ count_map p (key j.uses) rows
            ∙ sym (count_map p (key j.uses) (keep (λ (r : Row). true) rows) ∙ count-keep (λ (r : Row). p (key j.uses r)) (λ (r : Row). true) rows)
        | suc k ↦ λ h. none_inside k h
      ];
      fresh_tokens = elim [ zero ↦ λ h t. ap (fresh j.uses) whole ∙ fresh-twice j.uses rows ∙ sym whole | suc k ↦ λ h. none_inside k h ];
      offers = elim [ zero ↦ λ h o e. tt | suc k ↦ λ h. none_inside k h ];
    }
