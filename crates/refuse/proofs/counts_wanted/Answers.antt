-- The bounds of the settings keep the products small. Assumes nothing.
use mathlib.Core.Path.{◌≡◌}
use Prim.Native.Nat.{ℕ, ◌+◌, ◌*◌, ◌≤◌, max}
use Rattle.model.specs.Profile.{single}
use Rattle.model.specs.Accepting.{InRange}
use Rattle.refuse.specs.declared.Settings.{Settings}
use Rattle.refuse.specs.Given.{settings_of}
use Rattle.refuse.proofs.Ranges.{scored-small}

-- with the larger of the number of sides and 1
scored : (s : Settings) → InRange single (settings_of s) → {larger : ℕ} → larger ≡ max s.side_preds 1
    → larger * s.alphabet * (s.max_candidates + 2) ≤ 14 * 256 * 34
scored s r e = rw e (scored-small s.side_preds s.alphabet s.max_candidates r.sides r.alphabet.1 r.candidates)
