-- Even sampling (document 01, "Even sampling"; the Rust's `evenly_sampled_indices`). Assumes nothing.
use Rattle.std.specs.Prelude.{ℕ, ◌*◌, ◌/◌, min, List, map}
use Rattle.model.specs.Lists.{range}

-- row number k × rows / n, k from 0 below n = min(rows, target)
unfoldable pub even_sample : ℕ → ℕ → List ℕ
even_sample rows target = let n = min rows target in map (λ (k : ℕ). k * rows / n) (range 0 n)
