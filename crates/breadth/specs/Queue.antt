-- A breadth-first walk, one node at a time (document 01, "Contexts"). Assumes nothing.
use Rattle.std.specs.Prelude.{ℕ, ◌+◌, Bool, cond, List, set}

-- a split's children go to the end of the queue, gt before le
abbrev pub queued : Bool → ℕ → ℕ → ℕ → List ℕ → List ℕ
queued is-split gt le end queue = cond is-split (set (set queue end gt) (end + 1) le) queue

-- the queue's end after that
abbrev pub end_after : Bool → ℕ → ℕ
end_after is-split end = cond is-split (end + 2) end
