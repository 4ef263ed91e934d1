-- Leaf contexts: leaves breadth first, gt before le; splits get 4,294,967,295 (document 01, "Contexts"; the Rust's `emit_learned_tree`).
-- Assumes nothing.
use Rattle.std.specs.Prelude.{ℕ, zero, suc, List, [], ◌∷◌, ◌++◌, length, get_or, set, replicate}
use Rattle.model.specs.Tree.{Node, split, leaf, below}

-- what a split has in place of a context
abbrev pub no_context : ℕ
no_context = 4294967295

-- `next` is the next context, `queue` holds the nodes still to visit, in order. Each turn visits one node
unfoldable pub contexts_from : ℕ → List Node → List ℕ → ℕ → List ℕ → List ℕ
contexts_from zero nodes queue next contexts = contexts
contexts_from (suc fuel) nodes [] next contexts = contexts
contexts_from (suc fuel) nodes (i ∷ queue) next contexts =
    elim (get_or nodes i leaf) [
      | split prop val gt le ↦ contexts_from fuel nodes (queue ++ (gt ∷ le ∷ [])) next contexts
      | leaf ↦ contexts_from fuel nodes queue (suc next) (set contexts i next)
    ]

unfoldable pub contexts_of : List Node → List ℕ
contexts_of nodes = contexts_from (length nodes) nodes (0 ∷ []) 0 (replicate (length nodes) no_context)

-- the nodes in the order in which a breadth-first walk visits them, gt before le
unfoldable pub breadth_from : ℕ → List Node → List ℕ → List ℕ
breadth_from zero nodes queue = []
breadth_from (suc fuel) nodes [] = []
breadth_from (suc fuel) nodes (i ∷ queue) = i ∷ breadth_from fuel nodes (queue ++ below (λ (c : ℕ). c ∷ []) (get_or nodes i leaf))

unfoldable pub breadth_order : List Node → List ℕ
breadth_order nodes = breadth_from (length nodes) nodes (0 ∷ [])
