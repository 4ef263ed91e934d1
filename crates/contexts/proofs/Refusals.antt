-- What leaf contexts answer, case by case, in the order of the checks. Assumes nothing.
use mathlib.Core.Path.{◌≡◌, sym, ap, ◌∙◌}
use Prim.Native.Nat.{ℕ}
use mathlib.Core.Bool.{true, false, ◌||◌}
use mathlib.Core.List.{List, ◌++◌, map}
use mathlib.Core.Option.{none, some}
use lib.ListN.{length, drop, replicate}
use lib.Dec.{ltb}
use Rattle.model.specs.Lists.{written_over}
use Rattle.model.specs.Tree.{nodes_of}
use Rattle.model.specs.Lent.{tree_in}
use Rattle.model.specs.Learn.{leaf_count}
use Rattle.model.specs.Contexts.{contexts_of}
use Rattle.model.specs.Refuse.{fault_in, contexts_refusal}
use Rattle.model.specs.Operations.{refused, accepted, After, ContextLists, leaf_contexts}
use Rattle.layout.specs.Records.{stored_of}
use Rattle.layout.specs.declared.MaNode.{MaNode}

module _ (nodes : List MaNode) (count : ℕ) (x : ContextLists) where
  -- the answer and the lists at exit
  abbrev given : After ℕ ContextLists
  given = leaf_contexts (map stored_of nodes) count x

  -- 8: a fault, or a count beyond the list
  pub faulty : (i : ℕ) → fault_in count (map stored_of nodes) ≡ some i → given ≡ record { outcome = refused (record { number = 8; place = i }); lent = x }
  unfolding leaf_contexts contexts_refusal
  faulty i e = rw e

  module _ (sound : fault_in count (map stored_of nodes) ≡ none) where
    -- 7: context list or queue space shorter than the node count
    pub cramped : (ltb (length x.contexts) count || ltb (length x.queue) count) ≡ true → given ≡ record { outcome = refused (record { number = 7; place = 0 }); lent = x }
    unfolding leaf_contexts contexts_refusal
    cramped e = rw (sound, e)

    granted : (ltb (length x.contexts) count || ltb (length x.queue) count) ≡ false
        → given ≡ record {
          outcome = accepted (leaf_count (nodes_of (tree_in count (map stored_of nodes))));
          lent = record { contexts = written_over (contexts_of (nodes_of (tree_in count (map stored_of nodes)))) x.contexts; queue = replicate (length x.queue) 0 };
        }
    unfolding leaf_contexts contexts_refusal
    granted e = rw (sound, e)

    -- n leaves were counted, and their contexts written over the front of the list
    pub counted : (n : ℕ) (new queue : List ℕ) → (ltb (length x.contexts) count || ltb (length x.queue) count) ≡ false
        → (n ≡ leaf_count (nodes_of (tree_in count (map stored_of nodes)))) × (new ≡ contexts_of (nodes_of (tree_in count (map stored_of nodes))))
        → length new ≡ count → queue ≡ replicate (length x.queue) 0
        → given ≡ record { outcome = accepted n; lent = record { contexts = new ++ drop count x.contexts; queue = queue } }
    counted n new queue e is long zero =
        let all : new ++ drop count x.contexts ≡ written_over (contexts_of (nodes_of (tree_in count (map stored_of nodes)))) x.contexts =
        ap (λ (k : ℕ). new ++ drop k x.contexts) (sym long) ∙ ap (λ (l : List ℕ). written_over l x.contexts) is.1 in
        rw (is.0, all, zero) (granted e)
