-- A tree under new numbers: lookups end at the same nodes, and the leaves have the same contexts. Assumes nothing.
-- `order` holds old numbers in their new order, and with a node its children. A node's new number is the first place that it has there.
use mathlib.Core.Path.{◌≡◌, refl, sym, ap, ◌∙◌}
use mathlib.Core.Logic.{inl, inr}
use Prim.Native.Nat.{ℕ, zero, suc, ◌<◌}
use native.Mathlib.Omega.{arith}
use native.Mathlib.Decide.{ℕ_discrete}
use mathlib.Core.List.Memᴰ
use mathlib.Core.List.{List, [], ◌∷◌, ◌++◌, map, map-append, Memᴰ}
use lib.ListN.{length, get_or, set, length-map, length-set, get_or-map}
use lib.Seq.{get_or-set_same, get_or-set_other}
use lib.IntN.{ℤ}
use Rattle.model.specs.Tree.{Node, split, leaf, towards, follow, reach}
use Rattle.model.specs.Prune.{place_of, renumbered}
use Rattle.model.specs.Contexts.{contexts_from}
use Rattle.model.specs.Family.{Child}
use Rattle.model.proofs.Places.{get_d_any}
use Rattle.model.proofs.Family.{towards-child}
use Rattle.model.proofs.Preorder.{place_at}
use Rattle.model.proofs.BreadthFirst.{child-of}

module _ (nodes : List Node) (order : List ℕ) (closed : (x c : ℕ) → Memᴰ x order → Child nodes x c → Memᴰ c order) where
  abbrev as_new : ℕ → Node
  as_new i = renumbered order (get_or nodes i leaf)

  abbrev pub new : List Node
  new = map as_new order

  abbrev place : ℕ → ℕ
  place i = place_of i order

  pub new-at : (q : ℕ) → q < length order → get_or new q leaf ≡ as_new (get_or order q 0)
  new-at q h = get_d_any new q leaf (as_new 0) (rw (length-map order as_new) h) ∙ get_or-map as_new order q 0

  pub new-place : (c : ℕ) → Memᴰ c order → get_or new (place c) leaf ≡ as_new c
  new-place c m = let (low, there) = place_at c order m in new-at (place c) low ∙ ap as_new there

  pub same_place : (c d : ℕ) → Memᴰ c order → Memᴰ d order → place c ≡ place d → c ≡ d
  same_place c d mc md e = sym (place_at c order mc).1 ∙ ap (λ (k : ℕ). get_or order k 0) e ∙ (place_at d order md).1

  -- ---- lookups
  towards-place : (ps : List ℤ) (prop : ℕ) (val : ℤ) (g l : ℕ) → towards ps prop val (place g) (place l) ≡ place (towards ps prop val g l)
  towards-place ps prop val g l = search arith

  pub reach_in : (ps : List ℤ) (fuel c : ℕ) → Memᴰ c order → Memᴰ (reach fuel nodes ps c) order
  unfolding reach
  reach_in ps zero c m = m
  reach_in ps (suc fuel) c m = go (get_or nodes c leaf) refl (reach_in ps fuel)
    where
      go : (q : Node) → get_or nodes c leaf ≡ q → ((d : ℕ) → Memᴰ d order → Memᴰ (reach fuel nodes ps d) order) → Memᴰ (follow ps c (λ (d : ℕ). reach fuel nodes ps d) q) order
      go leaf z ih = m
      go (split p v g l) z ih = ih (towards ps p v g l) (closed c (towards ps p v g l) m (rw z (towards-child ps p v g l)))

  pub reach-new : (ps : List ℤ) (fuel c : ℕ) → Memᴰ c order → reach fuel new ps (place c) ≡ place (reach fuel nodes ps c)
  unfolding reach
  reach-new ps zero c m = refl
  reach-new ps (suc fuel) c m = rw (new-place c m) (go (get_or nodes c leaf) refl (reach-new ps fuel))
    where
      go : (q : Node) → get_or nodes c leaf ≡ q → ((d : ℕ) → Memᴰ d order → reach fuel new ps (place d) ≡ place (reach fuel nodes ps d))
          → follow ps (place c) (λ (d : ℕ). reach fuel new ps d) (renumbered order q) ≡ place (follow ps c (λ (d : ℕ). reach fuel nodes ps d) q)
      go leaf z ih = refl
      go (split p v g l) z ih = ap (λ (d : ℕ). reach fuel new ps d) (towards-place ps p v g l) ∙ ih (towards ps p v g l) (closed c (towards ps p v g l) m (rw z (towards-child ps p v g l)))

  -- ---- contexts: the walk under the new numbers is the walk under the old ones
  abbrev AllIn : List ℕ → Type 0
  AllIn queue = (i : ℕ) → Memᴰ i queue → Memᴰ i order

  -- the same contexts stand at the same nodes
  pub record Alike (old fresh : List ℕ) : Type 0 where
    pub old_long : length old ≡ length nodes
    pub fresh_long : length fresh ≡ length order
    pub same : (i : ℕ) → Memᴰ i order → get_or fresh (place i) 0 ≡ get_or old i 0

  -- one node more has its context
  alike-set : (i next : ℕ) → Memᴰ i order → i < length nodes → (old fresh : List ℕ) → Alike old fresh → Alike (set old i next) (set fresh (place i) next)
  alike-set i next mi h old fresh a = record {
    old_long = length-set old i next ∙ a.old_long;
    fresh_long = length-set fresh (place i) next ∙ a.fresh_long;
    same = λ k m. elim (ℕ_discrete k i) [
      | yes e ↦ rw (e, get_or-set_same fresh (place i) next 0 (rw a.fresh_long (place_at i order mi).0), get_or-set_same old i next 0 (rw a.old_long h))
      | no ne ↦ get_or-set_other fresh (place i) (place k) next 0 (λ (e : place k ≡ place i). ne (same_place k i m mi e)) ∙ a.same k m ∙ sym (get_or-set_other old i k next 0 ne)
    ];
  }

  pub same-contexts : ((x : ℕ) → Memᴰ x order → x < length nodes) → (fuel : ℕ) (queue : List ℕ) → AllIn queue → (next : ℕ) (old fresh : List ℕ) → Alike old fresh
      → Alike (contexts_from fuel nodes queue next old) (contexts_from fuel new (map place queue) next fresh)
  unfolding contexts_from
  same-contexts inside zero queue all next old fresh a = a
  same-contexts inside (suc fuel) [] all next old fresh a = a
  same-contexts inside (suc fuel) (i ∷ queue) all next old fresh a =
      rw (new-place i mi, contexts_from) (go (get_or nodes i leaf) refl (same-contexts inside fuel))
    where
      mi : Memᴰ i order
      mi = all i (Memᴰ.head refl)

      go : (q : Node) → get_or nodes i leaf ≡ q
          → ((queue : List ℕ) → AllIn queue → (next : ℕ) (old fresh : List ℕ) → Alike old fresh
          → Alike (contexts_from fuel nodes queue next old) (contexts_from fuel new (map place queue) next fresh))
          → Alike (elim q [ split prop val gt le ↦ contexts_from fuel nodes (queue ++ (gt ∷ le ∷ [])) next old | leaf ↦ contexts_from fuel nodes queue (suc next) (set old i next) ])
          (elim (renumbered order q) [
            | split prop val gt le ↦ contexts_from fuel new (map place queue ++ (gt ∷ le ∷ [])) next fresh
            | leaf ↦ contexts_from fuel new (map place queue) (suc next) (set fresh (place i) next)
          ])
      go leaf z ih = ih queue (λ k m. all k (Memᴰ.tail m)) (suc next) (set old i next) (set fresh (place i) next) (alike-set i next mi (inside i mi) old fresh a)
      go (split p v g l) z ih = rw (← map-append place queue (g ∷ l ∷ [])) (ih (queue ++ (g ∷ l ∷ [])) (λ k m. elim (Memᴰ.append_cases queue m) [
        | inl n ↦ all k (Memᴰ.tail n)
        | inr n ↦ closed i k mi (rw z (child-of (split p v g l) k n))
      ]) next old fresh a)
