-- The contexts written are those that a decoder gives the leaves as it reads the tree, so lookup and then the context list give the decoder's context. Assumes nothing.
use mathlib.Core.Path.{◌≡◌, refl, ap, ◌∙◌}
use Prim.Native.Nat.{ℕ, zero, suc, ◌+◌, ◌<◌}
use native.Mathlib.Nat.{lt_irrefl}
use native.Mathlib.Omega.{arith}
use mathlib.Core.List.Memᴰ
use mathlib.Core.List.{List, [], ◌∷◌, ◌++◌, Memᴰ}
use lib.ListN.{length, get_or, length-append}
use lib.IntN.{ℤ}
use Rattle.model.specs.Meter.{Meter}
use Rattle.model.specs.Settings.{props_per_row}
use Rattle.model.specs.Standard.{MaLeaf, MaTree, leaf_for, ReadFrom, at-end, at_leaf, at-decision, IsDecoded}
use Rattle.model.specs.Tree.{Node, nodes_of}
use Rattle.model.specs.Contexts.{contexts_from, contexts_of}
use Rattle.model.specs.Lent.{Stored, tree_in}
use Rattle.model.specs.Operations.{accepted, Found, lookup, ContextLists, leaf_contexts}
use Rattle.model.specs.Decoder.{Shows, shows-leaf, shows-decision, leaf_in, DecodersTree}
use Rattle.model.proofs.Sound.{Rooted, has_root, sound}
use Rattle.model.proofs.Written.{get_d_written}
use Rattle.model.proofs.Accepted.{contexts-passed}
use Rattle.model.proofs.ContextNumbers.{Walk, waits, given, kept, visit_split, visit_leaf, start, contexts-number}
use Rattle.model.proofs.StandardLookup.{sound_is_standard, lookup_is_standard}

-- the nodes of a queue are these trees
pub data AllShow (nodes : List Node) (leaf_at : ℕ → MaLeaf) : List ℕ → List MaTree → Type 0 where
  no_more : AllShow nodes leaf_at [] []
  more : {i : ℕ} {t : MaTree} {queue : List ℕ} {ts : List MaTree} → Shows nodes leaf_at i t → AllShow nodes leaf_at queue ts → AllShow nodes leaf_at (i ∷ queue) (t ∷ ts)

pub two-more : {nodes : List Node} {leaf_at : ℕ → MaLeaf} {g l : ℕ} {left right : MaTree} {queue : List ℕ} {ts : List MaTree}
    → AllShow nodes leaf_at queue ts → Shows nodes leaf_at g left → Shows nodes leaf_at l right → AllShow nodes leaf_at (queue ++ (g ∷ l ∷ [])) (ts ++ (left ∷ right ∷ []))
two-more no_more a z = more a (more z no_more)
two-more (more s ss) a z = more s (two-more ss a z)

module _ (nodes : List Node) (rooted : Rooted nodes) (root : 0 < length nodes)
    (leaf_at : ℕ → MaLeaf) (beside : (i : ℕ) → i < length nodes → (leaf_at i).context ≡ get_or (contexts_of nodes) i 0) where
  -- what was written for the nodes visited stays, and a decoder reads the trees that wait
  read : (fuel : ℕ) {done queue : List ℕ} {next : ℕ} {cs : List ℕ} {ts : List MaTree} → Walk nodes rooted root done queue next cs → fuel + length done ≡ length nodes
      → contexts_from fuel nodes queue next cs ≡ contexts_of nodes → AllShow nodes leaf_at queue ts
      → ((k : ℕ) → Memᴰ k done → get_or (contexts_of nodes) k 0 ≡ get_or cs k 0) × ReadFrom next ts
  unfolding contexts_from
  read zero w n e no_more = (λ k m. rw (← e), at-end)
  read zero {done} w n e (more s ss) = absurd (lt_irrefl (length done) (omega (arith, (waits nodes rooted root w).1)))
  read (suc fuel) w n e no_more = (λ k m. rw (← e), at-end)
  read (suc fuel) {done} w n e (more {i} (shows-leaf here) ss) =
      let (stay, rest) = read fuel (visit_leaf nodes rooted root w here) (omega (arith, length-append done (i ∷ []))) (rw (here, contexts_from) at e) ss in (
        λ k m. stay k (Memᴰ.append_left (i ∷ []) m) ∙ kept nodes rooted root w k m,
        at_leaf (beside i (waits nodes rooted root w).0 ∙ stay i (Memᴰ.append_right done (Memᴰ.head refl)) ∙ given nodes rooted root w) rest,
      )
  read (suc fuel) {done} w n e (more {i} (shows-decision here a z) ss) =
      let (stay, rest) = read fuel (visit_split nodes rooted root w here) (omega (arith, length-append done (i ∷ []))) (rw (here, contexts_from) at e) (two-more ss a z) in
      (λ k m. stay k (Memᴰ.append_left (i ∷ []) m), at-decision rest)

  decoded : {t : MaTree} → Shows nodes leaf_at 0 t → IsDecoded t
  unfolding contexts_of
  decoded s = (read (length nodes) (start nodes rooted root) (omega arith) refl (more s no_more)).1

-- what an accepted call writes is the decoder's
pub contexts_are_standard : {M : Meter} (nodes : List (Stored M)) (count : ℕ) (x y : ContextLists) (leaves : ℕ)
    → leaf_contexts nodes count x ≡ record { outcome = accepted leaves; lent = y } → (t : MaTree) × DecodersTree nodes count y.contexts t
contexts_are_standard nodes count x y leaves e =
    let rs = tree_in count nodes in
    let tree = nodes_of rs in
    let (inside, faultless, _, _, exit) = contexts-passed nodes count x y leaves e in
    let rooted = (sound rs faultless).rooted in
    let root = has_root rs faultless in
    let n = (contexts-number tree rooted root).as_long in
    let written : (i : ℕ) → i < length tree → get_or y.contexts i 0 ≡ get_or (contexts_of tree) i 0 =
    λ i h. rw exit (get_d_written (contexts_of tree) x.contexts 0 i (omega arith)) in
    let (t, s) = sound_is_standard nodes count faultless y.contexts in (
      t,
      record {
        is-tree = s;
        decoded = decoded tree rooted root (leaf_in rs y.contexts) written s;
        finds = lookup_is_standard nodes count faultless y.contexts s inside;
      },
    )

-- so a lookup's predictor, and the context beside the leaf that it names, are those that a decoder uses
pub context-found : {M : Meter} {nodes : List (Stored M)} {count : ℕ} {contexts : List ℕ} {t : MaTree} → DecodersTree nodes count contexts t
    → (ps : List ℤ) → length ps ≡ props_per_row → (f : Found) → lookup nodes count ps ≡ accepted f
    → (f.pred ≡ (leaf_for ps t).predictor) × (get_or contexts f.leaf 0 ≡ (leaf_for ps t).context)
context-found {t = t} d ps w f e =
    let (i, q, same) = d.finds ps w in
    let z : f ≡ record { leaf = i; pred = (leaf_for ps t).predictor } = cc in
    rw z (refl, ap (λ (l : MaLeaf). l.context) same)
