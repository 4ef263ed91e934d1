-- Counting the splits that each node is a child of. Assumes nothing.
use mathlib.Core.Path.{◌≡◌, refl, ap, ◌∙◌}
use Prim.Native.Nat.{ℕ, ◌+◌, ◌*◌, ◌≤◌, ◌<◌}
use native.Mathlib.Numerals.{add-one}
use native.Mathlib.Omega.{arith}
use mathlib.Core.Bool.{Bool, true, cond, not, ◌&&◌, ◌||◌}
use mathlib.Core.List.{List, [], ◌∷◌, ◌++◌, map}
use lib.ListN.{length, get_or, take}
use lib.Seq.{take-suc, length-take-le}
use lib.Dec.{eqb}
use Rattle.model.specs.Lists.{count_if, all}
use Rattle.model.specs.Tree.{has_child}
use Rattle.model.proofs.Counting.{count_append, count_at_most}
use Rattle.layout.specs.Records.{node_is, no_record}
use Rattle.layout.specs.declared.MaNode.{MaNode}
use Rattle.tree.specs.Trees.{CountsParents, AtMost, weight, is_misplaced}

-- what a split counts for node k
abbrev pub counted : List MaNode → ℕ → MaNode → ℕ
counted t k m = cond (has_child k (node_is m)) (weight t k m) 0

module _ (t : List MaNode) (n : ℕ) where
  pub counts-low : (parents : List ℕ) → n ≤ length t → CountsParents t (take n t) parents → AtMost (2 * n) parents
  counts-low parents le is k h =
      let all = count_at_most (λ (m : MaNode). has_child k (node_is m)) (take n t) in
      let wrong = count_at_most (is_misplaced t k) (take n t) in
      let long : length (take n t) ≡ n = length-take-le n t le in
      rw (is k h) (omega arith)

  -- once as a parent, and once more where the child is misplaced
  counted-twice : (k : ℕ) (m : MaNode) → counted t k m ≡ cond (has_child k (node_is m)) 1 0 + cond (is_misplaced t k m) 1 0
  counted-twice k m = search arith

  pub counts-more : (old new : List ℕ) → n < length t → length new ≡ length old → CountsParents t (take n t) old
      → ((k : ℕ) → k < length old → get_or new k 0 ≡ counted t k (get_or t n no_record) + get_or old k 0)
      → CountsParents t (take (n + 1) t) new
  counts-more old new lt long is step k h =
      let inside : k < length old = omega arith in
      let m : MaNode = get_or t n no_record in
      let cut : take (n + 1) t ≡ take n t ++ (m ∷ []) = rw add-one (take-suc t n no_record lt) in
      let all = count_append (λ (m : MaNode). has_child k (node_is m)) (take n t) (m ∷ []) in
      let wrong = count_append (is_misplaced t k) (take n t) (m ∷ []) in
      let two = counted-twice k m in
      step k inside ∙ rw (cut, is k inside, all, wrong) (omega arith)

-- ---- what the count says
pub all-map : {A B : Type 0} (p : B → Bool) (f : A → B) (xs : List A) → all p (map f xs) ≡ all (λ (x : A). p (f x)) xs
all-map p f [] = refl
all-map p f (x ∷ xs) = ap (λ (b : Bool). p (f x) && b) (all-map p f xs)

module _ {A : Type 0} (p q : A → Bool) where
  abbrev wrong : A → Bool
  wrong x = p x && not (q x)

  abbrev right : A → Bool
  right x = not (p x) || q x

  -- where none passes the first test
  none-wrong : (xs : List A) → count_if p xs ≡ 0 → (count_if wrong xs ≡ 0) × (all right xs ≡ true)
  none-wrong [] e = (refl, refl)
  none-wrong (x ∷ xs) e = search (arith, none-wrong xs)

  -- the count is 1 where one passes the first test, and it passes the second
  pub once-right : (xs : List A) → eqb (count_if p xs + count_if wrong xs) 1 ≡ (eqb (count_if p xs) 1 && all right xs)
  once-right [] = refl
  once-right (x ∷ xs) = search (arith, none-wrong xs, once-right xs)
