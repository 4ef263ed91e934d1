-- Entries of equal size end to end: one more, one changed, one read, one taken out. Assumes nothing.
use mathlib.Core.Path.{◌≡◌, refl, sym, ap, ◌∙◌}
use mathlib.Core.List.{List, [], ◌∷◌, ◌++◌, append_assoc, append-nil}
use Prim.Native.Nat.{ℕ, suc, ◌+◌, ◌*◌, ◌≤◌, ◌<◌}
use native.Mathlib.Nat.{zero-mul, suc-mul}
use native.Mathlib.Numerals.{add-one, add-two, add-three}
use native.Mathlib.Omega.{arith}
use lib.ListN.{length, get_or, set, take, drop, length-append, take-append-drop, get_or-append}
use lib.Seq.{sets-eq, paste, take_at, get_or-append-add, length-take-le, split_at, set_split}
use Rattle.layout.specs.Waiting.{laid}

module _ {A : Type 0} where
  -- a store of one cell
  pub set-paste : (l : List A) (i : ℕ) (v : A) → i < length l → set l i v ≡ paste l i (v ∷ []) 1
  set-paste l i v h = set_split l i v h ∙ rw add-one (sym (append_assoc (take i l) (v ∷ []) (drop (suc i) l)))

-- neighbouring cells stored one by one
module _ {A : Type 0} (l : List A) (at : ℕ) where
  pub stores_four : (a b c d : A) → at + 4 ≤ length l → set (set (set (set l at a) (at + 1) b) (at + 2) c) (at + 3) d ≡ paste l at (a ∷ b ∷ c ∷ d ∷ []) 4
  stores_four a b c d h = rw (add-one, add-two, add-three) (sets-eq (a ∷ b ∷ c ∷ d ∷ []) l at h)

module _ {E A : Type 0} (f : E → List A) where
  pub laid_append : (s t : List E) → laid f (s ++ t) ≡ laid f s ++ laid f t
  laid_append [] t = refl
  laid_append (e ∷ s) t = ap (λ (r : List A). f e ++ r) (laid_append s t) ∙ sym (append_assoc (f e) (laid f s) (laid f t))

  pub laid_one : (s : List E) (e : E) → laid f (s ++ (e ∷ [])) ≡ laid f s ++ f e
  laid_one s e = laid_append s (e ∷ []) ∙ ap (λ (r : List A). laid f s ++ r) (append-nil (f e))

module _ {E A : Type 0} (f : E → List A) (w : ℕ) (each : (e : E) → length (f e) ≡ w) where
  pub laid-length : (t : List E) → length (laid f t) ≡ length t * w
  laid-length [] = sym (zero-mul w)
  laid-length (e ∷ t) = let h = laid-length t in let k = each e in let m = suc-mul (length t) w in let j = length-append (f e) (laid f t) in omega arith

  -- the cells of an entry, which stands between a and b
  between : (a b : List E) (e : E) → laid f (a ++ e ∷ b) ≡ laid f a ++ (f e ++ laid f b)
  between a b e = laid_append f a (e ∷ b)

  at_entry : (t : List E) (i : ℕ) (z : E) → i < length t → laid f t ≡ laid f (take i t) ++ (f (get_or t i z) ++ laid f (drop (suc i) t))
  at_entry t i z lt = ap (laid f) (split_at t i z lt) ∙ between (take i t) (drop (suc i) t) (get_or t i z)

  before-entry : (t : List E) (i : ℕ) → i ≤ length t → length (laid f (take i t)) ≡ i * w
  before-entry t i le = laid-length (take i t) ∙ ap (λ (n : ℕ). n * w) (length-take-le i t le)

  -- the first n entries
  pub laid-take : (t : List E) (n : ℕ) → n ≤ length t → take (n * w) (laid f t) ≡ laid f (take n t)
  laid-take t n le =
      ap (λ (r : List E). take (n * w) (laid f r)) (sym (take-append-drop n t))
      ∙ ap (take (n * w)) (laid_append f (take n t) (drop n t))
      ∙ take_at (laid f (take n t)) (laid f (drop n t)) (n * w) (before-entry t n le)

  -- cell k of entry i
  pub laid-read : (t : List E) (i k : ℕ) (z : E) (d : A) → i < length t → k < w → get_or (laid f t) (i * w + k) d ≡ get_or (f (get_or t i z)) k d
  laid-read t i k z d lt small =
      let a : List A = laid f (take i t) in
      let e : List A = f (get_or t i z) in
      let b : List A = laid f (drop (suc i) t) in
      let from : length a ≡ i * w = before-entry t i (omega arith) in
      ap (λ (r : List A). get_or r (i * w + k) d) (at_entry t i z lt)
      ∙ ap (λ (n : ℕ). get_or (a ++ (e ++ b)) (n + k) d) (sym from)
      ∙ get_or-append-add a (e ++ b) k d
      ∙ get_or-append e b d k (rw (each (get_or t i z)) small)
