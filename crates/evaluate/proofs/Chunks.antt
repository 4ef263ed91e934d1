-- The rows of a span as chunks of the flat list, and two properties that are compared in each. Assumes nothing.
use mathlib.Core.Path.{◌≡◌, refl, sym, ap, ◌∙◌, subst}
use mathlib.Core.Bool.{Bool, true, false, ◌&&◌}
use mathlib.Core.List.{List, [], ◌∷◌}
use Prim.Native.Nat.{ℕ, zero, suc, ◌+◌, ◌-◌, ◌*◌, ◌≤◌, ◌<◌}
use native.Mathlib.Omega.{arith}
use lib.IntN.{ℤ, pos}
use lib.ListN.{length, get_or, take, drop, length-append}
use lib.Seq.{take_at, drop_at, drop-drop, get_or-take, get_or-drop}
use denote.Ref.{Bor}
use Rattle.std.specs.Bool.{MatchBool}
use Rattle.std.specs.Iterator.{AlwaysYields}
use Rattle.std.specs.List.{AllWithin, HoldsAt}
use Rattle.std.specs.Slice.Iter.{chunks_exact_rest, chunks_exact_size, chunks_exact_steps}
use Rattle.std.specs.declared.slice.ChunksExact.{ChunksExact}
use Rattle.std.proofs.lemmas.Iterator.{YieldsList}
use Rattle.model.specs.Lists.{range, all, eq_z}
use Rattle.model.proofs.Tests.{eq_z-same, eq_z-other}
use Rattle.evaluate.specs.Order.{equal_columns}
use Rattle.evaluate.proofs.Orders.{in_each}

-- the first n chunks of 24
pub chunks : ℕ → List ℤ → List (List ℤ)
chunks zero xs = []
chunks (suc n) xs = take 24 xs ∷ chunks n (drop 24 xs)

pub chunks-length : (n : ℕ) (xs : List ℤ) → length (chunks n xs) ≡ n
unfolding chunks
chunks-length zero xs = refl
chunks-length (suc n) xs = ap suc (chunks-length n (drop 24 xs))

chunk_at : (n k : ℕ) (xs d : List ℤ) → k < n → get_or (chunks n xs) k d ≡ take 24 (drop (k * 24) xs)
unfolding chunks
chunk_at zero k xs d h = absurd (omega arith)
chunk_at (suc n) zero xs d h = refl
chunk_at (suc n) (suc k) xs d h =
    let e : 24 + k * 24 ≡ suc k * 24 = omega arith in
    chunk_at n k (drop 24 xs) d (omega arith) ∙ ap (take 24) (drop-drop (k * 24) 24 xs ∙ ap (λ (i : ℕ). drop i xs) e)

chunks_given : (n : ℕ) (s : ChunksExact ℤ) → chunks_exact_size s ≡ 24 → length (chunks_exact_rest s) ≡ n * 24
    → AlwaysYields chunks_exact_steps (λ (b : Bor (List ℤ)). b.now) s (chunks n (chunks_exact_rest s))
unfolding chunks
chunks_given zero s z e = λ x j p. absurd (omega (arith, ap length p.1.0, length-append x.now (chunks_exact_rest j), p.1.1, p.0))
chunks_given (suc n) s z e = (
  (λ j p. absurd (omega (arith, p.1.0))),
  λ x j p.
      let long : length x.now ≡ 24 = p.1.1 ∙ z in
      let first : take 24 (chunks_exact_rest s) ≡ x.now = ap (take 24) p.1.0 ∙ take_at x.now (chunks_exact_rest j) 24 long in
      let left : drop 24 (chunks_exact_rest s) ≡ chunks_exact_rest j = ap (drop 24) p.1.0 ∙ drop_at x.now (chunks_exact_rest j) 24 long in
      let fewer : length (chunks_exact_rest j) ≡ n * 24 = omega (arith, ap length p.1.0, length-append x.now (chunks_exact_rest j)) in (
        sym first,
        subst (λ (l : List ℤ). AlwaysYields chunks_exact_steps (λ (b : Bor (List ℤ)). b.now) j (chunks n l)) (sym left) (chunks_given n j (p.0 ∙ z) fewer),
      ),
)

pub chunks_yielded : (n : ℕ) (s : ChunksExact ℤ) (xs : List ℤ) → chunks_exact_size s ≡ 24 → chunks_exact_rest s ≡ xs → length xs ≡ n * 24
    → YieldsList chunks_exact_steps (λ (b : Bor (List ℤ)). b.now) s (chunks n xs)
chunks_yielded n s xs z is e = record {
  runs = subst (λ (l : List ℤ). AlwaysYields chunks_exact_steps (λ (b : Bor (List ℤ)). b.now) s (chunks n l)) is (chunks_given n s z (ap length is ∙ e));
}

-- a test that a whole range passes, or that one number of it fails
all_passed : (p : ℕ → Bool) (first n : ℕ) → ((k : ℕ) → k < n → p (first + k) ≡ true) → all p (range first n) ≡ true
all_passed p first zero h = refl
all_passed p first (suc n) h =
    let at : first + 0 ≡ first = omega arith in
    let here : p first ≡ true = ap p (sym at) ∙ h 0 (omega arith) in
    let rest = all_passed p (suc first) n (λ k l. let e : suc first + k ≡ first + suc k = omega arith in ap p e ∙ h (suc k) (omega arith)) in
    ap (λ (b : Bool). b && all p (range (suc first) n)) here ∙ rest

one_failed : (p : ℕ → Bool) (first n k : ℕ) → k < n → p (first + k) ≡ false → all p (range first n) ≡ false
one_failed p first n k h e = go (all p (range first n)) refl
  where
    go : (b : Bool) → all p (range first n) ≡ b → all p (range first n) ≡ false
    go true is = let both : ◌≡◌ {A = Bool} true false = sym (in_each p first n k is h) ∙ e in cc
    go false is = is

module _ (ps : List ℤ) (first end a b : ℕ) (order : first ≤ end) (low : a < 24) (low' : b < 24) where
  abbrev rows : List ℤ
  rows = take (end * 24 - first * 24) (drop (first * 24) ps)

  cell : (k q : ℕ) (d : List ℤ) → k < end - first → q < 24 → get_or (get_or (chunks (end - first) rows) k d) q (pos 0) ≡ get_or ps ((first + k) * 24 + q) (pos 0)
  cell k q d h l =
      let e : first * 24 + (k * 24 + q) ≡ (first + k) * 24 + q = omega arith in
      ap (λ (c : List ℤ). get_or c q (pos 0)) (chunk_at (end - first) k rows d h) ∙ get_or-take 24 (drop (k * 24) rows) q (pos 0) l
      ∙ get_or-drop (k * 24) rows q (pos 0) ∙ get_or-take (end * 24 - first * 24) (drop (first * 24) ps) (k * 24 + q) (pos 0) (omega arith)
      ∙ get_or-drop (first * 24) ps (k * 24 + q) (pos 0) ∙ ap (λ (i : ℕ). get_or ps i (pos 0)) e

  -- as the chunks say
  pub equal_by_chunks : (r : Bool)
      → MatchBool r (AllWithin (λ (row : List ℤ). get_or row a (pos 0) ≡ get_or row b (pos 0)) (chunks (end - first) rows) 0 (length (chunks (end - first) rows)))
      ((k : ℕ) × (k < length (chunks (end - first) rows)) × HoldsAt (λ (row : List ℤ). get_or row a (pos 0) ≡ get_or row b (pos 0) → ⊥) (chunks (end - first) rows) k)
      → r ≡ equal_columns ps first end a b
  unfolding equal_columns
  equal_by_chunks true h =
      sym (all_passed test first (end - first) (λ k l.
      let same = h k [] (omega arith) (omega (arith, chunks-length (end - first) rows)) in
      let own : get_or ps ((first + k) * 24 + a) (pos 0) ≡ get_or ps ((first + k) * 24 + b) (pos 0) = sym (cell k a [] l low) ∙ same ∙ cell k b [] l low' in
      ap (eq_z (get_or ps ((first + k) * 24 + a) (pos 0))) (sym own) ∙ eq_z-same (get_or ps ((first + k) * 24 + a) (pos 0))))
    where
      test : ℕ → Bool
      test row = eq_z (get_or ps (row * 24 + a) (pos 0)) (get_or ps (row * 24 + b) (pos 0))
  equal_by_chunks false h =
      let l : h.0 < end - first = omega (arith, chunks-length (end - first) rows, h.1) in
      sym (one_failed (λ (row : ℕ). eq_z (get_or ps (row * 24 + a) (pos 0)) (get_or ps (row * 24 + b) (pos 0))) first (end - first) h.0 l
      (eq_z-other (get_or ps ((first + h.0) * 24 + a) (pos 0)) (get_or ps ((first + h.0) * 24 + b) (pos 0)) (λ e. h.2 [] (cell h.0 a [] l low ∙ e ∙ sym (cell h.0 b [] l low')))))
