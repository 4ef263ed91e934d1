-- A leaf taken out of the queue's lists, and one put behind the others. Assumes nothing.
use mathlib.Core.Path.{◌≡◌, refl, sym, ap, ◌∙◌}
use mathlib.Core.List.{List, [], ◌∷◌, ◌++◌}
use Prim.Native.Nat.{ℕ, suc, ◌+◌, ◌*◌, ◌-◌, ◌≤◌, ◌<◌}
use native.Mathlib.Nat.{mul-one, mul-le-mul_right, suc-mul}
use native.Mathlib.Numerals.{add-one}
use native.Mathlib.Omega.{arith}
use lib.ListN.{length, take, drop, length-append, length-drop, take-append-drop, length-set}
use lib.Seq.{paste, take_all, take_at, drop_at, take-take, take-paste, length-paste, length-take-le, drop-append-le}
use Rattle.model.specs.Meter.{Meter}
use Rattle.model.specs.Lent.{Waiting}
use Rattle.std.specs.List.{copy_within}
use Rattle.layout.specs.Waiting.{laid, words_per_leaf, QueueListsOf, Queued, QueueRoom, SameQueue, without, wait_words, wait_values, wait_gains}
use Rattle.layout.proofs.Cells.{laid_append, laid_one, laid-length, laid-take, set-paste, stores_four}
use Rattle.layout.proofs.Queue.{length_without}
use Rattle.queue.specs.Lent.{put_waiting}

-- the w cells from `at` on taken out, and the m cells behind them moved up
abbrev move_up : {A : Type 0} → ℕ → ℕ → ℕ → List A → List A
move_up at w m l = paste l at (drop (at + w) l) m

-- cells that move towards the front leave a list as long as it was
moved_length : {A : Type 0} (start end at : ℕ) (l : List A) → at ≤ start → start ≤ end → end ≤ length l
    → length (copy_within l start end at) ≡ length l
moved_length start end at l before some room =
    let len : length (drop start l) ≡ length l - start = length-drop start l in
    length-paste l at (drop start l) (end - start) (omega arith) (omega arith)

-- ---- entries of equal size at the front of a list
module _ {E A : Type 0} (f : E → List A) (w : ℕ) (each : (e : E) → length (f e) ≡ w) (t : List E) (l : List A) where
  -- the cells behind entry k
  behind : (k : ℕ) → k < length t → take (length t * w) l ≡ laid f t → take ((length t - 1 - k) * w) (drop (k * w + w) l) ≡ laid f (drop (suc k) t)
  behind k lt is =
      let a : List A = laid f (take (suc k) t) in
      let b : List A = laid f (drop (suc k) t) in
      let rest : List A = drop (length t * w) l in
      let next : suc k * w ≡ k * w + w = suc-mul k w in
      let many : length (drop (suc k) t) ≡ length t - 1 - k = length-drop (suc k) t ∙ omega arith in
      let size : length b ≡ (length t - 1 - k) * w = laid-length f w each (drop (suc k) t) ∙ ap (λ (n : ℕ). n * w) many in
      let front : length a ≡ k * w + w = laid-length f w each (take (suc k) t) ∙ ap (λ (n : ℕ). n * w) (length-take-le (suc k) t (omega arith)) ∙ next in
      let parts : laid f t ≡ a ++ b = ap (laid f) (sym (take-append-drop (suc k) t)) ∙ laid_append f (take (suc k) t) (drop (suc k) t) in
      let whole : l ≡ (a ++ b) ++ rest = sym (take-append-drop (length t * w) l) ∙ ap (λ (r : List A). r ++ rest) (is ∙ parts) in
      let short : k * w + w ≤ length (a ++ b) = let n = length-append a b in omega arith in
      let past : drop (k * w + w) l ≡ b ++ rest =
      ap (drop (k * w + w)) whole ∙ drop-append-le (k * w + w) (a ++ b) rest short ∙ ap (λ (r : List A). r ++ rest) (drop_at a b (k * w + w) front) in
      ap (take ((length t - 1 - k) * w)) past ∙ take_at b rest ((length t - 1 - k) * w) size

  moved_out : (k : ℕ) → k < length t → length t * w ≤ length l → take (length t * w) l ≡ laid f t
      → take ((length t - 1) * w) (move_up (k * w) w ((length t - 1 - k) * w) l) ≡ laid f (without k t)
  moved_out k lt room is =
      let at : ℕ = k * w in
      let m : ℕ = (length t - 1 - k) * w in
      let up : k * w ≤ length t * w = mul-le-mul_right w (omega arith) in
      let next : suc k * w ≡ k * w + w = suc-mul k w in
      let most : suc k * w ≤ length t * w = mul-le-mul_right w lt in
      let split : k + (length t - 1 - k) ≡ length t - 1 = omega arith in
      let sum : (length t - 1) * w ≡ k * w + (length t - 1 - k) * w = ap (λ (n : ℕ). n * w) (sym split) ∙ omega arith in
      let all : suc k + (length t - 1 - k) ≡ length t = omega arith in
      let total : length t * w ≡ suc k * w + (length t - 1 - k) * w = ap (λ (n : ℕ). n * w) (sym all) ∙ omega arith in
      let left = length-drop (k * w + w) l in
      let before : take (k * w) l ≡ laid f (take k t) = sym (take-take (k * w) (length t * w) l up) ∙ ap (take (k * w)) is ∙ laid-take f w each t k (omega arith) in
      ap (λ (n : ℕ). take n (move_up (k * w) w ((length t - 1 - k) * w) l)) sum
      ∙ take-paste l (k * w) (drop (k * w + w) l) ((length t - 1 - k) * w) (omega arith) (omega arith)
      ∙ rw (before, behind k lt is) (sym (laid_append f (take k t) (drop (suc k) t)))

  -- entry k taken out: the cells behind it are copied over it
  pub cut_out : (k at start end less : ℕ) → at ≡ k * w → start ≡ (k + 1) * w → end ≡ length t * w → less ≡ (length t - 1) * w → k < length t
      → end ≤ length l → take end l ≡ laid f t → take less (copy_within l start end at) ≡ laid f (without k t)
  cut_out k at start end less a b c d lt room is =
      let next : (k + 1) * w ≡ k * w + w = ap (λ (n : ℕ). n * w) (add-one k) ∙ suc-mul k w in
      let all : suc k + (length t - 1 - k) ≡ length t = omega arith in
      let total : length t * w ≡ suc k * w + (length t - 1 - k) * w = ap (λ (n : ℕ). n * w) (sym all) ∙ omega arith in
      let step : suc k * w ≡ k * w + w = suc-mul k w in
      let from : start ≡ k * w + w = b ∙ next in
      let cells : end - start ≡ (length t - 1 - k) * w = omega arith in
      rw (d, cells, from, a) (moved_out k lt (rw c at room) (rw c at is))

  -- one entry behind the others
  pub put-behind : (e : E) → (length t + 1) * w ≤ length l → take (length t * w) l ≡ laid f t
      → take ((length t + 1) * w) (paste l (length t * w) (f e) w) ≡ laid f (t ++ (e ∷ []))
  put-behind e room is =
      let size = each e in
      let sum : (length t + 1) * w ≡ length t * w + w = ap (λ (n : ℕ). n * w) (add-one (length t)) ∙ suc-mul (length t) w in
      let whole : take w (f e) ≡ f e = take_all w (f e) (omega arith) in
      ap (λ (n : ℕ). take n (paste l (length t * w) (f e) w)) sum
      ∙ take-paste l (length t * w) (f e) w (omega arith) (omega arith)
      ∙ rw (is, whole) (sym (laid_one f t e))

-- ---- the queue
-- the lists of `waiting` leaves with that at place k taken out: the others behind it move up; over any meter, since nothing
-- here asks what a gain is
abbrev pub taken_from : {M : Meter} → ℕ → ℕ → QueueListsOf M → QueueListsOf M
taken_from waiting k q =
    record {
      words = copy_within q.words ((k + 1) * words_per_leaf) (waiting * words_per_leaf) (k * words_per_leaf);
      values = copy_within q.values (k + 1) waiting k;
      gains = copy_within q.gains (k + 1) waiting k;
    }

module _ {M : Meter} (q : QueueListsOf M) (leaves : List (Waiting M)) (waiting : ℕ) (h : Queued waiting q leaves) where
  -- the leaf at place k taken out
  pub taken_out : (k : ℕ) → k < waiting → QueueRoom waiting q → Queued (waiting - 1) (taken_from waiting k q) (without k leaves)
  taken_out k lt room =
      let many = h.many in
      let inside : k < length leaves = omega arith in
      let here : k ≡ k * 1 = omega arith in
      let next : k + 1 ≡ (k + 1) * 1 = omega arith in
      let all : waiting ≡ length leaves * 1 = omega arith in
      let less : waiting - 1 ≡ (length leaves - 1) * 1 = omega arith in
      record {
        many = ap (λ (n : ℕ). n - 1) h.many ∙ sym (length_without k leaves inside);
        words = cut_out wait_words words_per_leaf (λ w. refl) leaves q.words k (k * words_per_leaf) ((k + 1) * words_per_leaf) (waiting * words_per_leaf)
            ((waiting - 1) * words_per_leaf) refl refl (ap (λ (n : ℕ). n * words_per_leaf) many) (ap (λ (n : ℕ). (n - 1) * words_per_leaf) many) inside room.words h.words;
        values = cut_out wait_values 1 (λ w. refl) leaves q.values k k (k + 1) waiting (waiting - 1) here next all less inside room.values h.values;
        gains = cut_out wait_gains 1 (λ w. refl) leaves q.gains k k (k + 1) waiting (waiting - 1) here next all less inside room.gains h.gains;
      }

  -- a leaf put behind the others
  pub added : (w : Waiting M) → QueueRoom (waiting + 1) q
      → Queued (waiting + 1) (put_waiting waiting w q) (leaves ++ (w ∷ []))
  added w room =
      let many = h.many in
      record {
        many = ap (λ (n : ℕ). n + 1) h.many ∙ sym (length-append leaves (w ∷ []));
        words = ap (take ((waiting + 1) * words_per_leaf)) (stores_four q.words (waiting * words_per_leaf) w.node w.offer.prop w.depth w.offer.below (omega (arith, room.words)))
            ∙ rw many (put-behind wait_words words_per_leaf (λ w. refl) leaves q.words w (rw many at room.words) (rw many at h.words));
        values = ap (take (waiting + 1)) (set-paste q.values waiting w.offer.val (omega (arith, room.values)))
            ∙ rw many (rw (mul-one, mul-one) at
            (put-behind wait_values 1 (λ w. refl) leaves q.values w (rw (mul-one, ← many) room.values) (rw (mul-one, ← many) h.values)));
        gains = ap (take (waiting + 1)) (set-paste q.gains waiting w.offer.gain (omega (arith, room.gains)))
            ∙ rw many (rw (mul-one, mul-one) at
            (put-behind wait_gains 1 (λ w. refl) leaves q.gains w (rw (mul-one, ← many) room.gains) (rw (mul-one, ← many) h.gains)));
      }

-- a leaf taken out leaves each list as long as it was
pub same_taken : {M : Meter} (q : QueueListsOf M) (waiting k : ℕ) → k < waiting → QueueRoom waiting q
    → SameQueue q (taken_from waiting k q)
same_taken q waiting k lt room =
    let start : ℕ = (k + 1) * words_per_leaf in
    let end : ℕ = waiting * words_per_leaf in
    record {
      words = moved_length start end (k * words_per_leaf) q.words (omega arith) (omega arith) room.words;
      values = moved_length (k + 1) waiting k q.values (omega arith) (omega arith) room.values;
      gains = moved_length (k + 1) waiting k q.gains (omega arith) (omega arith) room.gains;
    }

-- and so does one put behind the others
pub same-added : {M : Meter} (q : QueueListsOf M) (waiting : ℕ) (w : Waiting M) → SameQueue q (put_waiting waiting w q)
same-added q waiting w = record { words = simp length-set; values = simp length-set; gains = simp length-set }
