-- The queue of waiting leaves against the tree: the leaf chosen, the leaf split, the leaves added; and what is read of the queue's lists. Assumes nothing.
use mathlib.Core.Path.{◌≡◌, refl, sym, ap, ◌∙◌}
use mathlib.Core.Bool.{Bool, true, false, cond}
use mathlib.Core.List.{List, [], ◌∷◌, ◌++◌, append_assoc, append-nil}
use mathlib.Core.Option.{Option, none, some}
use Prim.Native.Nat.{ℕ, zero, suc, ◌+◌, ◌*◌, ◌-◌, ◌≤◌, ◌<◌}
use native.Mathlib.Nat.{le_refl, add-zero, zero-add, mul-le-mul_right}
use native.Mathlib.Numerals.{add-one}
use native.Mathlib.Omega.{arith}
use lib.ListN.{length, get_or, set, take, drop, length-append, length-drop, length-set, get_or-append}
use lib.Seq.{get_or-append_seam, get_or-take, length-take-le, take-suc, take_all}
use lib.IntN.{ℤ, pos}
use Rattle.folds.specs.First.{first_place}
use Rattle.folds.proofs.First.{first_more, first_same, first_below, first_one}
use Rattle.model.specs.Meter.{Meter}
use Rattle.model.specs.Rows.{span_size}
use Rattle.model.specs.Job.{Offer, Claim, larger_first, Job}
use Rattle.model.specs.Grow.{Entry, no_entry, claim, Choice, no_choice, chosen, foremost, choice_of, choice}
use Rattle.model.specs.Lent.{Waiting, no_waiting}
use Rattle.layout.specs.Waiting.{laid, words_per_leaf, waits, waiting_from, queue_of, without, wait_words, wait_values, wait_gains}
use Rattle.layout.specs.Waiting.{QueueListsOf, Queued, QueueRoom, SameQueue, claim_at, goes_before}
use Rattle.layout.specs.Waiting.{foremost as foremost_in}
use Rattle.layout.specs.Records.{span_is, no_span_record}
use Rattle.layout.specs.declared.Span.{Span}
use Rattle.layout.proofs.Cells.{laid-read}

pub length_without : {A : Type 0} (k : ℕ) (l : List A) → k < length l → length (without k l) ≡ length l - 1
length_without k l lt =
    let a = length-append (take k l) (drop (suc k) l) in
    let b = length-take-le k l (omega arith) in
    let c = length-drop (suc k) l in
    omega arith

cond_ap : {A B : Type 0} (f : A → B) (b : Bool) (x y : A) → cond b (f x) (f y) ≡ f (cond b x y)
cond_ap f true x y = refl
cond_ap f false x y = refl

module _ {M : Meter} where
  -- ---- leaves added
  pub waiting_append : (i : ℕ) (t u : List (Entry M)) → waiting_from i (t ++ u) ≡ waiting_from i t ++ waiting_from (i + length t) u
  unfolding waiting_from
  waiting_append i [] u = rw add-zero
  waiting_append i (e ∷ t) u =
      let n : suc i + length t ≡ i + suc (length t) = omega arith in
      rw (waiting_append (suc i) t u, n) (sym (append_assoc (waits i e.depth e.offer) (waiting_from (suc i) t) (waiting_from (i + suc (length t)) u)))

  pub few-waits : (node depth : ℕ) (o : Option (Offer M)) → length (waits node depth o) ≤ 1
  few-waits node depth none = omega arith
  few-waits node depth (some o) = omega arith

  -- ---- the leaf chosen
  abbrev pub chosen_at : Waiting M → Choice M
  chosen_at w = chosen w.node w.offer

  module _ (j : Job M) (tree : List (Entry M)) where
    abbrev pub claimed : Waiting M → Claim M
    claimed w = claim tree w.node w.offer

    -- of a queue of the tree's leaves, the one at place k is taken before the one at the lower place `best`
    abbrev pub ahead_in : List (Waiting M) → ℕ → ℕ → Bool
    ahead_in q k best = j.ahead (claimed (get_or q k no_waiting)) (claimed (get_or q best no_waiting))

    -- the place of the leaf that is taken
    abbrev pub best_of : List (Waiting M) → ℕ
    best_of q = first_place (ahead_in q) (length q)

    -- the choice among a queue
    abbrev pub chosen_of : List (Waiting M) → Choice M
    chosen_of [] = no_choice
    chosen_of (w ∷ ws) = chosen_at (get_or (w ∷ ws) (best_of (w ∷ ws)) no_waiting)

    -- one more waiting leaf behind the others
    one_more : (w : Waiting M) (q : List (Waiting M)) → foremost j tree (chosen_of q) w.node (some w.offer) ≡ chosen_of (q ++ (w ∷ []))
    one_more w [] = ap (λ (i : ℕ). chosen_at (get_or (w ∷ []) i no_waiting)) (sym (first_one (ahead_in (w ∷ []))))
    one_more w (v ∷ vs) =
        let q : List (Waiting M) = v ∷ vs in
        let r : List (Waiting M) = q ++ (w ∷ []) in
        let b : ℕ = best_of q in
        let low = first_below (ahead_in q) (length q) in
        let inside : b < length q = omega arith in
        let long : length r ≡ length q + 1 = length-append q (w ∷ []) in
        let old : (i : ℕ) → i < length q → get_or r i no_waiting ≡ get_or q i no_waiting = get_or-append q (w ∷ []) no_waiting in
        let new : get_or r (length q) no_waiting ≡ w = get_or-append_seam q w [] no_waiting in
        let same : first_place (ahead_in r) (length q) ≡ b = first_same (ahead_in r) (ahead_in q) (length q) (λ k best l m. λ i. j.ahead (claimed (old k l i)) (claimed (old best m i))) in
        let test : Bool = j.ahead (claimed w) (claimed (get_or q b no_waiting)) in
        let tests : ahead_in r (length q) b ≡ test = λ i. j.ahead (claimed (new i)) (claimed (old b inside i)) in
        let place : best_of r ≡ cond test (length q) b =
        ap (first_place (ahead_in r)) long ∙ sym (first_more (ahead_in r) (length q) b (cond test (length q) b) (sym same) (ap (λ (t : Bool). cond t (length q) b) (sym tests))) in
        let found : get_or r (cond test (length q) b) no_waiting ≡ cond test w (get_or q b no_waiting) =
        sym (cond_ap (λ (i : ℕ). get_or r i no_waiting) test (length q) b) ∙ (λ i. cond test (new i) (old b inside i)) in
        cond_ap chosen_at test w (get_or q b no_waiting) ∙ sym (ap (λ (i : ℕ). chosen_at (get_or r i no_waiting)) place ∙ ap chosen_at found)

    choice_so_far : (n : ℕ) → n ≤ length tree → choice_of j tree n ≡ chosen_of (queue_of (take n tree))
    unfolding choice_of waiting_from
    choice_so_far zero h = refl
    choice_so_far (suc n) h = go (choice_so_far n (omega arith)) e.offer refl
      where
        e : Entry M
        e = get_or tree n no_entry

        done : List (Waiting M)
        done = queue_of (take n tree)

        longer : queue_of (take (suc n) tree) ≡ done ++ waits n e.depth e.offer
        longer =
            let at : 0 + length (take n tree) ≡ n = omega (arith, length-take-le n tree (omega arith)) in
            ap queue_of (take-suc tree n no_entry h) ∙ waiting_append 0 (take n tree) (e ∷ [])
            ∙ ap (λ (i : ℕ). done ++ (waits i e.depth e.offer ++ [])) at ∙ ap (λ (l : List (Waiting M)). done ++ l) (append-nil (waits n e.depth e.offer))

        go : choice_of j tree n ≡ chosen_of done → (o : Option (Offer M)) → e.offer ≡ o
            → foremost j tree (choice_of j tree n) n e.offer ≡ chosen_of (queue_of (take (suc n) tree))
        go so_far none is = rw (longer, is, append-nil) so_far
        go so_far (some o) is = rw (longer, is, so_far) (one_more (record { node = n; depth = e.depth; offer = o }) done)

    -- the model's choice is the foremost of the queue
    pub choice_is : choice j tree ≡ chosen_of (queue_of tree)
    choice_is = choice_so_far (length tree) (le_refl (length tree)) ∙ ap (λ (t : List (Entry M)). chosen_of (queue_of t)) (take_all (length tree) tree (le_refl (length tree)))

    pub choice_none : length (queue_of tree) ≡ 0 → choice j tree ≡ no_choice
    choice_none e = choice_is ∙ go (queue_of tree) e
      where
        go : (q : List (Waiting M)) → length q ≡ 0 → chosen_of q ≡ no_choice
        go [] e = refl
        go (w ∷ ws) e = absurd (omega arith)

    pub choice_some : 0 < length (queue_of tree) → choice j tree ≡ chosen_at (get_or (queue_of tree) (best_of (queue_of tree)) no_waiting)
    choice_some h = choice_is ∙ go (queue_of tree) h
      where
        go : (q : List (Waiting M)) → 0 < length q → chosen_of q ≡ chosen_at (get_or q (best_of q) no_waiting)
        go [] h = absurd (omega arith)
        go (w ∷ ws) h = refl

  -- ---- the leaf split
  -- what waits at place k of the queue of t is entry `index`, and without its offer the queue is without it
  pub record Stands (b : ℕ) (t : List (Entry M)) (q : List (Waiting M)) (k : ℕ) : Type 0 where
    pub index : ℕ
    pub within : index < length t
    pub node : (get_or q k no_waiting).node ≡ b + index
    pub depth : (get_or q k no_waiting).depth ≡ (get_or t index no_entry).depth
    pub offer : (get_or t index no_entry).offer ≡ some (get_or q k no_waiting).offer
    pub cut : (e : Entry M) → e.offer ≡ none → waiting_from b (set t index e) ≡ without k q

  stands_from : (b : ℕ) (t : List (Entry M)) (k : ℕ) → k < length (waiting_from b t) → Stands b t (waiting_from b t) k
  unfolding waiting_from
  stands_from b [] k lt = absurd (omega arith)
  stands_from b (e ∷ t) k lt = go e.offer refl k lt (λ j l. stands_from (suc b) t j l) where
    go : (o : Option (Offer M)) → e.offer ≡ o → (k : ℕ) → k < length (waits b e.depth o ++ waiting_from (suc b) t)
        → ((j : ℕ) → j < length (waiting_from (suc b) t) → Stands (suc b) t (waiting_from (suc b) t) j) → Stands b (e ∷ t) (waits b e.depth o ++ waiting_from (suc b) t) k
    go none is k lt below =
        let h = below k lt in
        record {
          index = suc h.index;
          within = omega (arith, h.within);
          node = h.node ∙ omega arith;
          depth = h.depth;
          offer = h.offer;
          cut = λ f no. ap (λ (o : Option (Offer M)). waits b e.depth o ++ waiting_from (suc b) (set t h.index f)) is ∙ h.cut f no;
        }
    go (some o) is zero lt below = record {
      index = 0;
      within = omega arith;
      node = sym (add-zero b);
      depth = refl;
      offer = is;
      cut = λ f no. ap (λ (o : Option (Offer M)). waits b f.depth o ++ waiting_from (suc b) t) no;
    }
    go (some o) is (suc k) lt below =
        let h = below k (omega arith) in
        let w : Waiting M = record { node = b; depth = e.depth; offer = o } in
        record {
          index = suc h.index;
          within = omega (arith, h.within);
          node = h.node ∙ omega arith;
          depth = h.depth;
          offer = h.offer;
          cut = λ f no.
              ap (λ (o : Option (Offer M)). waits b e.depth o ++ waiting_from (suc b) (set t h.index f)) is ∙ ap (λ (r : List (Waiting M)). w ∷ r) (h.cut f no);
        }

  -- the leaf that waits at place k of the queue of a tree
  pub record StandsIn (tree : List (Entry M)) (w : Waiting M) (k : ℕ) : Type 0 where
    pub within : w.node < length tree
    pub depth : w.depth ≡ (get_or tree w.node no_entry).depth
    pub offer : (get_or tree w.node no_entry).offer ≡ some w.offer
    pub cut : (e : Entry M) → e.offer ≡ none → queue_of (set tree w.node e) ≡ without k (queue_of tree)

  pub stands : (tree : List (Entry M)) (k : ℕ) → k < length (queue_of tree) → StandsIn tree (get_or (queue_of tree) k no_waiting) k
  stands tree k lt =
      let h = stands_from 0 tree k lt in
      let is : (get_or (queue_of tree) k no_waiting).node ≡ h.index = h.node ∙ zero-add h.index in
      record {
        within = rw is h.within;
        depth = rw is h.depth;
        offer = rw is h.offer;
        cut = λ e no. rw is (h.cut e no);
      }

  -- the queue after a split: the leaf is taken out, gt and then le are put behind the others
  pub queue-split : (tree : List (Entry M)) (k : ℕ) (e gt le : Entry M) → k < length (queue_of tree) → e.offer ≡ none
      → queue_of (set tree (get_or (queue_of tree) k no_waiting).node e ++ (gt ∷ le ∷ []))
      ≡ (without k (queue_of tree) ++ waits (length tree) gt.depth gt.offer) ++ waits (length tree + 1) le.depth le.offer
  unfolding waiting_from
  queue-split tree k e gt le lt gone =
      let i : ℕ = (get_or (queue_of tree) k no_waiting).node in
      let t : List (Entry M) = set tree i e in
      let long : length t ≡ length tree = length-set tree i e in
      let a : List (Waiting M) = waits (length tree) gt.depth gt.offer in
      let b : List (Waiting M) = waits (suc (length tree)) le.depth le.offer in
      waiting_append 0 t (gt ∷ le ∷ [])
      ∙ ap (λ (n : ℕ). queue_of t ++ waiting_from n (gt ∷ le ∷ [])) (zero-add (length t) ∙ long)
      ∙ ap (λ (q : List (Waiting M)). q ++ (a ++ (b ++ []))) ((stands tree k lt).cut e gone)
      ∙ rw (add-one, append-nil) (sym (append_assoc (without k (queue_of tree)) a b))

  -- ---- the queue's lists
  pub fewer-room : {m n : ℕ} {q : QueueListsOf M} → QueueRoom n q → m ≤ n → QueueRoom m q
  fewer-room {m} {n} h le = let w : m * words_per_leaf ≤ n * words_per_leaf = mul-le-mul_right words_per_leaf le in record {
    words = omega (arith, h.words);
    values = omega (arith, h.values);
    gains = omega (arith, h.gains);
  }

  pub same-room : {n : ℕ} {q p : QueueListsOf M} → SameQueue q p → QueueRoom n q → QueueRoom n p
  same-room s h = record { words = rw s.words h.words; values = rw s.values h.values; gains = rw s.gains h.gains }

  pub same-itself : (q : QueueListsOf M) → SameQueue q q
  same-itself q = record { words = refl; values = refl; gains = refl }

  pub same_queue : {q p r : QueueListsOf M} → SameQueue q p → SameQueue p r → SameQueue q r
  same_queue a b = record { words = b.words ∙ a.words; values = b.values ∙ a.values; gains = b.gains ∙ a.gains }

  module _ {waiting : ℕ} {q : QueueListsOf M} {leaves : List (Waiting M)} (h : Queued waiting q leaves) where
    -- the leaf that waits at place k
    module _ (k : ℕ) (lt : k < waiting) where
      inside : k < length leaves
      inside = omega (arith, h.many)

      queued-cell : (m : ℕ) → m < words_per_leaf → get_or q.words (k * words_per_leaf + m) 0 ≡ get_or (wait_words (get_or leaves k no_waiting)) m 0
      queued-cell m small =
          let far : suc k * words_per_leaf ≤ waiting * words_per_leaf = mul-le-mul_right words_per_leaf lt in
          sym (get_or-take (waiting * words_per_leaf) q.words (k * words_per_leaf + m) 0 (omega arith))
          ∙ ap (λ (l : List ℕ). get_or l (k * words_per_leaf + m) 0) h.words
          ∙ laid-read wait_words words_per_leaf (λ w. refl) leaves k m no_waiting 0 inside small

      pub queued-node : get_or q.words (k * words_per_leaf) 0 ≡ (get_or leaves k no_waiting).node
      queued-node = ap (λ (i : ℕ). get_or q.words i 0) (sym (add-zero (k * words_per_leaf))) ∙ queued-cell 0 (omega arith)

      pub queued-prop : get_or q.words (k * words_per_leaf + 1) 0 ≡ (get_or leaves k no_waiting).offer.prop
      queued-prop = queued-cell 1 (omega arith)

      pub queued-depth : get_or q.words (k * words_per_leaf + 2) 0 ≡ (get_or leaves k no_waiting).depth
      queued-depth = queued-cell 2 (omega arith)

      pub queued-below : get_or q.words (k * words_per_leaf + 3) 0 ≡ (get_or leaves k no_waiting).offer.below
      queued-below = queued-cell 3 (omega arith)

      pub queued-val : get_or q.values k (pos 0) ≡ (get_or leaves k no_waiting).offer.val
      queued-val =
          let at : k ≡ k * 1 + 0 = omega arith in
          sym (get_or-take waiting q.values k (pos 0) lt)
          ∙ ap (λ (l : List ℤ). get_or l k (pos 0)) h.values
          ∙ ap (λ (i : ℕ). get_or (laid wait_values leaves) i (pos 0)) at
          ∙ laid-read wait_values 1 (λ w. refl) leaves k 0 no_waiting (pos 0) inside (omega arith)

    queued-gain : (k : ℕ) → k < waiting → get_or q.gains k M.spare ≡ (get_or leaves k no_waiting).offer.gain
    queued-gain k lt =
        let at : k ≡ k * 1 + 0 = omega arith in
        sym (get_or-take waiting q.gains k M.spare lt)
        ∙ ap (λ (l : List M.Cost). get_or l k M.spare) h.gains
        ∙ ap (λ (i : ℕ). get_or (laid wait_gains leaves) i M.spare) at
        ∙ laid-read wait_gains 1 (λ w. refl) leaves k 0 no_waiting M.spare (inside k lt) (omega arith)

    -- the place that the code finds, where the spans are those of the tree's leaves
    pub best-queued : (j : Job M) → ((c d : Claim M) → j.ahead c d ≡ larger_first M c d) → (tree : List (Entry M)) (spans : List Span)
        → ((k : ℕ) → k < waiting → span_is (get_or spans (get_or leaves k no_waiting).node no_span_record) ≡ (get_or tree (get_or leaves k no_waiting).node no_entry).span)
        → foremost_in q spans waiting ≡ best_of j tree leaves
    best-queued j order tree spans held =
        first_same (goes_before q spans) (ahead_in j tree leaves) waiting
        (λ k best l m. (λ i. larger_first M (claims k l i) (claims best m i)) ∙ sym (order (claimed j tree (get_or leaves k no_waiting)) (claimed j tree (get_or leaves best no_waiting))))
        ∙ ap (first_place (ahead_in j tree leaves)) h.many
      where
        claims : (k : ℕ) → k < waiting → claim_at q spans k ≡ claimed j tree (get_or leaves k no_waiting)
        claims k l =
            let at = ap (λ (i : ℕ). span_size (span_is (get_or spans i no_span_record))) (queued-node k l) ∙ ap span_size (held k l) in
            λ i. record { gain = queued-gain k l i; rows = at i }
