-- The operations, record by record, are the model's: what it reads in the lists at exit is what it says of them. Assumes nothing.
use mathlib.Core.Path.{◌≡◌, refl, sym, ap, ◌∙◌}
use mathlib.Core.Bool.{Bool, true, false, cond}
use mathlib.Core.List.{List, [], ◌∷◌, ◌++◌, map, map-map}
use mathlib.Core.Option.{Option, none, some}
use Prim.Native.Nat.{ℕ, zero, suc}
use lib.ListN.{length, drop, length-map}
use lib.Ieee.{Float}
use Rattle.model.specs.Lists.{written_over}
use Rattle.model.specs.Settings.{Settings}
use Rattle.model.specs.Single.{singles}
use Rattle.model.specs.Rows.{Span as RowSpan}
use Rattle.model.specs.Tree.{Record}
use Rattle.model.specs.Learn.{Result}
use Rattle.model.specs.Profile.{single}
use Rattle.model.specs.Lent.{Lent, stored, lent_after}
use Rattle.model.specs.Refuse.{Refusal, learn_refusal, deepen_refusal}
use Rattle.model.specs.Operations.{Outcome, refused, accepted, After, Tree, tree_of, unless, learn, deepen}
use Rattle.model.proofs.Accepted.{learned_from, deepened_from}
use Rattle.lent.proofs.Read.{queue-read}
use Rattle.layout.specs.Records.{stored_of, span_is, span_record}
use Rattle.answers.specs.declared.LearnedTree.{LearnedTree}
use Rattle.answers.specs.Answers.{learned_in}
use Rattle.border.specs.Lists.{Records, lent_in, node_record, records_after, read_after, learn_records, deepen_records, work_of, work_records, Worked}

-- ---- lists written over
module _ {A B : Type 0} (f : A → B) where
  map_append : (a b : List A) → map f (a ++ b) ≡ map f a ++ map f b
  map_append [] b = refl
  map_append (x ∷ a) b = ap (λ (r : List B). f x ∷ r) (map_append a b)

  map-drop : (n : ℕ) (l : List A) → map f (drop n l) ≡ drop n (map f l)
  map-drop zero l = refl
  map-drop (suc n) [] = refl
  map-drop (suc n) (x ∷ l) = map-drop n l

  map-written : (new l : List A) → map f (written_over new l) ≡ written_over (map f new) (map f l)
  map-written new l = map_append new (drop (length new) l) ∙ rw (map-drop (length new) l, length-map new f)

-- ---- the lists after acceptance
nodes_agree : (rs : List (Record singles)) (x : Records) → map stored_of (written_over (map node_record rs) x.nodes) ≡ written_over (map stored rs) (map stored_of x.nodes)
nodes_agree rs x = map-written stored_of (map node_record rs) x.nodes ∙ rw (map-map stored_of node_record rs)

-- spans made records and read again
spans-again : (l : List RowSpan) → map span_is (map span_record l) ≡ l
spans-again [] = refl
spans-again (s ∷ l) = ap (λ (r : List RowSpan). s ∷ r) (spans-again l)

spans_agree : (l : List RowSpan) (x : Records) → map span_is (written_over (map span_record l) x.spans) ≡ written_over l (map span_is x.spans)
spans_agree l x = map-written span_is (map span_record l) x.spans ∙ ap (λ (r : List RowSpan). written_over r (map span_is x.spans)) (spans-again l)

lists_agree : (r : Result singles) (x : Records) → lent_in (records_after r x) ≡ lent_after r (lent_in x)
unfolding records_after lent_after
lists_agree r x = rw (nodes_agree r.records x, spans_agree r.spans x, queue-read x.queue)

-- ---- the operations
module _ (t : Settings singles) (logs : List Float) (x : Records) where
  -- refused, or with this result
  abbrev pub refusal : Bool → ℕ → Option Refusal
  refusal seeded count = cond seeded (deepen_refusal single t logs count (lent_in x)) (learn_refusal single t logs (lent_in x))

  abbrev pub result : Bool → ℕ → Result singles
  result seeded count = cond seeded (deepened_from single t logs count (lent_in x)) (learned_from single t logs (lent_in x))

  -- record by record, and in the model's words
  by-records : (seeded : Bool) (count : ℕ)
      → work_records t logs seeded count x ≡ unless (refusal seeded count) x (tree_of (result seeded count)) (records_after (result seeded count) x)
  unfolding learn_records deepen_records
  by-records true count = refl
  by-records false count = refl

  by-model : (seeded : Bool) (count : ℕ)
      → work_of t logs seeded count (lent_in x) ≡ unless (refusal seeded count) (lent_in x) (tree_of (result seeded count)) (lent_after (result seeded count) (lent_in x))
  unfolding learn deepen
  by-model true count = refl
  by-model false count = refl

  -- the model reads the one as the other
  read-unless : (o : Option Refusal) (r : Result singles) → read_after (unless o x (tree_of r) (records_after r x)) ≡ unless o (lent_in x) (tree_of r) (lent_after r (lent_in x))
  read-unless (some f) r = refl
  read-unless none r = ap (λ (y : Lent singles). record { outcome = accepted (tree_of r); lent = y }) (lists_agree r x)

  work_agrees : (seeded : Bool) (count : ℕ) → read_after (work_records t logs seeded count x) ≡ work_of t logs seeded count (lent_in x)
  work_agrees seeded count = ap read_after (by-records seeded count) ∙ read-unless (refusal seeded count) (result seeded count) ∙ sym (by-model seeded count)

  -- one equation of the answer and the lists at exit says all
  module _ (seeded : Bool) (count : ℕ) {r : LearnedTree} {exit : Records} where
    worked : (o : Outcome (Tree singles)) → r ≡ learned_in o → ◌≡◌ {A = After (Tree singles) Records} (record { outcome = o; lent = exit }) (work_records t logs seeded count x)
        → Worked t logs seeded count x exit r
    worked o is e =
        let agrees = work_agrees seeded count in
        let answer : r ≡ learned_in (work_records t logs seeded count x).outcome = is ∙ ap (λ (z : After (Tree singles) Records). learned_in z.outcome) e in
        let left : exit ≡ (work_records t logs seeded count x).lent = ap (λ (z : After (Tree singles) Records). z.lent) e in
        record {
          answer = answer;
          lent = left;
          answer_read = answer ∙ ap (λ (z : After (Tree singles) (Lent singles)). learned_in z.outcome) agrees;
          lent_read = ap lent_in left ∙ ap (λ (z : After (Tree singles) (Lent singles)). z.lent) agrees;
        }

    pub refused-worked : (f : Refusal) → refusal seeded count ≡ some f → r ≡ learned_in (refused f) → exit ≡ x → Worked t logs seeded count x exit r
    refused-worked f told is same =
        worked (refused f) is
        (ap (λ (y : Records). record { outcome = refused f; lent = y }) same
        ∙ sym (by-records seeded count ∙ ap (λ (o : Option Refusal). unless o x (tree_of (result seeded count)) (records_after (result seeded count) x)) told))

    pub accepted-worked : refusal seeded count ≡ none → r ≡ learned_in (accepted (tree_of (result seeded count))) → exit ≡ records_after (result seeded count) x
        → Worked t logs seeded count x exit r
    accepted-worked told is same =
        worked (accepted (tree_of (result seeded count))) is
        (ap (λ (y : Records). record { outcome = accepted (tree_of (result seeded count)); lent = y }) same
        ∙ sym (by-records seeded count ∙ ap (λ (o : Option Refusal). unless o x (tree_of (result seeded count)) (records_after (result seeded count) x)) told))
