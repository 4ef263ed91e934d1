-- Demand 1 of runs: the operations' answers and lists, condition by condition. Assumes nothing.
use mathlib.Core.Path.{◌≡◌, refl, sym, ap, ◌∙◌}
use mathlib.Core.List.{List, [], ◌∷◌, map}
use mathlib.Core.Option.{Option, none, some}
use Prim.Native.Nat.{ℕ}
use Rattle.model.specs.Single.{singles}
use Rattle.model.specs.Profile.{single}
use Rattle.model.specs.Symbols.{tree_read}
use Rattle.model.specs.Refuse.{Refusal, learn_refusal, deepen_refusal, lookup_refusal, contexts_refusal, write_refusal, read_refusal, sample_refusal, token_refusal}
use Rattle.model.specs.Operations.{Outcome, refused, accepted, Tree, unless, outcome_of, learn, deepen, lookup, leaf_contexts, write_symbols, read_symbols, sample, token_answer}
use Rattle.refuse.specs.Given.{settings_of}
use Rattle.layout.specs.Records.{stored_of, record_of}
use Rattle.layout.specs.declared.MaNode.{MaNode}
use Rattle.answers.specs.Answers.{learned_in, found_in, count_in, value_in}
use Rattle.answers.specs.declared.Count.{Count}
use Rattle.answers.specs.declared.FoundLeaf.{FoundLeaf}
use Rattle.answers.specs.declared.LearnedTree.{LearnedTree}
use Rattle.answers.specs.declared.Read.{Read}
use Rattle.border.specs.Lists.{lent_in, learn_records, deepen_records}
use Rattle.promises.specs.Demand1.{Told, Answered, Demand1}
use Rattle.promises.proofs.Numbered.{Numbered, learn-numbered, deepen-numbered, lookup-numbered, contexts-numbered, write-numbered, read-numbered, sample-numbered, token-numbered}

-- a struct that holds an outcome: a refusal's number and place, else 0 and 0
module _ {A R : Type 0} (number place : R → ℕ) (told : Outcome A → R)
    (accepts : (a : A) → (number (told (accepted a)) ≡ 0) × (place (told (accepted a)) ≡ 0))
    (refuses : (f : Refusal) → (number (told (refused f)) ≡ f.number) × (place (told (refused f)) ≡ f.place)) where
  -- the answer alone
  answered : (o : Option Refusal) (a : A) {r : R} → Numbered o → r ≡ told (outcome_of o a) → Answered o (number r) (place r)
  answered none a n e = rw e (accepts a)
  answered (some f) a n e = rw (e, (refuses f).0, (refuses f).1) (refl, refl, n.above, n.below, refl)

  -- the answer and the lists, which may be read in two ways
  left : {K L : Type 0} (o : Option Refusal) (a : A) (k k' : K) (x x' : L) {r : R} {y : L} → Numbered o → r ≡ told (unless o k a k').outcome → y ≡ (unless o x a x').lent
      → Told o (number r) (place r) x y
  left none a k k' x x' n e l = rw e (accepts a)
  left (some f) a k k' x x' n e l = rw (e, (refuses f).0, (refuses f).1) (refl, refl, n.above, n.below, l)

module _ {K L : Type 0} where
  tree-left : (o : Option Refusal) (a : Tree singles) (k k' : K) (x x' : L) {r : LearnedTree} {y : L} → Numbered o → r ≡ learned_in (unless o k a k').outcome → y ≡ (unless o x a x').lent
      → Told o r.number r.place x y
  tree-left = left (λ (r : LearnedTree). r.number) (λ (r : LearnedTree). r.place) learned_in (λ a. (refl, refl)) (λ f. (refl, refl))

  count_left : (o : Option Refusal) (n : ℕ) (k k' : K) (x x' : L) {r : Count} {y : L} → Numbered o → r ≡ count_in (unless o k n k').outcome → y ≡ (unless o x n x').lent
      → Told o r.number r.place x y
  count_left = left (λ (r : Count). r.number) (λ (r : Count). r.place) count_in (λ n. (refl, refl)) (λ f. (refl, refl))

-- ---- a list of records by what the model reads in it
records-back : (x : List MaNode) → map record_of (map stored_of x) ≡ x
records-back [] = refl
records-back (m ∷ ms) = ap (λ (l : List MaNode). m ∷ l) (records-back ms)

told_whole : (o : Option Refusal) (x y : List MaNode) (number place : ℕ) → Told o number place (map stored_of x) (map stored_of y) → Told o number place x y
told_whole none x y number place t = t
told_whole (some f) x y number place (n, p, low, high, same) = (n, p, low, high, sym (records-back y) ∙ ap (map record_of) same ∙ records-back x)

pub demand1 : Demand1
unfolding learn learn_records deepen deepen_records lookup leaf_contexts write_symbols read_symbols sample token_answer
demand1 = record {
  learns = λ s logs x y r run.
      tree-left (learn_refusal single (settings_of s) logs (lent_in x)) _ (lent_in x) _ x _ (learn-numbered (settings_of s) logs (lent_in x)) run.answers run.leaves_whole;
  deepens = λ s logs count x y r run.
      tree-left (deepen_refusal single (settings_of s) logs count (lent_in x)) _ (lent_in x) _ x _ (deepen-numbered (settings_of s) logs count (lent_in x)) run.answers run.leaves_whole;
  looks_up = λ nodes count ps r run.
      answered (λ (r : FoundLeaf). r.number) (λ (r : FoundLeaf). r.place) found_in (λ a. (refl, refl)) (λ f. (refl, refl)) (lookup_refusal (map stored_of nodes) count ps) _
      (lookup-numbered (map stored_of nodes) count ps) run;
  numbers = λ nodes count x y r run.
      count_left (contexts_refusal (map stored_of nodes) count x.contexts x.queue) _ x _ x _ (contexts-numbered (map stored_of nodes) count x.contexts x.queue) run.answers run.leaves;
  writes_symbols = λ nodes count x y r run.
      count_left (write_refusal (map stored_of nodes) count x.symbols x.queue) _ x _ x _ (write-numbered (map stored_of nodes) count x.symbols x.queue) run.answers run.leaves;
  reads_symbols = λ symbols x y r run.
      let o = read_refusal (tree_read symbols) (map stored_of x) in
      told_whole o x y r.number r.place (count_left o _ (map stored_of x) _ (map stored_of x) _ (read-numbered (tree_read symbols) (map stored_of x)) run.answers run.leaves);
  samples = λ rows target x y r run. count_left (sample_refusal rows target x) _ x _ x _ (sample-numbered rows target x) run.answers run.leaves;
  reads = λ token extra r run.
      answered (λ (r : Read). r.number) (λ (r : Read). r.place) value_in (λ a. (refl, refl)) (λ f. (refl, refl)) (token_refusal token extra) _ (token-numbered token extra) run;
}
