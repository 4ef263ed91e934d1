-- Rows ordered by leaf in the count space: what the numbers are, what the ordering leaves, and that the space is clear again. Assumes nothing.
use mathlib.Core.Path.{◌≡◌, refl, sym, ap, ◌∙◌, subst}
use mathlib.Core.List.{List, [], ◌∷◌, ◌++◌, map}
use Prim.Native.Nat.{ℕ, zero, suc, ◌+◌, ◌-◌, ◌≤◌, ◌<◌}
use native.Mathlib.Omega.{arith}
use lib.ListN.{length, get_or, take, drop, replicate, length-append, length-map, length-take, length-drop, length-replicate, replicate-append-replicate, get_or-append}
use lib.Seq.{length-take-le, take-append-add, take_at, drop_at, drop-append-add, drop-drop, get_or-take, get_or-drop, take-append-le}
use Rattle.model.specs.Single.{singles}
use Rattle.model.specs.Rows.{Row}
use Rattle.model.specs.Tree.{Record, leaf_reached}
use Rattle.model.specs.Lent.{Stored, record_in}
use Rattle.model.proofs.Paths.{reached-leaf}
use Rattle.model.proofs.Sound as model
use Rattle.layout.specs.Records.{stored_of, span_is}
use Rattle.layout.specs.declared.Span.{Span}
use Rattle.layout.specs.Tree.{NodeLists, node_lists}
use Rattle.order.specs.Order.{Ordering, ordering, ordered, ordered_by, first_of, spans_of}
use Rattle.order.specs.Leaves.{leaf_numbers}
use Rattle.order.specs.Space.{numbers_for, Holds, blank}
use Rattle.order.proofs.Placing.{span-first, span-end}
use Rattle.rows.specs.Cells.{span}
use Rattle.rows.specs.Flat.{Flat, held_in, row_count}
use Rattle.rows.proofs.Cells.{length-held}
use Rattle.seed_rows.proofs.Seeds.{few}
use Rattle.seed_rows.specs.Ordered.{seed_in, nodes_in, numbers_in, Orderable, Pairs, SpansOf}

-- ---- zeros
take-zeros : (n m : ℕ) → n ≤ m → take n (replicate {A = ℕ} m 0) ≡ replicate n 0
take-zeros zero m h = refl
take-zeros (suc n) zero h = absurd (omega arith)
take-zeros (suc n) (suc m) h = ap (λ (l : List ℕ). 0 ∷ l) (take-zeros n m (omega arith))

drop-zeros : (n m : ℕ) → drop n (replicate {A = ℕ} m 0) ≡ replicate (m - n) 0
drop-zeros zero m = let e : m - 0 ≡ m = omega arith in rw e
drop-zeros (suc n) zero = let e : 0 - suc n ≡ 0 = omega arith in rw e
drop-zeros (suc n) (suc m) = let e : suc m - suc n ≡ m - n = omega arith in drop-zeros n m ∙ ap (λ (k : ℕ). replicate k 0) (sym e)

below_all : (f : Row → ℕ) (count : ℕ) → ((r : Row) → f r < count) → (l : List Row) (i : ℕ) → i < length l → get_or (map f l) i 0 < count
below_all f count low [] i h = absurd (omega arith)
below_all f count low (r ∷ l) zero h = low r
below_all f count low (r ∷ l) (suc i) h = below_all f count low l i (omega arith)

module _ {x : Flat} {n : NodeLists} {counts : List ℕ} {rows count : ℕ} (o : Orderable x n counts count) (counted : rows ≡ row_count x) where
  abbrev ends : ℕ
  ends = rows + count

  abbrev space : ℕ
  space = ends + count

  abbrev ks : List ℕ
  ks = numbers_in count n (held_in x)

  some : (0 < count) × (count ≤ 8191)
  some = few n.nodes count o.room.nodes o.sound

  rows_long : length (held_in x) ≡ rows
  rows_long = length-held x.props x.toks x.res ∙ sym counted

  -- ---- the numbers
  module _ (nums : List ℕ) (is : nums ≡ ks) where
    abbrev counts1 : List ℕ
    counts1 = nums ++ drop rows counts

    abbrev space1 : List ℕ
    space1 = take space counts1

    numbers-read : nums ≡ map (λ (r : Row). leaf_reached (nodes_in count n) r.props) (held_in x)
    unfolding leaf_numbers
    numbers-read = is

    long : length nums ≡ rows
    long = ap length numbers-read ∙ length-map (held_in x) (λ (r : Row). leaf_reached (nodes_in count n) r.props) ∙ rows_long

    low : (r : Row) → leaf_reached (nodes_in count n) r.props < count
    low r =
        let stored : List (Stored singles) = take count (map stored_of n.nodes) in
        let all : length (nodes_in count n) ≡ count = length-map (seed_in count n) (λ (r : Record singles). r.node)
        ∙ length-map stored record_in ∙ length-take-le count (map stored_of n.nodes) (omega (arith, length-map n.nodes stored_of, o.room.nodes)) in
        let root : 0 < length (nodes_in count n) = omega (arith, some.0) in
        rw all at (reached-leaf (nodes_in count n) (model.sound (seed_in count n) o.sound).rooted.family.forward root r.props).1

    rest-zeros : drop rows counts ≡ replicate (length counts - rows) 0
    rest-zeros = ap (drop rows) o.zeros ∙ drop-zeros rows (length counts)

    space-is : space1 ≡ nums ++ (replicate count 0 ++ replicate count 0)
    space-is =
        let at : space ≡ length nums + (count + count) = omega (arith, long) in
        let fits : count + count ≤ length counts - rows = omega (arith, counted, o.space) in
        ap (λ (k : ℕ). take k counts1) at ∙ take-append-add nums (drop rows counts) (count + count)
        ∙ ap (λ (l : List ℕ). nums ++ l) (ap (take (count + count)) rest-zeros ∙ take-zeros (count + count) (length counts - rows) fits
        ∙ sym (replicate-append-replicate count count 0))

    pub space-long : length space1 ≡ space
    space-long = length-take-le space counts1 (omega (arith, length-append nums (drop rows counts), length-drop rows counts, long, o.space))

    front-is : take rows space1 ≡ nums
    front-is = ap (take rows) space-is ∙ take_at nums (replicate count 0 ++ replicate count 0) rows long

    -- the space is for as many numbers as the seed has nodes
    numbers-are : numbers_for (row_count x) space1 ≡ count
    numbers-are = rw (← counted, space-long) (omega arith)

    pub hold-space : Holds blank (row_count x) (numbers_for (row_count x) space1) space1
    unfolding blank
    hold-space = rw numbers-are (subst (λ (k : ℕ). Holds blank k count space1) counted (record {
      numbered = record {
        long = omega (arith, space-long);
        few = omega (arith, o.few, counted);
        below = λ i h. rw (space-is, get_or-append nums (replicate count 0 ++ replicate count 0) 0 i (omega (arith, long)), numbers-read)
            (below_all (λ (r : Row). leaf_reached (nodes_in count n) r.props) count low (held_in x) i (omega (arith, rows_long)));
      };
      is = space-is ∙ ap (λ (l : List ℕ). l ++ (replicate count 0 ++ replicate count 0)) (sym front-is);
    }))

    -- ---- what the ordering leaves
    module _ (rows' : List Row) (space2 : List ℕ) (size2 : length space2 ≡ length space1)
        (ran : ordering rows' space2 ≡ ordered (numbers_for (row_count x) space1) (ordering (held_in x) space1)) where
      done : ordering rows' space2 ≡ ordered count (ordering (held_in x) space1)
      done = ran ∙ ap (λ (k : ℕ). ordered k (ordering (held_in x) space1)) numbers-are

      abbrev counts2 : List ℕ
      counts2 = space2 ++ drop space counts1

      abbrev mid : List ℕ
      mid = take (space - rows) (drop rows counts2)

      keys : take (length (held_in x)) space1 ≡ ks
      keys = ap (λ (k : ℕ). take k space1) rows_long ∙ front-is ∙ is

      pub rows-ordered : rows' ≡ ordered_by ks count (held_in x)
      unfolding ordered
      rows-ordered = ap (λ (w : Ordering). w.rows) done ∙ ap (λ (l : List ℕ). ordered_by l count (held_in x)) keys

      space2_is : space2 ≡ (ordered count (ordering (held_in x) space1)).space
      space2_is = ap (λ (w : Ordering). w.space) done

      space2_zeros : take rows space2 ≡ replicate rows 0
      unfolding ordered
      space2_zeros =
          ap (take rows) space2_is ∙ take_at (replicate (length (held_in x)) 0) (spans_of (take (length (held_in x)) space1) count) rows
          (length-replicate {A = ℕ} (length (held_in x)) 0 ∙ rows_long)
          ∙ ap (λ (k : ℕ). replicate k 0) rows_long

      pub mid-long : length mid ≡ count + count
      mid-long =
          simp (length-take, length-drop, length-append) (omega (arith, size2, space-long, length-drop space counts1))

      abbrev firsts : List ℕ
      firsts = take (ends - rows) (drop rows counts2)

      abbrev lasts : List ℕ
      lasts = take (space - ends) (drop ends counts2)

      firsts-long : length firsts ≡ count
      firsts-long =
          simp (length-take, length-drop, length-append) (omega (arith, size2, space-long, length-drop space counts1))

      part-at : (m a k : ℕ) → k < m → a + k < space → get_or (take m (drop a counts2)) k 0 ≡ get_or space2 (a + k) 0
      part-at m a k inside h =
          get_or-take m (drop a counts2) k 0 inside ∙ get_or-drop a counts2 k 0
          ∙ get_or-append space2 (drop space counts1) 0 (a + k) (omega (arith, size2, space-long))

      first-at : (i : ℕ) → i < count → get_or firsts i 0 ≡ first_of ks i
      first-at i h =
          part-at (ends - rows) rows i (omega arith) (omega arith) ∙ ap (λ (l : List ℕ). get_or l (rows + i) 0) space2_is
          ∙ ap (λ (k : ℕ). get_or (ordered count (ordering (held_in x) space1)).space (k + i) 0) (sym rows_long)
          ∙ span-first count (ordering (held_in x) space1) i h ∙ ap (λ (l : List ℕ). first_of l i) keys

      end-at : (i : ℕ) → i < count → get_or lasts i 0 ≡ first_of ks (suc i)
      end-at i h =
          part-at (space - ends) ends i (omega arith) (omega arith) ∙ ap (λ (l : List ℕ). get_or l (ends + i) 0) space2_is
          ∙ ap (λ (k : ℕ). get_or (ordered count (ordering (held_in x) space1)).space (k + count + i) 0) (sym rows_long)
          ∙ span-end count (ordering (held_in x) space1) i h ∙ ap (λ (l : List ℕ). first_of l (suc i)) keys

      pub spans-of : {spans : List Span} → Pairs firsts lasts n.spans spans → SpansOf ks count n (node_lists n.nodes spans)
      spans-of {spans} p = record {
        nodes = refl;
        long = p.long;
        there = λ i h. ap span_is (p.pair i (omega (arith, firsts-long))) ∙ (λ t. span (first-at i h t) (end-at i h t));
        rest = subst (λ (k : ℕ). drop k spans ≡ drop k n.spans) firsts-long p.rest;
      }

      -- ---- the count space is clear again
      pub space-clear : (cleared : List ℕ) → cleared ≡ replicate (length mid) 0 → take rows counts2 ++ (cleared ++ drop (space - rows) (drop rows counts2))
          ≡ counts
      space-clear cleared e =
          let zeros : take rows counts2 ≡ replicate rows 0 =
          take-append-le rows space2 (drop space counts1) (omega (arith, size2, space-long)) ∙ space2_zeros in
          let same : rows + (space - rows) ≡ space = omega arith in
          let past : drop (space - rows) (drop rows counts2) ≡ replicate (length counts - space) 0 =
          drop-drop (space - rows) rows counts2 ∙ ap (λ (k : ℕ). drop k counts2) same ∙ drop_at space2 (drop space counts1) space (size2 ∙ space-long)
          ∙ rest-past in
          let sum : rows + (length mid + (length counts - space)) ≡ length counts = omega (arith, mid-long, o.space) in
          rw (zeros, e, past)
          (ap (λ (l : List ℕ). replicate rows 0 ++ l) (replicate-append-replicate (length mid) (length counts - space) 0)
          ∙ replicate-append-replicate rows (length mid + (length counts - space)) 0 ∙ ap (λ (k : ℕ). replicate k 0) sum ∙ sym o.zeros)
        where
          rest-past : drop space counts1 ≡ replicate (length counts - space) 0
          rest-past =
              let at : space ≡ length nums + (count + count) = omega (arith, long) in
              let less : length counts - rows - (count + count) ≡ length counts - space = omega arith in
              ap (λ (k : ℕ). drop k counts1) at ∙ drop-append-add nums (drop rows counts) (count + count) ∙ ap (drop (count + count)) rest-zeros
              ∙ drop-zeros (count + count) (length counts - rows) ∙ ap (λ (k : ℕ). replicate k 0) less
