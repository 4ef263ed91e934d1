-- The way of a row, step by step. Assumes nothing.
use mathlib.Core.Path.{◌≡◌, sym, ap, ◌∙◌}
use Prim.Native.Nat.{ℕ, suc, ◌+◌, ◌-◌, ◌≤◌, ◌<◌}
use native.Mathlib.Omega.{arith}
use mathlib.Core.Bool.{true, false}
use mathlib.Core.List.{List}
use lib.ListN.{length, get_or}
use lib.IntN.{ℤ}
use lib.Dec.{eqb}
use Rattle.model.specs.Settings.{props_per_row}
use Rattle.model.specs.Tree.{Node, nodes_of, reach, leaf_reached, towards}
use Rattle.model.proofs.Paths.{towards_in}
use Rattle.layout.specs.Records.{no_record}
use Rattle.layout.specs.declared.MaNode.{MaNode}
use Rattle.tree.specs.Trees.{records_in, IsSound}
use Rattle.tree.proofs.Entries.{nodes-length, node_at_lem}
use Rattle.tree.proofs.Soundness.{some_nodes, node_fits}

module _ (t : List MaNode) (ps : List ℤ) where
  abbrev nodes_in : List Node
  nodes_in = nodes_of (records_in t)

  -- the child that the split leads to
  abbrev pub child_at : ℕ → ℕ
  child_at i = let m = get_or t i no_record in towards ps m.prop m.val m.gt m.le

  -- ---- one step: on from a split, and at an end
  reach-on : (fuel i : ℕ) → i < length t → eqb (get_or t i no_record).kind 1 ≡ true → reach (suc fuel) nodes_in ps i ≡ reach fuel nodes_in ps (child_at i)
  unfolding reach
  reach-on fuel i h k = rw (node_at_lem t i h, k)

  reach-end : (fuel i : ℕ) → i < length t → eqb (get_or t i no_record).kind 1 ≡ false → reach (suc fuel) nodes_in ps i ≡ i
  unfolding reach
  reach-end fuel i h k = rw (node_at_lem t i h, k)

  -- ---- the way as a loop follows it
  -- node i is met on the way: enough steps are left, and the leaf reached is the one reached from there
  pub record Followed (i : ℕ) : Type 0 where
    pub inside : i < length t
    pub fuel : ℕ
    pub enough : length t ≤ i + suc fuel
    pub same : leaf_reached nodes_in ps ≡ reach (suc fuel) nodes_in ps i

  pub followed_end : (i : ℕ) → Followed i → eqb (get_or t i no_record).kind 1 ≡ false → i ≡ leaf_reached nodes_in ps
  followed_end i m k = sym (m.same ∙ reach-end m.fuel i m.inside k)

  module _ (sound : IsSound t) where
    pub followed_first : Followed 0
    unfolding leaf_reached
    followed_first =
        let some = (some_nodes t sound).0 in
        let n : length t ≡ suc (length t - 1) = omega arith in
        record {
          inside = some;
          fuel = length t - 1;
          enough = omega arith;
          same = rw (nodes-length t) (ap (λ (f : ℕ). reach f nodes_in ps 0) n);
        }

    -- a split has one of the properties, and leads to a node behind it
    pub followed_on : (i : ℕ) → Followed i → eqb (get_or t i no_record).kind 1 ≡ true
        → ((get_or t i no_record).prop < props_per_row) × (i < child_at i) × Followed (child_at i)
    followed_on i m k =
        let fits = node_fits t sound i m.inside k in
        let e = get_or t i no_record in
        let d = towards_in ps (length t) i e.prop e.val e.gt e.le fits.1 in
        let behind : i < child_at i = d.0 in
        let enough = m.enough in
        let inside : child_at i < length t = d.1 in
        let n : m.fuel ≡ suc (m.fuel - 1) = omega arith in (
          fits.0,
          behind,
          record {
            inside = inside;
            fuel = m.fuel - 1;
            enough = omega arith;
            same = m.same ∙ reach-on m.fuel i m.inside k ∙ ap (λ (g : ℕ). reach g nodes_in ps (child_at i)) n;
          },
        )
