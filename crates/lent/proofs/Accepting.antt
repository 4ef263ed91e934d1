-- What the checks ensure once the count space is cleared: lists that fit, with room for a tree of so many leaves. Assumes nothing.
use mathlib.Core.Path.{◌≡◌, sym, ap, subst}
use mathlib.Core.Logic.{inl, inr}
use mathlib.Core.Bool.{false}
use mathlib.Core.List.{List}
use Prim.Native.Nat.{ℕ, ◌*◌, ◌-◌}
use native.Mathlib.Omega.{arith}
use lib.Dec.{T}
use lib.IntN.{pos}
use lib.ListN.{length, replicate, length-replicate}
use lib.Ieee.{Float, fin, nan}
use Rattle.model.specs.Single.{singles}
use Rattle.model.specs.Profile.{is_between}
use Rattle.model.specs.Cost.{log_of}
use Rattle.model.specs.Lent.{Lent}
use Rattle.model.proofs.SingleLawful.{single-lawful}
use Rattle.model.proofs.Places.{get_d_any, length-each}
use Rattle.model.proofs.Tests.{true-T}
use Rattle.refuse.specs.Given.{settings_of}
use Rattle.refuse.specs.declared.Job.{Job}
use Rattle.refuse.specs.Accepted.{Accepted}
use Rattle.layout.specs.Tree.{NodeLists, HasRoom}
use Rattle.layout.specs.Waiting.{QueueLists}
use Rattle.rows.specs.Flat.{Flat, flat, row_count}
use Rattle.queue.specs.Room.{leaves_lent}
use Rattle.lent.specs.Lists.{stored_queue, waiting_at, lists}
use Rattle.lent.specs.Fitting.{uses_of, Fitting}
use Rattle.lent.specs.Starts.{Plantable}

-- the rows, and the count space once it is cleared
abbrev pub given : Lent singles → Flat
given x = flat x.props x.toks x.res

abbrev pub zeros : Lent singles → List ℕ
zeros x = replicate (length x.counts) 0

module _ {job : Job} (x : Lent singles) {rows : ℕ} (a : Accepted job.settings job.logs.now x rows) where
  pub accepted-fitting : Fitting job (zeros x) (given x)
  unfolding log_of
  accepted-fitting =
      let p = a.model in
      let count = a.row_count in
      let long = length-replicate {A = ℕ} (length x.counts) 0 in
      record {
        settings = p.settings;
        some = p.predictor;
        shaped = record {
          props = omega (arith, p.lists.props);
          toks = omega (arith, p.lists.toks);
          res = λ h. elim p.lists.res [ inl z ↦ absurd (omega arith) | inr z ↦ z ];
        };
        few = p.lists.rows;
        below = a.tokens;
        modal = λ e. p.modal (true-T _ e);
        logs_reach = record {
          long = p.logs_enough;
          fit = λ c some h. subst (λ (v : Float). T (is_between (fin false 0 (pos 0)) (fin false 1 (pos 5)) v)) (get_d_any job.logs.now c nan singles.nought (omega (arith, p.logs_enough))) (a.log_fits_lem c some (omega arith));
        };
        room = omega (arith, p.rooms.counts, long);
        zeros = ap (λ (n : ℕ). replicate n 0) (sym long);
      }

  -- the queue that the model reads stands in these lists
  module _ (n : NodeLists) (q : QueueLists) (stands : x.queue ≡ stored_queue q) (room : HasRoom (2 * job.settings.max_leaves - 1) n) where
    pub accepted-plantable : Plantable job (lists (given x) n q (zeros x))
    unfolding stored_queue
    accepted-plantable =
        let p = a.model in
        let many = length-each (waiting_at q) 0 (leaves_lent q) in
        let same = ap length stands in
        let enough = p.rooms.queue in
        record {
          fitting = accepted-fitting;
          lawful = single-lawful.fits (settings_of job.settings) job.logs.now (uses_of job.settings (given x)) (row_count (given x)) p.settings.price p.settings.alphabet.1 p.lists.rows p.logs_enough p.logs_fit_lem;
          logs_small = λ c some h. a.logs_small c some (omega (arith, a.row_count));
          room = room;
          queue_room = record { words = omega arith; values = omega arith; gains = omega arith };
        }
