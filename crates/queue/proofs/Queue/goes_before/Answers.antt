-- `queue::Queue::goes_before` meets its contract: a leaf that offers less goes before none. Assumes nothing.
use Rattle.std.proofs.Common.{◌≡◌, refl, get_or, Bool, true, false, not, ◌||◌, ◌&&◌, Float}
use Rattle.std.specs.Float.{nan}
use Rattle.std.specs.Float.Ieee.{lt}
use Rattle.std.proofs.lemmas.Float.{lt_irrefl, lt_trans}
use Rattle.queue.proofs.Queue.goes_before.Goals as goal

-- of two numbers at most one is less than the other
not_back : (x y : Float) → lt x y ≡ true → lt y x ≡ false
not_back x y e = go (lt y x) refl
  where
    go : (b : Bool) → lt y x ≡ b → b ≡ false
    go false f = refl
    go true f = absurd (lt_irrefl x (lt_trans x y x (rw e tt) (rw f tt)))

-- what is less goes first by nothing
behind : (x y : Float) (more : Bool) → lt x y ≡ true → not (lt x y) ≡ (lt y x || (not (lt x y) && more))
behind x y more e = rw (e, not_back x y e) refl

pub returns-else-not-gain-top : goal.returns-else-not-gain-top
returns-else-not-gain-top c =
    let gains = c.args.self.now.gains.now in
    rw c.requires.top (behind (get_or gains c.args.k nan) (get_or gains c.args.best nan) _ (rw c.requires.top at c.if-not-gain-top.false))
