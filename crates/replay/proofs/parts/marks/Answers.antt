-- `replay::parts::marks`: there is a place for every mark of the words.
use Rattle.std.proofs.Common.{arith}
use Rattle.distinct.proofs.WalkLaws.{all_walkable}
use Rattle.replay.proofs.parts.marks.Goals as goal

pub walk_words-found-requires : goal.walk_words-found-requires
walk_words-found-requires c =
    let long = c.in_ok-words.ensures.len in
    all_walkable c.deref.result.now _
    (omega (arith, c.deref.ensures.len, long, c.if-count-gt-MOST_WORDS.false))
    (omega (arith, c.deref.ensures.len, long, c.deref_mut-2.ensures.len, c.in_ok-places.ensures.len))
