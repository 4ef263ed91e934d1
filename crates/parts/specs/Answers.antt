-- What the parts' answers stand for. Assumes nothing.
use Rattle.std.specs.Prelude.{cond, eqb}
use Rattle.model.specs.Single.{singles}
use Rattle.model.specs.Score.{Score, nothing, threshold}
use Rattle.parts.specs.declared.answers.Scored.{Scored}

-- the score that an answer stands for
abbrev pub score_out : Scored → Score singles
score_out a = cond (eqb a.found 1) (threshold a.threshold a.cost a.below) nothing
