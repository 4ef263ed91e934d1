-- The model answers small jobs as the Rust does, in every part of the answer and every entry of every lent list: by computation. Assumes nothing.
mod Jobs
mod Cases
use mathlib.Core.Path.{◌≡◌, refl}
use mathlib.Core.List.{map}
use Rattle.model.proofs.Computing.{everything}
use Jobs.{answer_to}
use Cases.{part_jobs, part_answers, grown_jobs, grown_answers, refused_jobs, refused_answers}

-- the small operations, and single parts of the learner
pub parts_agree : map answer_to part_jobs ≡ part_answers
unfolding everything
parts_agree = refl

-- learnings and deepenings that are accepted
pub trees_agree : map answer_to grown_jobs ≡ grown_answers
unfolding everything
trees_agree = refl

-- and those that are refused
pub refusals_agree : map answer_to refused_jobs ≡ refused_answers
unfolding everything
refusals_agree = refl
