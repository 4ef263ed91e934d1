-- `Accepting`: what the checks ensure. `Flatly`: flat bits. `Numbers`: what the model's laws on steps ask of a job. `Read`: what is read in the lists after
-- acceptance.
pub mod Accepting
pub mod Flatly
pub mod Numbers
pub mod Read
