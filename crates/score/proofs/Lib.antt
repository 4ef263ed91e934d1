-- `Counting`: counts of the two sides. `Packing`: the windows of a node that counts the span's rows. `Scores`: from the counts of windows to the model's scores.
-- `Property`: from the span's rows to the model's score.
pub mod Counting
pub mod Packing
pub mod Scores
pub mod Property
