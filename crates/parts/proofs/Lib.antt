-- `Laning`: the lists of windows and the lanes say the same.
pub mod Laning
