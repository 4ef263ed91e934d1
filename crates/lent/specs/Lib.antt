-- `Lists`: the lists of learning and deepening as one value, those that a tree grows in, and what they hold after acceptance. `Lent`: that they stay the same ones. `Fitting`: what the checks
-- ensure of the rows' lists, and every part of the learner keeps. `Grows`: lists that hold a growing tree. `Starts`: what the first parts ask for. `Answer`: the
-- answer in the numbers and values of document 01.
pub mod Lists
pub mod Lent
pub mod Fitting
pub mod Grows
pub mod Starts
pub mod Answer
