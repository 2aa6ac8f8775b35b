-- Placing jobs in time slots, as combinatorics of functions. Each file's head says in a sentence what it shows. In
-- reading order: tests and sums; what a placing is; what a set of slots must and can take; closed sets and the
-- exchange; moves, layers and augmenting; the optimum; both bounds; the least set of greatest deficiency, and of
-- greatest excess.
pub mod Sums
pub mod SumsOver
pub mod Placing
pub mod Optimum
pub mod Bounds
pub mod Move
