-- The grid of feedings and the search on it. Definitions first: the grid, what the search requires and ensures. Then the laws,
-- a file for each step: moves, one move found, marks, the front of a search, how it spreads, how a ration is carried along the chain.
pub mod Theory
pub mod Grid
pub mod Search
pub mod MoveLaws
pub mod ShiftLaws
pub mod MarkLaws
pub mod FrontLaws
pub mod SpreadLaws
pub mod CarryLaws
pub mod StraightLaws
