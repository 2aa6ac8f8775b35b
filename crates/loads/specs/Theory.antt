-- What this crate takes of the theory of placings, in one place. Assumes nothing.
unfoldable pub use Rattle.theory.specs.Sums.{sum}
pub use Rattle.theory.specs.Sums.{sum_cong, sum_add, sum_split, sum_head, sum_zero}
pub use Rattle.theory.specs.SumsOver.{one}
unfoldable pub use Rattle.theory.specs.Placing.{size, count}
pub use Rattle.theory.specs.Placing.{Placing, Closed, opposite, rest}
pub use Rattle.theory.proofs.Volumes.{no_placing_lem, low_le_possible}
pub use Rattle.theory.proofs.Closed.{certificate}
pub use Rattle.theory.proofs.Complement.{placing_rest, count_rest}
pub use Rattle.theory.proofs.Edges.{Edge, Reach, from, step, NoEdgeLeaves, no_edge_closed, reach_closed}
pub use Rattle.theory.proofs.Critical.{Critical, closed_critical, critical_highs}
pub use Rattle.theory.proofs.Excess.{CriticalExcess, exchange_excess, excess_cong, excess_higher, excess_alone}
