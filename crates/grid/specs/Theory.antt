-- What this crate takes of the theory of placings, in one place. Assumes nothing.
unfoldable pub use Rattle.theory.specs.Sums.{sum}
pub use Rattle.theory.specs.Sums.{sum_change}
