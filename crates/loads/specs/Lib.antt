-- Placings in words, with loads within bounds. Definitions first: what the first placing and the relief of slots
-- require and ensure, and what a grid means. `Theorems` names the main laws. Then the laws, a file for each step.
pub mod Theory
pub mod First
pub mod Relief
pub mod Meaning
pub mod Theorems
pub mod FirstLaws
pub mod UnloadLaws
pub mod RelieveLaws
pub mod ExchangeLaws
pub mod MeaningLaws
pub mod HeldLaws
pub mod StateLaws
pub mod RaiseLaws
pub mod StartLaws
pub mod MarkLaws
