-- What is demanded of all calls. "Document 01" in these files is what docs/specification.md says; docs/demands.md leads
-- from each part of a demand to its statement here. The three demands, each a record over all calls that a theorem of
-- proofs/ has
pub mod DemandOne
pub mod DemandTwo
pub mod DemandThree
-- The days of document 01, as one table
pub mod Meanings
pub mod Days
-- What the demands ask of one call: definitions
pub mod Answers
pub mod Outcome
pub mod ByMethod
pub mod Comparison
pub mod Causes
pub mod Halls
pub mod Shares
