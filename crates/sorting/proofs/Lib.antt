-- Laws that the proofs of this crate cite.
pub mod Sums
pub mod NextStep
pub mod EarlyLeft
