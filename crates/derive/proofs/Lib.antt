-- The laws on which the proofs of this crate rest, and in `Demand` what a caller of `derive` may rely on.
pub mod Coded
pub mod Answered
pub mod Demand
