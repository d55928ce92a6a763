-- The laws on which the proofs of this crate rest.
pub mod Counted
pub mod Keys
pub mod Dealing
pub mod Rounds
