-- The laws on which the proofs of this crate rest.
pub mod Allowed
pub mod Gap
pub mod Bytes
pub mod Steps
pub mod Doubling
