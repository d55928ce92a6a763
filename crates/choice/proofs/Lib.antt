-- The laws on which the proofs of this crate rest.
pub mod FirstLeast
pub mod Path
pub mod Table
pub mod Chosen
