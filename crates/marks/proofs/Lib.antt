-- The laws on which the proofs of this crate rest.
pub mod Word
pub mod Marks
