-- The laws on which the proofs of this crate rest.
pub mod Wide
pub mod Zero
pub mod Listing
