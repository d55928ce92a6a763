-- Laws that the proofs of this crate and its callers cite.
pub mod Adding
pub mod Numerals
pub mod Listing
pub mod Lengths
