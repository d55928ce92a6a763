-- Laws that the proofs of this crate cite, and what a caller has in hand.
pub mod Yields
pub mod Programs
pub mod Cut
pub mod Whole
pub mod Outcome
