-- Laws that the proofs of this crate cite, and in `Replayed` what its callers need.
pub mod Usable
pub mod Replayed
