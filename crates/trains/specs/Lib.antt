-- What the contracts of this crate cite besides the yard's written meaning.
pub mod Walk
pub mod Turned
pub mod Ranges
