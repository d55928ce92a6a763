-- What the contracts of this crate cite besides the yard's written meaning.
pub mod Order
pub mod Round
