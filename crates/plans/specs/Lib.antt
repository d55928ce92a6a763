-- What the contracts of this crate's inner functions cite besides the yard's written meaning.
pub mod Worked
