-- The laws of this crate.
pub mod Writing
