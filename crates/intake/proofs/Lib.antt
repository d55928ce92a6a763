-- The laws that the callers of this crate need.
pub mod Passed
