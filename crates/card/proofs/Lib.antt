-- The laws of this crate.
pub mod Calls
pub mod Demand
