-- What the contracts of this crate cite besides the yard's written meaning, and the rule of the table.
pub mod Gap
pub mod Allowed
pub mod Ring
pub mod Wider
