-- What the call promises, and what the contracts of this crate cite besides.
pub mod Fewest
pub mod Found
