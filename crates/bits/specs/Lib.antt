-- What the contracts of this crate cite besides the meaning of bits in yard.
pub mod Eyes
pub mod Sights
pub mod Fields
pub mod Pens
