-- The laws of this crate, by topic.
pub mod Words
pub mod Places
pub mod Seeing
pub mod Drawing
