-- Laws of one pass over a list: what is left of it, and what stands at the front of a buffer.
pub mod Range
pub mod Running
pub mod Left
pub mod Folds
pub mod Found
pub mod Positions
pub mod Front
