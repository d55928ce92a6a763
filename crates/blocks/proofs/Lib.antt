-- Laws of the cheapest codes for the blocks of the trains.
pub mod Best
pub mod Blocks
pub mod Weights
pub mod ByTrain
pub mod Coding
