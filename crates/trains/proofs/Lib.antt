-- Laws of a walk over the trains, and of lists by car.
pub mod Walk
pub mod Filling
