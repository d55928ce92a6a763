-- Laws of the fewest passes, and what whoever calls may rely on.
pub mod Numbers
pub mod Steps
pub mod Nights
pub mod Finding
pub mod Answered
pub mod Demand
pub mod Alike
