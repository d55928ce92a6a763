-- Laws of answers: tests, asks, and what each of them says.
pub mod Verdict
pub mod Told
pub mod Asks
pub mod Tests
pub mod Rights
pub mod Larger
