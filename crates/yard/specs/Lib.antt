-- The written meaning of documents 01 and 02: definitions only. Laws about them stand in proofs/.
pub mod Words
pub mod Limits
pub mod Night
pub mod Codes
pub mod Replay
pub mod Waiting
pub mod Derived
pub mod Demands
pub mod Answers
pub mod Calls
pub mod Bits
pub mod Card
pub mod Price
pub mod Refusals
pub mod Lent
pub mod Trials
