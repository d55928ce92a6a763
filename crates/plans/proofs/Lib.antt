-- Laws that the proofs of this crate cite, and in `Demand` what a caller of `check` or `replay` may rely on.
pub mod Worked
pub mod Replayed
pub mod Stages
pub mod Chain
pub mod AtStage
pub mod Demand
