-- Laws of night cards.
pub mod Bits
pub mod Editions
pub mod Card
pub mod CardCalls
pub mod CardCut
