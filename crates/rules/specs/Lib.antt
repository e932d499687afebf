pub mod Rules
pub mod Areas
pub mod TakingUp
pub mod Soundness
