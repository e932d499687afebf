pub mod Codes
pub mod Standing
pub mod TapeState
pub mod TapeMachine
pub mod TapeLaws
pub mod Meaning
pub mod Cutting
pub mod ReelState
