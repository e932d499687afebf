pub mod Decoding
pub mod AreaSteps
pub mod Passing
pub mod Shapes
pub mod Filling
