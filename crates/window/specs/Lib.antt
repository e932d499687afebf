pub mod Windows
pub mod Showing
