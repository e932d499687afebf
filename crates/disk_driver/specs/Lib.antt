pub mod Programs
pub mod Theorems
