mod Advancing
pub mod Changing
