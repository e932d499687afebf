pub mod Blocks
pub mod Codes
pub mod Naming
pub mod DiskState
pub mod DiskMachine
pub mod DiskLaws
pub mod Meaning
