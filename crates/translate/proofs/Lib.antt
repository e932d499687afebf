pub mod Tables
pub mod Puts
pub mod Marks
pub mod Accepted
pub mod Leading
