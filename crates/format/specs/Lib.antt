pub mod Bytes
pub mod Classes
pub mod FlagBits
pub mod Layouts
pub mod Refusals
pub mod StatusWords
pub mod Laying
pub mod Texts
