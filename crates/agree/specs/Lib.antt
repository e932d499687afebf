pub mod Correspondence
pub mod Agreement
