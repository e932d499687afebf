pub mod Law
pub mod Places
pub mod Views
