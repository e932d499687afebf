pub mod ClassTable
pub mod ReadBack
