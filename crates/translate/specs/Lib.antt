pub mod Frames
pub mod Translations
pub mod Kept
pub mod Fitting
pub mod Theorems
