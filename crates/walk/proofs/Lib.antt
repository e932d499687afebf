pub mod Trails
pub mod Touching
pub mod SoundTrails
pub mod OwnAlone
