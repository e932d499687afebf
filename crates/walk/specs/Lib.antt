pub mod Walks
pub mod OwnBytes
pub mod SoundTrails
