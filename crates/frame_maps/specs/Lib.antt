pub mod FrameSets
