pub mod Core
pub mod CoreLaws
pub mod UnitMachine
pub mod Meaning
pub mod Lemmas
pub mod UnitLaws
