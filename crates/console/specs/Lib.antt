pub mod Handing
pub mod Codes
pub mod ConsoleState
pub mod ConsoleMachine
pub mod ConsoleLaws
pub mod Meaning
