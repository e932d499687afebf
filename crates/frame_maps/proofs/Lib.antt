mod Flags
mod Puts
mod Runs
