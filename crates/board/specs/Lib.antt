pub mod Source
pub mod Owed
pub mod Wants
pub mod Call
pub mod Runs
pub mod Private
