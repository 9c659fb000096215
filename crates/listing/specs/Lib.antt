pub mod Wants
pub mod Call
pub mod Runs
pub mod Private
