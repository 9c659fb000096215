pub mod Page
pub mod Wants
pub mod Call
pub mod Private
