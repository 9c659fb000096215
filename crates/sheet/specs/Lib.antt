pub mod Counted
pub mod Call
pub mod Private
