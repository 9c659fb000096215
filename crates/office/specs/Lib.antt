pub mod Start
pub mod Answer
pub mod Meaning
pub mod Call
pub mod Private
