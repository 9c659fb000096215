pub mod Sender
pub mod Meaning
pub mod Call
pub mod Private
