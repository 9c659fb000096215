pub mod Places
pub mod Turns
pub mod Calling
pub mod Pushing
pub mod Pulling
pub mod Round
pub mod Cutting
pub mod Numbers
