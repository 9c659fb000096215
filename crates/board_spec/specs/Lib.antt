pub mod Text
pub mod Meaning
pub mod Parts
pub mod Typed
