pub mod Sender
pub mod Word
pub mod Meaning
pub mod Settings
