pub mod Word
pub mod Given
pub mod Sender
pub mod Meaning
pub mod Answer
