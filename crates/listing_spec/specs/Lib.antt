pub mod Apart
pub mod Described
pub mod Lines
pub mod Meaning
