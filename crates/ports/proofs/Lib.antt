pub mod Determined
pub mod Says
pub mod Finding
pub mod Tables
