pub mod Apart
pub mod Ending
pub mod Calling
pub mod Determined
