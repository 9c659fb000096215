pub mod Asking
pub mod Entering
pub mod Steps
pub mod Hearing
pub mod Following
pub mod Cutting
pub mod There
pub mod Determined
