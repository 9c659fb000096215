pub mod Taking
pub mod Cutting
pub mod Within
pub mod Determined
pub mod Told
