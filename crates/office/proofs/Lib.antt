pub mod Putting
pub mod Taking
pub mod Sent
pub mod Cutting
pub mod Board
pub mod Determined
