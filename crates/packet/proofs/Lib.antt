pub mod Seeking
pub mod Runs
pub mod Counting
pub mod Sending
pub mod Determined
