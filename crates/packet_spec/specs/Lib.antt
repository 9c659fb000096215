pub mod Port
pub mod Contents
pub mod Escape
pub mod Frame
pub mod Sender
