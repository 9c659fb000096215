pub mod Laying
pub mod Storing
pub mod Running
pub mod Determined
