pub mod Laws
pub mod Steps
pub mod Entering
pub mod Eights
pub mod Folding
pub mod Numbers
pub mod Determined
