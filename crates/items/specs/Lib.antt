pub mod Under
pub mod Held
pub mod Steps
pub mod Accepted
pub mod Root
