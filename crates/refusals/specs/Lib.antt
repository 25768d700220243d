pub mod Told
pub mod Line
