pub mod Keys
pub mod Rows
pub mod Records
pub mod Causes
pub mod Steps
