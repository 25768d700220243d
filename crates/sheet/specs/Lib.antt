pub mod Shape
pub mod Tree
pub mod Records
pub mod Causes
pub mod Steps
pub mod Lawful
pub mod Held
pub mod Drafts
