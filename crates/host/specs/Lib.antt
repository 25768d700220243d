pub mod Meaning
pub mod First
pub mod Names
pub mod Added
pub mod Kinds
