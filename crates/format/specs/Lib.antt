pub mod Ids
pub mod Kinds
