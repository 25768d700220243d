pub mod Load
pub mod Sorted
