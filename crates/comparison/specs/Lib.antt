pub mod Counted
pub mod Told
pub mod Makers
pub mod Agreed
