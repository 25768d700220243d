pub mod Outward
pub mod Hits
pub mod Hygiene
pub mod Telling
pub mod Examples
pub mod Uses
pub mod Reaching
