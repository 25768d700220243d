pub mod Faults
pub mod Plans
pub mod Layout
pub mod Framing
pub mod Broken
pub mod Sections
pub mod Stages
