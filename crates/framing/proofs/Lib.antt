pub mod Firsts
pub mod Starts
pub mod Framed
pub mod Readers
pub mod InOrder
pub mod Numbers
