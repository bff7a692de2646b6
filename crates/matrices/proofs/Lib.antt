pub mod Bits
pub mod Fill
pub mod Steps
pub mod Ranges
