pub mod Packing
pub mod Speaking
pub mod Evaluating
