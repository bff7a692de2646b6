pub mod Views
pub mod Learning
pub mod Keeping
