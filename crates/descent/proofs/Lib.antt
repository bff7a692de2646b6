-- variables are settled one by one
pub mod Settling
