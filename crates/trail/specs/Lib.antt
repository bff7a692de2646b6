-- The trail: what it says of models, and why what builds it ends.
pub mod Views
pub mod Trails
pub mod Keeping
