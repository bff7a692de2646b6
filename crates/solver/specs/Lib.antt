-- Values that are a model.
pub mod Values
-- Assumptions.
pub mod Assumptions
-- What a solver shows.
pub mod Views
pub mod Keeping
