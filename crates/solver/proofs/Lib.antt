-- values and models
pub mod Checks
-- a clause more
pub mod Fixing
