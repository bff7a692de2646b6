-- the bounds of places
pub mod Bounds
-- circuits that grow
pub mod Extending
-- links of a chain
pub mod Linking
pub mod Chaining
-- several chains
pub mod Leading
-- theorem: chains leave the first
pub mod Drawing
pub mod Breaking
