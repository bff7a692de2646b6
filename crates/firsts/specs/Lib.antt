-- The first picture that has a property.
pub mod Orders
pub mod Sieves
pub mod Leaders
pub mod Chains
pub mod Descents
