-- Relations as tables of literals.
pub mod Tables
-- What is made of pairs of things, one by one.
pub mod Pairs
