-- permutations of the things below m
pub mod Permutations
-- a moved picture, and the theorem
pub mod Moves
