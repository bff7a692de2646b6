-- generic lemmas
pub mod Quantifiers
pub mod Places
pub mod Order
-- bytes are the writing of one description at most
pub mod Inversion
pub mod Unique
-- what is read at a place, from what is read of its operands
pub mod Parts
pub mod Operators
pub mod Depths
pub mod Operands
pub mod Sentences
