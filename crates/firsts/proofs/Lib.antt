-- the order, and the least element
pub mod Order
-- a sieve leaves the first
pub mod Sieve
-- lex-leaders: places of bits, transpositions, and the theorem
pub mod Places
pub mod Leading
-- the same, as a chain of clauses
pub mod Chaining
pub mod Links
-- the first is reached bit by bit
pub mod Descent
pub mod Models
