-- the work words that have to be lent
pub mod Floors
-- each answer keeps the promise
pub mod Answering
