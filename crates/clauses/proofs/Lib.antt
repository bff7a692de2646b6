-- clauses written into a store
pub mod Copies
-- literals and models
pub mod Literals
-- answers of a closure that is asked in turn
pub mod Answering
-- clauses that are kept
pub mod Retaining
-- stores that grow
pub mod Growing
