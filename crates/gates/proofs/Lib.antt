-- literals and what folds
pub mod Literals
-- three words more
pub mod Triples
-- gates that are added
pub mod Gates
-- claims that are added
pub mod Claims
-- clauses that are added
pub mod Clauses
-- what each choice of the inputs extends to
pub mod Runs
