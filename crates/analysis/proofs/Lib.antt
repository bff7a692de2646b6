-- marks come and go
pub mod Marks
-- the clause that refuses all decisions
pub mod Refusals
