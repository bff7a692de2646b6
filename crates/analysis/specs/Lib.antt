pub mod Views
pub mod Marking
-- the clause that refuses all decisions
pub mod Refusing
pub mod Keeping
