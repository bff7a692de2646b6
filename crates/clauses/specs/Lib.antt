-- Literals, clauses and assignments; clauses in memory.
pub mod Formulas
pub mod Views
pub mod Stores
pub mod Keeping
pub mod Retaining
pub mod Ordering
