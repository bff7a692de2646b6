-- clauses that follow
pub mod Following
