pub mod Scores
pub mod Queues
pub mod Orders
