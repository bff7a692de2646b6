-- Gates and claims in words, and the assignments that go with them.
pub mod Words
-- Circuits of one kind of gate.
pub mod Circuits
-- What is seen of them.
pub mod Views
-- Their clauses.
pub mod Writing
-- What is proved of circuits themselves.
pub mod Theorems
