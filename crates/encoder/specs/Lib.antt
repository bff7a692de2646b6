-- What the circuit of an expression or a sentence says.
pub mod Encoding
-- What is proved of circuits of descriptions.
pub mod Theorems
