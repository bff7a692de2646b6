-- Pictures, descriptions and their bytes: the definitions that every crate cites.
pub mod Pictures
pub mod Meaning
pub mod Bytes
pub mod Theorems
pub mod First
pub mod Reading
pub mod Heads
pub mod Shapes
pub mod Examples
