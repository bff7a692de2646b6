pub mod Views
pub mod Looking
-- chains of watches
pub mod Watching
-- steps of a search
pub mod Searching
pub mod Keeping
-- the last literal
pub mod Settling
