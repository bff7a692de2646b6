-- What the call promises.
pub mod Promise
-- What the calls under assumptions and for the first model promise.
pub mod Under
