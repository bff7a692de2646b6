-- What a clause that follows does to the trail.
pub mod Turning
-- When clauses took part.
pub mod Using
