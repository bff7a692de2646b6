-- the next picture
pub mod Nexts
pub mod Counting
-- the first number at which a call answers
pub mod Ranges
-- all pictures before the candidate have been tried
pub mod Passing
