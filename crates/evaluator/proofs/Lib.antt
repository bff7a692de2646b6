-- pictures in words
pub mod Pictures
-- things spoken of
pub mod Environments
-- expressions and sentences, from their parts
pub mod Values
pub mod Truths
pub mod Judging
