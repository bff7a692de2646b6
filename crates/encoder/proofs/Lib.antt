-- variables of pictures
pub mod Inputs
-- circuits that grow
pub mod Growth
-- expressions and sentences, from their parts
pub mod Expressions
pub mod Sentences
-- whole descriptions, and pictures
pub mod Wholes
-- how many gates there are
pub mod Counts
