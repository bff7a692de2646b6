-- what a look at a clause says of models
pub mod Seeing
-- steps of a search
pub mod Steps
