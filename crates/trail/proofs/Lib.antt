-- the trail as a number
pub mod Numbers
-- decisions that stay, and assumptions
pub mod Assuming
-- what stands is true, and stands once
pub mod Placing
-- what is held when literals come and go
pub mod Holding
-- the same of the code's trail, step by step
pub mod Steps
