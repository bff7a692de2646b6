-- places of pairs, and tables filled place by place
pub mod Filling
-- tables that need no gate
pub mod Constants
-- once or more often, by way of one thing after the other
pub mod Warshall
-- one pair of what is made of others
pub mod Ways
