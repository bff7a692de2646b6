-- First models.
pub mod Firsts
