pub mod Firsts
pub mod Productive
pub mod Reach
pub mod Readings
pub mod Steps
pub mod Theory
pub mod Words
