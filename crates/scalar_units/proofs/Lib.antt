pub mod Firsts
pub mod Counting
pub mod Scalars
pub mod Built
