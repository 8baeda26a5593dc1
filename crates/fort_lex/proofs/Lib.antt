mod Noting
mod Stating
mod Directing
mod Firsts
pub mod Passing
mod Marking
mod Placing
mod Lining
mod Unique
pub mod Few
pub mod LinePlaces
