mod TextLemmas
mod Runs
mod FormCases
mod Ended
mod Pending
mod Growing
mod Fronts
mod Settling
pub mod Feeding
mod Unique
mod Standings
mod Made
pub mod Holding
