pub mod Forms
pub mod Constructs
pub mod Statements
pub mod Steps
pub mod Runs
pub mod SmallForms
