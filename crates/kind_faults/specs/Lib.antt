pub mod Needs
pub mod Holders
pub mod Fitting
pub mod Cases
pub mod Counts
pub mod InScopes
pub mod Spans
