pub mod LoopSteps
pub mod Passing
pub mod References
pub mod Undeclared
