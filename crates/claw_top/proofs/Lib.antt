mod Collecting
mod Loads
mod Ends
mod Refusing
mod Modes
mod Translating
mod Judging
