mod NamesAre
mod Steps
mod Walking
mod DistinctNames
mod PlainCalls
mod BuiltUnits
mod SoundUnits
pub mod Translating
