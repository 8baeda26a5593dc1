pub mod StatementRuns
pub mod UnitRuns
pub mod FileRuns
pub mod Growth
pub mod SmallFile
