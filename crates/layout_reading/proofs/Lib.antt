pub mod Elements
mod Texts
mod Cutting
mod Laying
mod Physical
mod Joining
mod Grouping
mod RowsRead
mod Classes
mod Numbers
mod Gaps
mod Unplacing
mod Spellings
mod Expressions
mod Keywords
mod Parts
mod Lists
mod Declarations
pub mod Outs
mod Statements
mod Standing
mod Plain
mod Marks
pub mod PrintedTrees
mod Bodies
mod Heads
mod UnitsRead
mod FilesRead
mod Whole
mod ProgramsRead
mod SmallProgram
mod PlainRows
mod FirstTokens
mod OneForm
mod OneProgram
mod OneReading
mod TextsTaken
mod WideSums
mod WideForms
mod WidePrinted
pub mod FreeNames
pub mod DefineNames
pub mod LineForms
pub mod ScalarUnits
mod SourcesWritten
