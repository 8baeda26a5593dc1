pub mod Texts
pub mod Forms
pub mod Reads
pub mod Automaton
pub mod Reading
pub mod Machine
pub mod Standing
pub mod Examples
