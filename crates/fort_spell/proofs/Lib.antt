pub mod Streams
pub mod Nodes
pub mod Forms
pub mod Parts
pub mod Reports
