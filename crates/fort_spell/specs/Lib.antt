pub mod Text
pub mod Pieces
pub mod Rows
pub mod Expressions
pub mod Statements
pub mod Units
pub mod Stream
pub mod Report
