-- The output of the program.
pub mod Lines
pub mod Reports
pub mod Rows
pub mod Waiting
