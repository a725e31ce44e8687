pub mod LineSteps
pub mod Printing
pub mod Reporting
pub mod RowsTaken
