pub mod EdgeLines
pub mod Ends
pub mod Rows
pub mod Written
