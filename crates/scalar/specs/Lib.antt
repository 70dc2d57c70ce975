pub mod Answers
pub mod Digits
pub mod Find
pub mod Whole
pub mod Calls
