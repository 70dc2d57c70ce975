pub mod Writing
pub mod Groups
pub mod Then
pub mod Called
pub mod Siblings
pub mod Alone
