pub mod Members
pub mod Asking
pub mod Gathering
pub mod Taking
pub mod Ending
pub mod Whole
pub mod Few
