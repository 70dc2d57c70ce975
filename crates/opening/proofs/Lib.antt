pub mod Asked
pub mod Wanted
pub mod Last
pub mod Few
