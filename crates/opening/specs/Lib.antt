pub mod Opening
pub mod Wanted
