pub mod Laws
pub mod Passed
pub mod Examples
pub mod Measuring
