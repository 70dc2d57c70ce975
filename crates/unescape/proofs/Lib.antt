pub mod Parse
pub mod Loops
pub mod Filling
