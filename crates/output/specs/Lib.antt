pub mod Entry
pub mod Kept
pub mod Plans
pub mod Held
pub mod Call
