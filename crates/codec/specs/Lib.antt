pub mod Told
pub mod Guard
pub mod Members
pub mod Structure
pub mod Collection
