pub mod Structure
pub mod Children
pub mod Unwrapped
pub mod Groups
