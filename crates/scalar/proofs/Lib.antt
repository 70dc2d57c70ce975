pub mod Bytes
pub mod Texts
pub mod Reading
pub mod Searching
pub mod Joining
pub mod Calling
