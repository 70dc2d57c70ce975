pub mod Characters
pub mod Tests
pub mod Bytes
pub mod Parts
pub mod Overwrite
pub mod Find
pub mod Decide
pub mod Every
