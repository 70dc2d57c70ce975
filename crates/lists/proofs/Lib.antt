pub mod Tests
pub mod Bytes
pub mod Parts
pub mod Overwrite
pub mod Decide
pub mod Every
