pub mod Table
pub mod Encode
