pub mod Store
pub mod Agree
pub mod Cut
pub mod Chars
pub mod Library
pub mod Examples
