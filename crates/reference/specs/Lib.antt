pub mod Number
pub mod Entity
pub mod Text
pub mod Xml
pub mod Place
