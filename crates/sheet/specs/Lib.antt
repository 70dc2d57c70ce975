pub mod Settings
pub mod Front
pub mod Sheet
pub mod Names
