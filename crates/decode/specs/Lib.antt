pub mod Place
pub mod Seen
pub mod Drain
pub mod Reader
pub mod View
pub mod Element
