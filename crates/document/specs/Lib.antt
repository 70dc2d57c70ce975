pub mod View
pub mod Reader
pub mod Scope
pub mod Text
pub mod Tags
pub mod Part
