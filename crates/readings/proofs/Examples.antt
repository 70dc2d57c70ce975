-- What the definitions compute.
pub mod Answers
pub mod Asking
pub mod Collections
pub mod Edges
pub mod Places
pub mod Scalars
pub mod Strays
pub mod Tables
pub mod Worked
