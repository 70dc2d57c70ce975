-- Laws: bytes that are left, members gathered by their places, and members in sheet order, by name.
pub mod Onward
pub mod Gathering
pub mod Fronting
pub mod Resolving
