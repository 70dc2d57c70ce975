pub mod Demand
pub mod Asking
pub mod Called
