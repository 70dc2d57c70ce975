pub mod All
pub mod Plans
pub mod Laws
pub mod Conditions
pub mod Demand
pub mod Examples
