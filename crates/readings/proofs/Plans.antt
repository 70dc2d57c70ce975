-- Laws of plans: how they end, what they are made of, and the one induction over the readings.
pub mod Perform
pub mod Made
pub mod Bytes
pub mod Sources
pub mod Fields
pub mod Readings
pub mod Placed
