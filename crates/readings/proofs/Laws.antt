-- Laws of outputs: what is written fits the room, pieces lie in the body, numbers are small, a place that is told with 7 is that of the
-- failing `&`, and groups come last, by rising member index.
pub mod Members
pub mod Fuel
pub mod Within
pub mod Inside
pub mod Find
pub mod Siblings
pub mod Fits
pub mod Few
pub mod Bounds
pub mod Grouped
pub mod Place
pub mod Room
pub mod Rising
