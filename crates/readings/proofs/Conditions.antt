-- 01, "What each operation may refuse": no number where its condition does not hold.
pub mod Answers
pub mod Opening
pub mod View
pub mod Text
pub mod Place
pub mod Readings
pub mod Values
pub mod Scalar
pub mod Find
pub mod Whole
pub mod Numbers
