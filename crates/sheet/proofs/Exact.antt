-- A sheet's bytes say a sheet exactly when they are its written form.
pub mod InLimits
pub mod Written
pub mod Bits
pub mod Fields
pub mod Structure
pub mod Collections
