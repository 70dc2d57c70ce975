-- Demand 3: what is written keeps what is promised, and the theorem.
pub mod Handed
pub mod Theorem
