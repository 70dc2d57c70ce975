-- Laws of the walks on every input: they go on, they do not depend on their fuel, and their step equations; and of views, children and
-- pieces of every table that obeys the rules.
pub mod Onward
pub mod Fuel
pub mod Steps
pub mod Tags
pub mod Placed
pub mod Inside
pub mod Short
pub mod Place
