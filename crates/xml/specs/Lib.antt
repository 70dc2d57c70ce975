pub mod Grammar
pub mod Drain
pub mod Passed
pub mod Piece
