-- Of a table that passes the drain: one view, what the walks meet, and pieces.
pub mod View
pub mod Walks
pub mod Pieces
