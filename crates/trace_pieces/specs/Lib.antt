pub mod Pieces
pub mod Scanning
