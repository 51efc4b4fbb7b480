pub mod Ledger
pub mod Entered
pub mod Verdict
pub mod Pieces
pub mod DerivationPieces
