pub mod Choice
pub mod Latest
pub mod PartCauses
pub mod Rows
pub mod Selections
pub mod Told
pub mod TraceParts
pub mod WriterTables
