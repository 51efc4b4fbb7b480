pub mod Assignment
pub mod CnfText
pub mod Formula
pub mod ListedClause
pub mod Literal
pub mod Models
pub mod Sink
pub mod SinkFault
