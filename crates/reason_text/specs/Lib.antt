pub mod Header
pub mod LineFault
pub mod MemberPart
pub mod OperationNumbers
pub mod OperationWord
pub mod ReasonLine
pub mod SourcePiece
