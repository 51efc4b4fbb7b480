pub mod CertCause
pub mod CertFaults
pub mod CertLine
pub mod CertText
pub mod CertWritten
pub mod Rechecked
pub mod CertRead
